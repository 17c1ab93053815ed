use Rattle.std.proofs.Common.{ℕ, ◌≤◌, [], length, take, arith, length-append, length-take, refl}
use Rattle.std.proofs.lemmas.List.{take-append-le}
use Rattle.ext_run.specs.declared.fault.RunFault.TheVariants as faults
use Rattle.ext_run.proofs.ReadBytes.{Consumes-none, stops_at}
use Rattle.ext_run.proofs.input.read_more.Goals as goal

pub returns-in-Err : goal.returns-in-Err
returns-in-Err g c =
    let own = c.args.input.now.ok.0 in
    record { bytes = []; taken = Consumes-none _ _ c.in-Err.ensures.bytes; short = rw length-append (omega (arith, own, c.requires)); known = tt; long = λ is. absurd cc }

pub overflow_sub-limit : goal.overflow_sub-limit
overflow_sub-limit g c = omega (arith, c.len.ensures, c.requires)

pub returns-in_err-extend_from_slice : goal.returns-in_err-extend_from_slice
returns-in_err-extend_from_slice g c =
    let own = c.args.input.now.ok.0 in
    let bound = c.in-Ok.ensures.bound in
    stops_at _ _ _ _ _ c.from_residual.result faults.Memory c.from_residual.ensures.1 (record {
      bytes = take c.in-Ok.count c.read.new.buf;
      taken = c.in-Ok.ensures.bytes.0;
      short = rw (length-append, length-take) (omega (arith, bound.0, own, c.requires, c.min-room.ensures, c.read.auto.buf, c.len.ensures, length-take {A = ℕ}));
      known = tt;
      long = λ is. absurd cc;
    })

pub returns-then-len-limit : goal.returns-then-len-limit
returns-then-len-limit g c =
    let own = c.args.input.now.ok.0 in
    let bound = c.in-Ok.ensures.bound in
    let inside : c.in-Ok.count ≤ length c.read.new.buf = omega (arith, bound) in
    record {
      bytes = take c.in-Ok.count c.read.new.buf;
      taken = c.in-Ok.ensures.bytes.0;
      short = rw (length-append, length-take) (omega (arith, bound.0, own, c.requires, c.min-room.ensures, c.read.auto.buf, c.len.ensures, length-take {A = ℕ}));
      known = tt;
      long = λ is. rw (length-append, length-take) (omega (arith, inside, own, c.len-2.ensures, c.if-len-limit.true, c.in_ok-extend_from_slice.ensures.len, length-take {A = ℕ}));
    }

pub returns : goal.returns
returns g c =
    let own = c.args.input.now.ok.0 in
    let longer = c.extend_from_slice.new.self.ok.0 in
    let bound = c.in-Ok.ensures.bound in
    let inside : c.in-Ok.count ≤ length c.read.new.buf = omega (arith, bound) in
    record {
      bytes = take c.in-Ok.count c.read.new.buf;
      taken = c.in-Ok.ensures.bytes.0;
      kept = rw (c.in_ok-extend_from_slice.ensures.items, take-append-le _ _ _ inside) refl;
      counted = rw length-take (omega (arith, inside));
      short = omega (arith, longer, c.len-2.ensures, c.if-len-limit.false);
      ended = λ zero. c.in-Ok.ensures.bytes.1 zero (omega (arith, own, c.requires, c.min-room.ensures, c.read.auto.buf, c.len.ensures, length-take {A = ℕ}));
    }
