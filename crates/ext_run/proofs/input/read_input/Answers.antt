use Rattle.std.proofs.Common.{◌≡◌, ◌+◌, length, arith, length-append, ap, ◌∙◌, sym, subst}
use Rattle.std.specs.Io.KnownBytes.{Consumes}
use Rattle.ext_run.specs.Reports.{IsReadFault}
use Rattle.ext_run.proofs.ReadBytes.{Consumes-all, Consumes-long, Consumes-more, fault_is, fault_same, not_ok}
use Rattle.ext_run.proofs.input.read_input.Goals as goal

pub returns-in_err-count : goal.returns-in_err-count
returns-in_err-count g c =
    let errs = c.from_residual.ensures.1 in
    let stops = rw c.input_limit-limit.ensures at c.in_err-count.ensures in
    let read = Consumes-more _ _ _ _ _ c.loop.invariant.taken stops.taken in
    record {
      whole = not_ok _ _ c.from_residual.result errs;
      short = not_ok _ _ c.from_residual.result errs;
      long = λ is. Consumes-long _ _ _ _ read (stops.long (fault_same c.from_residual.result _ _ errs is));
      taken = (_, stops.short, read);
      faults = fault_is IsReadFault c.from_residual.result _ errs stops.known;
    }

pub returns-then-count-eq0 : goal.returns-then-count-eq0
returns-then-count-eq0 g c =
    let more = c.in_ok-count.ensures in
    let read = subst (Consumes _ _) (sym more.kept) (Consumes-more _ _ _ _ _ c.loop.invariant.taken more.taken) in
    record {
      whole = Consumes-all _ _ _ read (more.ended c.if-count-eq0.true);
      short = rw c.input_limit-limit.ensures at more.short;
      long = λ is. absurd cc;
      taken = (_, omega (arith, more.short, c.input_limit-limit.ensures), read);
      faults = tt;
    }

pub loop-preserved : goal.loop-preserved
loop-preserved g c =
    let more = c.in_ok-count.ensures in
    let own = c.read_more.new.input.ok.0 in
    let before = c.loop.input.ok.0 in
    let longer : length c.read_more.new.input.items ≡ length c.loop.input.items + length more.bytes = ap length more.kept ∙ length-append c.loop.input.items more.bytes in
    record {
      turns = omega (arith, own, before, longer, more.counted, c.if-count-eq0.false, c.loop.invariant.turns);
      short = omega (arith, own, more.short);
      taken = subst (Consumes _ _) (sym more.kept) (Consumes-more _ _ _ _ _ c.loop.invariant.taken more.taken);
    }
