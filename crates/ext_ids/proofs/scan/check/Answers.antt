use Rattle.std.proofs.Common.{◌≡◌, ◌≢◌, ◌<◌, ◌+◌, ◌∙◌, arith, rules, length, get_or, refl, ◌-◌}
use Rattle.std.proofs.lemmas.Result.{err_from_is_err_and}
use Rattle.ext_ids.proofs.Steps.{at_fault, at_end, at_raw, at_slash, read_empty, read_some, segments_end, IsOk-cons}
use Rattle.ext_ids.proofs.scan.check.Goals as goal

pub returns-then-is_empty-clause-fault : goal.returns-then-is_empty-clause-fault
returns-then-is_empty-clause-fault c = read_empty c.args.text.now (search rules)

pub loop-init : goal.loop-init
loop-init c =
    let some : length c.args.text.now ≢ 0 = search rules in
    let all = read_some c.args.text.now some in
    record { within = omega arith; ok = λ h. rw all h; fault = λ e h. all ∙ h }

pub returns-in_err-ends-clause-fault : goal.returns-in_err-ends-clause-fault
returns-in_err-ends-clause-fault c =
    let p = err_from_is_err_and c.from_residual.result c.from_residual.ensures.1 in
    let h : c.loop.counter < 16 = omega arith in
    rw (p.1, p.2) (c.loop.invariant.fault _ (at_fault c.loop.counter c.args.text.now c.loop.at _ h c.in_err-ends.ensures.exact))

pub returns-then-next-text-clause-ok : goal.returns-then-next-text-clause-ok
returns-then-next-text-clause-ok c =
    let h : c.loop.counter < 16 = omega arith in
    let whole : c.in_ok-ends.ends.value + 1 ≡ length c.args.text.now = omega arith in
    c.loop.invariant.ok (rw (at_end c.loop.counter c.args.text.now c.loop.at (c.in_ok-ends.ends.kind, c.in_ok-ends.ends.value) h c.in_ok-ends.ensures.exact whole) refl)

pub returns-then-text-next-ne47-clause-fault : goal.returns-then-text-next-ne47-clause-fault
returns-then-text-next-ne47-clause-fault c =
    let h : c.loop.counter < 16 = omega arith in
    let more : c.in_ok-ends.ends.value + 1 ≢ length c.args.text.now = omega arith in
    let other : get_or c.args.text.now (c.in_ok-ends.ends.value + 1) 0 ≢ 47 = search rules in
    c.loop.invariant.fault _ (at_raw c.loop.counter c.args.text.now c.loop.at (c.in_ok-ends.ends.kind, c.in_ok-ends.ends.value) h c.in_ok-ends.ensures.exact more other)

pub loop-preserved : goal.loop-preserved
loop-preserved c =
    let h : c.loop.counter < 16 = omega arith in
    let more : c.in_ok-ends.ends.value + 1 ≢ length c.args.text.now = omega arith in
    let slash : get_or c.args.text.now (c.in_ok-ends.ends.value + 1) 0 ≡ 47 = search rules in
    let step = at_slash c.loop.counter c.args.text.now c.loop.at (c.in_ok-ends.ends.kind, c.in_ok-ends.ends.value) h c.in_ok-ends.ensures.exact more slash in
    let two : c.in_ok-ends.ends.value + 1 + 1 ≡ c.in_ok-ends.ends.value + 2 = omega arith in
    record {
      within = omega (arith, more, c.in_ok-ends.ensures.order);
      ok = λ k. c.loop.invariant.ok (rw step (IsOk-cons _ _ (rw (← two) k)));
      fault = λ e k. c.loop.invariant.fault e (rw (step, ← two, k) refl);
    }

pub returns-clause-fault : goal.returns-clause-fault
returns-clause-fault c =
    let none : 16 - c.loop.counter ≡ 0 = omega arith in
    c.loop.invariant.fault _ (rw none (segments_end c.args.text.now c.loop.at))
