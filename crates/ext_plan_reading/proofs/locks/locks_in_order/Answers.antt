use Rattle.std.proofs.Common.{◌∙◌, arith, refl, []}
use Rattle.std.proofs.lemmas.List.{drop_all}
use Rattle.std.proofs.lemmas.Result.{err_from_is_err_and}
use Rattle.ext_plan.proofs.Lists.{map-push}
use Rattle.ext_plan_reading.proofs.Lists.{map-at}
use Rattle.ext_plan_reading.proofs.Turns.{locks_go, locks_stop, locks_end, Fails-whole}
use Rattle.ext_plan_reading.proofs.locks.locks_in_order.Goals as goal

pub returns-in_err-lock : goal.returns-in_err-lock
returns-in_err-lock c =
    let p = err_from_is_err_and c.from_residual.result c.from_residual.ensures.1 in
    let more = map-at (λ t. t.now) c.args.texts.now c.loop-text.text-index (record { ref_ptr = (0, 0); now = [] }) (omega arith) in
    rw (p.1, p.2) (Fails-whole _ _ _ (λ h. c.loop-text.invariant ∙ rw more (locks_stop _ _ _ _ _ h)) c.in_err-lock.ensures)

pub loop-text-preserved : goal.loop-text-preserved
loop-text-preserved c =
    let more = map-at (λ t. t.now) c.args.texts.now c.loop-text.text-index (record { ref_ptr = (0, 0); now = [] }) (omega arith) in
    c.loop-text.invariant ∙ rw more (locks_go _ _ _ _ _ c.in_ok-lock.ensures ∙ rw (c.in_ok-push.ensures.items, map-push) refl)

pub returns : goal.returns
returns c = c.loop-text.invariant ∙ rw (drop_all c.loop-text.text-index c.args.texts.now (omega arith)) (locks_end _ _)
