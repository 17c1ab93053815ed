use Rattle.std.proofs.Common.{◌∙◌, arith, refl, []}
use Rattle.std.proofs.lemmas.List.{drop_all}
use Rattle.std.proofs.lemmas.Result.{err_from_is_err_and}
use Rattle.ext_plan.proofs.Lists.{map-push}
use Rattle.ext_plan_reading.proofs.Lists.{map-at}
use Rattle.ext_plan_reading.proofs.Turns.{steps_go, steps_stop, steps_end, Fails-whole}
use Rattle.ext_plan_reading.proofs.steps.steps_in_order.Goals as goal

pub returns-in_err-step : goal.returns-in_err-step
returns-in_err-step c =
    let p = err_from_is_err_and c.from_residual.result c.from_residual.ensures.1 in
    let more = map-at (λ t. t.now) c.args.texts.now c.loop-text.text-index (record { ref_ptr = (0, 0); now = [] }) (omega arith) in
    rw (p.1, p.2) (Fails-whole _ _ _ (λ h. c.loop-text.invariant ∙ rw more (steps_stop _ _ _ _ _ _ _ h)) c.in_err-step.ensures)

pub loop-text-preserved : goal.loop-text-preserved
loop-text-preserved c =
    let more = map-at (λ t. t.now) c.args.texts.now c.loop-text.text-index (record { ref_ptr = (0, 0); now = [] }) (omega arith) in
    c.loop-text.invariant ∙ rw more (steps_go _ _ _ _ _ _ _ c.in_ok-step.ensures ∙ rw (c.in_ok-push.ensures.items, map-push) refl)

pub returns : goal.returns
returns c = c.loop-text.invariant ∙ rw (drop_all c.loop-text.text-index c.args.texts.now (omega arith)) (steps_end _ _ _ _)
