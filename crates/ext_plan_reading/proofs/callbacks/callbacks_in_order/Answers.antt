use Rattle.std.proofs.Common.{◌∙◌, arith, refl}
use Rattle.std.proofs.lemmas.List.{drop_all}
use Rattle.std.proofs.lemmas.Result.{err_from_is_err_and}
use Rattle.ext_plan.proofs.Lists.{map-push, map-drop}
use Rattle.ext_plan_reading.specs.InnerSketches.{words_view}
use Rattle.ext_plan_reading.proofs.Turns.{callbacks_go, callbacks_stop, callbacks_end, Fails-whole}
use Rattle.ext_plan_reading.proofs.callbacks.callbacks_in_order.Goals as goal

pub returns-in_err-steps : goal.returns-in_err-steps
returns-in_err-steps c =
    let p = err_from_is_err_and c.from_residual.result c.from_residual.ensures.1 in
    let more = map-drop words_view c.args.lists.now c.loop-texts.texts-index c.texts-item.result (omega arith) c.texts-item.is in
    rw (p.1, p.2) (Fails-whole _ _ _ (λ h. c.loop-texts.invariant ∙ rw more (callbacks_stop _ _ _ _ _ _ _ h)) (rw c.as_slice.ensures.value at c.in_err-steps.ensures))

pub loop-texts-preserved : goal.loop-texts-preserved
loop-texts-preserved c =
    let more = map-drop words_view c.args.lists.now c.loop-texts.texts-index c.texts-item.result (omega arith) c.texts-item.is in
    c.loop-texts.invariant ∙ rw more (callbacks_go _ _ _ _ _ _ _ (rw c.as_slice.ensures.value at c.in_ok-steps.ensures) ∙ rw (c.in_ok-push.ensures.items, map-push) refl)

pub returns : goal.returns
returns c = c.loop-texts.invariant ∙ rw (drop_all c.loop-texts.texts-index c.args.lists.now (omega arith)) (callbacks_end _ _ _ _)
