use Rattle.std.proofs.Common.{◌≡◌, ◌∙◌, false, ap, subst}
use Rattle.ext_lifecycle.specs.Endings.{is_successful}
use Rattle.ext_plan_plain.specs.StepRuns.{shown}
use Rattle.ext_plan_plain.specs.InnerSteps.{counted_found, state_view}
use Rattle.ext_plan_plain.proofs.Lacks.{found_unsaid}
use Rattle.ext_plan_plain.proofs.value_store.ValueStore.fail_found.Goals as goal
use Rattle.ext_plan.specs.StepCalls.{call_view}
use Rattle.ext_plan.specs.Verdicts.{none_verdict}

pub returns-in-Ok : goal.returns-in-Ok
returns-in-Ok c =
    let call = call_view c.args.call.now in
    let verdict = c.in-Ok.ensures.verdict ∙ ap (none_verdict call.name call.label) (c.shown.ensures ∙ ap shown c.value_of.ensures) in
    ap (λ v. counted_found v (state_view c.args.self.now)) verdict

pub returns-in-Err : goal.returns-in-Err
returns-in-Err c =
    let call = call_view c.args.call.now in
    let seen = ap (none_verdict call.name call.label) (c.shown.ensures ∙ ap shown c.value_of.ensures) in
    found_unsaid _ (state_view c.args.self.now) (subst (λ v. is_successful v ≡ false) seen c.in-Err.ensures.memory)
