use Rattle.std.proofs.Common.{◌∙◌, refl, ap}
use Rattle.ext_plan_plain.specs.StepRuns.{ended, said_by, shown_fault}
use Rattle.ext_plan_plain.specs.InnerSteps.{memory_of, state_view}
use Rattle.ext_plan_plain.proofs.Lacks.{says-by}
use Rattle.ext_plan_plain.proofs.value_store.ValueStore.fault_met_failing.Goals as goal
use Rattle.ext_plan.specs.StepCalls.{call_view}
use Rattle.ext_plan.specs.Verdicts.{seen_view, fail_verdict}

pub returns : goal.returns
returns c =
    let call = call_view c.args.call.now in
    let s = state_view c.args.self.now in
    let verdict = fail_verdict call.name call.label c.args.text.now (seen_view c.shown_fault.result) in
    says-by (λ m. said_by m (ended verdict s)) c.said.result verdict s s (c.said.ensures verdict c.fail_verdict.ensures.verdict c.fail_verdict.ensures.memory) refl refl refl
    ∙ ap (λ seen. said_by (memory_of c.said.result) (ended (fail_verdict call.name call.label c.args.text.now seen) s)) (c.shown_fault.ensures ∙ ap shown_fault c.value_of.ensures)
