use Rattle.std.proofs.Common.{◌∙◌, refl, ap}
use Rattle.ext_plan_plain.specs.StepRuns.{ended, said_by}
use Rattle.ext_plan_plain.specs.InnerSteps.{memory_of, state_view}
use Rattle.ext_plan_plain.proofs.Lacks.{says-by}
use Rattle.ext_plan_plain.proofs.value_store.ValueStore.none.Goals as goal
use Rattle.ext_plan.specs.StepCalls.{call_view}
use Rattle.ext_plan.specs.Verdicts.{seen_view, none_verdict}

pub returns : goal.returns
returns c =
    let call = call_view c.args.call.now in
    let s = state_view c.args.self.now in
    let verdict = none_verdict call.name call.label (seen_view c.see.result) in
    says-by (λ m. said_by m (ended verdict s)) c.said.result verdict s s (c.said.ensures verdict c.none_verdict.ensures.verdict c.none_verdict.ensures.memory) refl refl refl
    ∙ ap (λ seen. said_by (memory_of c.said.result) (ended (none_verdict call.name call.label seen) s)) c.see.ensures
