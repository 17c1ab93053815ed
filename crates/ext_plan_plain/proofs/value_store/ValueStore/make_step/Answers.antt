use Rattle.std.proofs.Common.{◌∙◌, Err, refl, ap, sym, subst}
use Rattle.ext_lifecycle.specs.declared.outcome.Outcome.{Outcome}
use Rattle.ext_lifecycle.specs.FaultTexts.{verdict_text}
use Rattle.ext_plan.specs.Plans.{step_view}
use Rattle.ext_plan_plain.specs.InnerSteps.{memory_of_step, state_view, step_end}
use Rattle.ext_plan_plain.specs.ValueStates.{enough}
use Rattle.ext_plan_plain.proofs.Few.{IsFew, step-few}
use Rattle.ext_plan_plain.proofs.value_store.ValueStore.make_step.Goals as goal
use Rattle.ext_plan.specs.StepCalls.{keys_in}

pub returns-in-Ok : goal.returns-in-Ok
returns-in-Ok c =
    let few = subst IsFew (sym c.in-Ok.ensures) (step-few (keys_in c.args.keys.now) enough c.args.path.now (step_view c.args.step.now) (state_view c.args.self.now)) in
    record { told = λ _. refl; end = (enough, c.in-Ok.ensures, λ _. refl); few = record { computed = few.computed; found = few.found } }

pub returns-in-Err : goal.returns-in-Err
returns-in-Err c =
    let found = memory_of_step (Err c.in-Err.lack) in
    let end = ap (step_end (state_view c.run_step.new.self)) c.outcome.ensures ∙ c.in-Err.ensures in
    let few = subst IsFew (sym end) (step-few (keys_in c.args.keys.now) found c.args.path.now (step_view c.args.step.now) (state_view c.args.self.now)) in
    record { told = λ differs. absurd (differs (ap (λ (o : Outcome). verdict_text o.verdict) c.outcome.ensures)); end = (found, end, λ unlacked. absurd cc); few = record { computed = few.computed; found = few.found } }
