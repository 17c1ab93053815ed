use Rattle.std.proofs.Common.{◌∙◌, refl, ap, sym}
use Rattle.ext_lifecycle.specs.Endings.{aborted, failed}
use Rattle.ext_plan.specs.Plans.{parts_view}
use Rattle.ext_plan_plain.specs.StepRuns.{StepEnd, ended, said_by, step_by}
use Rattle.ext_plan_plain.specs.ValueStates.{Memory}
use Rattle.ext_plan_plain.specs.InnerSteps.{memory_of_step, state_view}
use Rattle.ext_plan_plain.proofs.KeyedSteps.{lifted-end}
use Rattle.ext_plan_plain.proofs.Lacks.{says-by}
use Rattle.ext_plan_plain.proofs.value_store.ValueStore.run_step.Goals as goal
use Rattle.ext_plan.specs.StepCalls.{keys_in}

pub returns-in-Keyed : goal.returns-in-Keyed
returns-in-Keyed c =
    let found = memory_of_step c.run_keyed.result in
    c.run_keyed.ensures ∙ ap (λ step. step_by (keys_in c.args.keys.now) found c.args.path.now step (state_view c.args.self.now)) (ap parts_view (sym c.in-Keyed.is) ∙ c.parts.ensures)

pub returns-in-Fail : goal.returns-in-Fail
returns-in-Fail c =
    let s = state_view c.args.self.now in
    let verdict = failed c.in-Fail.text.now in
    let says : Memory → StepEnd = λ m. said_by m (ended verdict s) in
    lifted-end says s c.say_failed.result c.of.result c.of.ensures (says-by says c.say_failed.result verdict s s c.say_failed.ensures refl refl refl)
    ∙ ap (λ step. step_by (keys_in c.args.keys.now) (memory_of_step c.of.result) c.args.path.now step s) (ap parts_view (sym c.in-Fail.is) ∙ c.parts.ensures)

pub returns-in-Abort : goal.returns-in-Abort
returns-in-Abort c =
    let s = state_view c.args.self.now in
    let verdict = aborted c.in-Abort.text.now in
    let says : Memory → StepEnd = λ m. said_by m (ended verdict s) in
    lifted-end says s c.say_aborted.result c.of-in-Abort.result c.of-in-Abort.ensures (says-by says c.say_aborted.result verdict s s c.say_aborted.ensures refl refl refl)
    ∙ ap (λ step. step_by (keys_in c.args.keys.now) (memory_of_step c.of-in-Abort.result) c.args.path.now step s) (ap parts_view (sym c.in-Abort.is) ∙ c.parts.ensures)
