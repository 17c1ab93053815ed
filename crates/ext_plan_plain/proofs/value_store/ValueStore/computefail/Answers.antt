use Rattle.std.proofs.Common.{◌∙◌, refl, ap, sym}
use Rattle.ext_model.specs.declared.look.Look.{Look}
use Rattle.ext_model.specs.declared.look.Look.TheVariants as look
use Rattle.ext_plan_plain.specs.ValueStates.{Memory}
use Rattle.ext_plan_plain.specs.StepRuns.{computefail_by}
use Rattle.ext_plan_plain.specs.InnerSteps.{memory_of, place_of_call, state_view}
use Rattle.ext_plan_plain.proofs.Lacks.{computefail-found, computefail-met, says-by}
use Rattle.ext_plan_plain.proofs.value_store.ValueStore.computefail.Goals as goal
use Rattle.ext_plan.specs.StepCalls.{call_view}
use Rattle.ext_plan.specs.declared.reason.Reason.TheVariants as reasons
use Rattle.ext_plan.specs.Verdicts.{refused}

pub returns-in-Found : goal.returns-in-Found
returns-in-Found c =
    let call = call_view c.args.call.now in
    let place = place_of_call c.args.call.now c.args.key in
    let s = state_view c.args.self.now in
    let found = memory_of c.fail_found.result in
    c.fail_found.ensures ∙ computefail-found found call.name call.label place c.args.text.now s c.in-Found.at c.in-Found.number ∙ ap (computefail_by found call.name call.label place c.args.text.now s) (sym c.in-Found.is ∙ c.look.ensures)

pub returns-in-Absent : goal.returns-in-Absent
returns-in-Absent c =
    let call = call_view c.args.call.now in
    c.fail_claimed.ensures
    ∙ ap (computefail_by (memory_of c.fail_claimed.result) call.name call.label (place_of_call c.args.call.now c.args.key) c.args.text.now (state_view c.args.self.now)) (sym c.in-Absent.is ∙ c.look.ensures)

pub returns-in-Busy : goal.returns-in-Busy
returns-in-Busy c =
    let call = call_view c.args.call.now in
    let s = state_view c.args.self.now in
    let by = λ (found : Look) (m : Memory). computefail_by m call.name call.label (place_of_call c.args.call.now c.args.key) c.args.text.now s found in
    says-by (by (look.Busy c.in-Busy.field-0)) c.say_refused.result (refused call.name call.label reasons.Busy) s s c.say_refused.ensures refl refl refl
    ∙ ap (λ found. by found (memory_of c.say_refused.result)) (sym c.in-Busy.is ∙ c.look.ensures)

pub returns-in-Closed : goal.returns-in-Closed
returns-in-Closed c =
    let call = call_view c.args.call.now in
    let s = state_view c.args.self.now in
    let by = λ (found : Look) (m : Memory). computefail_by m call.name call.label (place_of_call c.args.call.now c.args.key) c.args.text.now s found in
    says-by (by (look.Closed c.in-Closed.field-0)) c.say_refused-in-Closed.result (refused call.name call.label reasons.Closed) s s c.say_refused-in-Closed.ensures refl refl refl
    ∙ ap (λ found. by found (memory_of c.say_refused-in-Closed.result)) (sym c.in-Closed.is ∙ c.look.ensures)

pub returns-in-Fault : goal.returns-in-Fault
returns-in-Fault c =
    let call = call_view c.args.call.now in
    let place = place_of_call c.args.call.now c.args.key in
    let s = state_view c.args.self.now in
    let found = memory_of c.fault_met_failing.result in
    c.fault_met_failing.ensures ∙ computefail-met found call.name call.label place c.args.text.now s c.in-Fault.at c.in-Fault.number ∙ ap (computefail_by found call.name call.label place c.args.text.now s) (sym c.in-Fault.is ∙ c.look.ensures)
