use Rattle.std.proofs.Common.{◌∙◌, refl, ap, sym}
use Rattle.ext_model.specs.declared.look.Look.{Look}
use Rattle.ext_model.specs.declared.look.Look.TheVariants as look
use Rattle.ext_plan_plain.specs.ValueStates.{Memory}
use Rattle.ext_plan_plain.specs.StepRuns.{compute_by, compute_looked}
use Rattle.ext_plan_plain.specs.InnerSteps.{memory_of, place_of_call, state_view}
use Rattle.ext_plan_plain.proofs.Lacks.{compute-met, says-by}
use Rattle.ext_plan_plain.proofs.value_store.ValueStore.compute.Goals as goal
use Rattle.ext_plan.specs.StepCalls.{call_view}
use Rattle.ext_plan.specs.Values.{value_view}
use Rattle.ext_plan.specs.declared.reason.Reason.TheVariants as reasons
use Rattle.ext_plan.specs.Verdicts.{refused}

pub returns-in-Found : goal.returns-in-Found
returns-in-Found c =
    let call = call_view c.args.call.now in
    ap (compute_looked call.name call.label (place_of_call c.args.call.now c.args.key) (value_view c.args.value) (state_view c.args.self.now)) (sym c.in-Found.is ∙ c.look.ensures)

pub returns-in-Absent : goal.returns-in-Absent
returns-in-Absent c =
    let call = call_view c.args.call.now in
    c.compute_absent.ensures
    ∙ ap (compute_by (memory_of c.compute_absent.result) call.name call.label (place_of_call c.args.call.now c.args.key) (value_view c.args.value) (state_view c.args.self.now)) (sym c.in-Absent.is ∙ c.look.ensures)

pub returns-in-Busy : goal.returns-in-Busy
returns-in-Busy c =
    let call = call_view c.args.call.now in
    let s = state_view c.args.self.now in
    let by = λ (found : Look) (m : Memory). compute_by m call.name call.label (place_of_call c.args.call.now c.args.key) (value_view c.args.value) s found in
    says-by (by (look.Busy c.in-Busy.field-0)) c.say_refused.result (refused call.name call.label reasons.Busy) s s c.say_refused.ensures refl refl refl
    ∙ ap (λ found. by found (memory_of c.say_refused.result)) (sym c.in-Busy.is ∙ c.look.ensures)

pub returns-in-Closed : goal.returns-in-Closed
returns-in-Closed c =
    let call = call_view c.args.call.now in
    let s = state_view c.args.self.now in
    let by = λ (found : Look) (m : Memory). compute_by m call.name call.label (place_of_call c.args.call.now c.args.key) (value_view c.args.value) s found in
    says-by (by (look.Closed c.in-Closed.field-0)) c.say_refused-in-Closed.result (refused call.name call.label reasons.Closed) s s c.say_refused-in-Closed.ensures refl refl refl
    ∙ ap (λ found. by found (memory_of c.say_refused-in-Closed.result)) (sym c.in-Closed.is ∙ c.look.ensures)

pub returns-in-Fault : goal.returns-in-Fault
returns-in-Fault c =
    let call = call_view c.args.call.now in
    let place = place_of_call c.args.call.now c.args.key in
    let s = state_view c.args.self.now in
    let found = memory_of c.fault_met.result in
    c.fault_met.ensures
    ∙ compute-met found call.name call.label place (value_view c.args.value) s c.in-Fault.at c.in-Fault.number
    ∙ ap (compute_by found call.name call.label place (value_view c.args.value) s) (sym c.in-Fault.is ∙ c.look.ensures)
