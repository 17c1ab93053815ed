use Rattle.std.proofs.Common.{◌∙◌, ap, sym, subst}
use Rattle.ext_model.specs.declared.event.Act.TheVariants.{Abandon}
use Rattle.ext_plan_plain.specs.ValueStates.{after_act}
use Rattle.ext_plan_plain.specs.InnerSteps.{Keeps, IsNotKept, LacksGiven, place_of_call, state_view}
use Rattle.ext_plan_plain.proofs.Lacks.{refusal-gives}
use Rattle.ext_plan_plain.proofs.value_store.ValueStore.fill_claim.Goals as goal
use Rattle.ext_plan.specs.StepCalls.{call_view}
use Rattle.ext_plan.specs.Values.{value_view}

pub abandon-requires : goal.abandon-requires
abandon-requires c =
    let kept : IsNotKept (state_view c.args.self.now) (state_view c.keep.new.self) c.in-Ok-Err.why = subst (Keeps (value_view c.args.value) (state_view c.args.self.now) (state_view c.keep.new.self)) c.in-Ok-Err.field-0-is c.in-Ok-Err.ensures.kept in
    ap (λ at. (state_view c.keep.new.self).store.slots (at, c.args.key)) c.at-in-Ok-Err.ensures ∙ ap (λ s. s.store.slots (place_of_call c.args.call.now c.args.key)) kept.state ∙ c.requires

pub abandon-requires-in-Err : goal.abandon-requires-in-Err
abandon-requires-in-Err c =
    ap (λ at. (state_view c.keep.new.self).store.slots (at, c.args.key)) c.at-in-Err.ensures ∙ ap (λ s. s.store.slots (place_of_call c.args.call.now c.args.key)) c.in-Err.ensures.unchanged ∙ c.requires

pub returns-in-Ok-Err : goal.returns-in-Ok-Err
returns-in-Ok-Err c =
    let call = call_view c.args.call.now in
    let old = state_view c.args.self.now in
    let place = place_of_call c.args.call.now c.args.key in
    let value = value_view c.args.value in
    let kept : IsNotKept old (state_view c.keep.new.self) c.in-Ok-Err.why = subst (Keeps value old (state_view c.keep.new.self)) c.in-Ok-Err.field-0-is c.in-Ok-Err.ensures.kept in
    let state = c.abandon.ensures ∙ ap (λ at. after_act (Abandon (at, c.args.key)) (state_view c.keep.new.self)) c.at-in-Ok-Err.ensures ∙ ap (after_act (Abandon place)) kept.state in
    refusal-gives call.name call.label place value old (state_view c.abandon.new.self) c.in-Ok-Err.why c.say_refused.result c.say_refused.ensures kept.refused state

pub returns-in-Err : goal.returns-in-Err
returns-in-Err c =
    let call = call_view c.args.call.now in
    let old = state_view c.args.self.now in
    let place = place_of_call c.args.call.now c.args.key in
    let value = value_view c.args.value in
    let state = c.abandon-in-Err.ensures ∙ ap (λ at. after_act (Abandon (at, c.args.key)) (state_view c.keep.new.self)) c.at-in-Err.ensures ∙ ap (after_act (Abandon place)) c.in-Err.ensures.unchanged in
    subst (λ lack. LacksGiven lack call.name call.label place value old (state_view c.abandon-in-Err.new.self)) (sym c.in-Err.ensures.lacks) state
