use Rattle.std.proofs.Common.{◌∙◌, ap, sym, subst}
use Rattle.ext_model.specs.declared.event.Act.TheVariants.{Abandon, Fail}
use Rattle.ext_plan_plain.specs.ValueStates.{after_act}
use Rattle.ext_plan_plain.specs.InnerSteps.{Keeps, IsKeptAs, IsNotKept, LacksFailed, place_of_call, state_view}
use Rattle.ext_plan_plain.proofs.Lacks.{fault-back, fault-kept, passes, refusal-fails}
use Rattle.ext_plan_plain.proofs.value_store.ValueStore.end_failed.Goals as goal
use Rattle.ext_plan.specs.StepCalls.{call_view}
use Rattle.ext_plan.specs.Values.{ValueText, value_view}

pub returns-then-not-keeps_faults : goal.returns-then-not-keeps_faults
returns-then-not-keeps_faults c =
    let call = call_view c.args.call.now in
    let old = state_view c.args.self.now in
    let new = state_view c.abandon.new.self in
    let state = c.abandon.ensures ∙ ap (λ at. after_act (Abandon (at, c.args.key)) old) c.at.ensures in
    fault-back call.name call.label (place_of_call c.args.call.now c.args.key) c.args.text.now old new c.of.result (sym c.if-not-keeps_faults.ensures) state (passes c.of.result new c.of.ensures.verdict c.of.ensures.computed c.of.ensures.found)

pub fail-requires : goal.fail-requires
fail-requires c =
    let old = state_view c.args.self.now in
    let mid = state_view c.keep.new.self in
    let kept : IsKeptAs (value_view c.not_closeable.result) old mid c.in-Ok-Ok.number = subst (Keeps (value_view c.not_closeable.result) old mid) c.in-Ok-Ok.field-0-is c.in-Ok-Ok.ensures.kept in
    ap (λ at. mid.store.slots (at, c.args.key)) c.at-in-Ok-Ok.ensures ∙ kept.slots (place_of_call c.args.call.now c.args.key) ∙ c.requires

pub returns-in-Ok-Ok : goal.returns-in-Ok-Ok
returns-in-Ok-Ok c =
    let call = call_view c.args.call.now in
    let old = state_view c.args.self.now in
    let mid = state_view c.keep.new.self in
    let new = state_view c.fail.new.self in
    let number = c.in-Ok-Ok.number in
    let kept : IsKeptAs (value_view c.not_closeable.result) old mid number = subst (Keeps (value_view c.not_closeable.result) old mid) c.in-Ok-Ok.field-0-is c.in-Ok-Ok.ensures.kept in
    let state = c.fail.ensures ∙ ap (λ at. after_act (Fail (at, c.args.key) number) mid) c.at-in-Ok-Ok.ensures in
    let passed = passes c.of-in-Ok-Ok.result new c.of-in-Ok-Ok.ensures.verdict c.of-in-Ok-Ok.ensures.computed c.of-in-Ok-Ok.ensures.found in
    fault-kept call.name call.label (place_of_call c.args.call.now c.args.key) c.args.text.now old mid new number c.of-in-Ok-Ok.result (sym c.if-not-keeps_faults.ensures)
    (subst (λ (v : ValueText). IsKeptAs v old mid number) c.not_closeable.ensures kept) state passed

pub abandon-requires-in-Ok-Err : goal.abandon-requires-in-Ok-Err
abandon-requires-in-Ok-Err c =
    let old = state_view c.args.self.now in
    let mid = state_view c.keep.new.self in
    let kept : IsNotKept old mid c.in-Ok-Err.why = subst (Keeps (value_view c.not_closeable.result) old mid) c.in-Ok-Err.field-0-is c.in-Ok-Err.ensures.kept in
    ap (λ at. mid.store.slots (at, c.args.key)) c.at-in-Ok-Err.ensures ∙ ap (λ s. s.store.slots (place_of_call c.args.call.now c.args.key)) kept.state ∙ c.requires

pub returns-in-Ok-Err : goal.returns-in-Ok-Err
returns-in-Ok-Err c =
    let call = call_view c.args.call.now in
    let old = state_view c.args.self.now in
    let mid = state_view c.keep.new.self in
    let place = place_of_call c.args.call.now c.args.key in
    let kept : IsNotKept old mid c.in-Ok-Err.why = subst (Keeps (value_view c.not_closeable.result) old mid) c.in-Ok-Err.field-0-is c.in-Ok-Err.ensures.kept in
    let state = c.abandon-in-Ok-Err.ensures ∙ ap (λ at. after_act (Abandon (at, c.args.key)) mid) c.at-in-Ok-Err.ensures ∙ ap (after_act (Abandon place)) kept.state in
    refusal-fails call.name call.label place c.args.text.now old (state_view c.abandon-in-Ok-Err.new.self) c.in-Ok-Err.why c.say_refused.result c.say_refused.ensures (sym c.if-not-keeps_faults.ensures) kept.refused state

pub abandon-requires-in-Err : goal.abandon-requires-in-Err
abandon-requires-in-Err c =
    ap (λ at. (state_view c.keep.new.self).store.slots (at, c.args.key)) c.at-in-Err.ensures ∙ ap (λ s. s.store.slots (place_of_call c.args.call.now c.args.key)) c.in-Err.ensures.unchanged ∙ c.requires

pub returns-in-Err : goal.returns-in-Err
returns-in-Err c =
    let call = call_view c.args.call.now in
    let old = state_view c.args.self.now in
    let mid = state_view c.keep.new.self in
    let place = place_of_call c.args.call.now c.args.key in
    let new = state_view c.abandon-in-Err.new.self in
    let state = c.abandon-in-Err.ensures ∙ ap (λ at. after_act (Abandon (at, c.args.key)) mid) c.at-in-Err.ensures ∙ ap (after_act (Abandon place)) c.in-Err.ensures.unchanged in
    subst (λ lack. LacksFailed lack call.name call.label place c.args.text.now old new) (sym c.in-Err.ensures.lacks) (sym c.if-not-keeps_faults.ensures, state)
