use Rattle.std.proofs.Common.{◌∙◌, subst}
use Rattle.ext_plan_plain.specs.InnerSteps.{IsKeptAs, IsNotKept, Keeps, state_view}
use Rattle.ext_plan_plain.proofs.KeyedSteps.{kept-full-says, kept-goes, numbered-drawn, unkept-says}
use Rattle.ext_plan_plain.proofs.value_store.ValueStore.put_step.Goals as goal
use Rattle.ext_plan.specs.StepCalls.{call_view}
use Rattle.ext_plan.specs.Values.{value_view}

pub put_value-requires : goal.put_value-requires
put_value-requires c =
    let old = state_view c.args.self.now in
    let kept = state_view c.keep.new.self in
    let keeps : IsKeptAs (value_view c.args.value) old kept c.in-Ok-Ok.number = subst (Keeps (value_view c.args.value) old kept) c.in-Ok-Ok.field-0-is c.in-Ok-Ok.ensures.kept in
    keeps.drawn ∙ numbered-drawn c.args.call.now.key.now kept (state_view c.declare.new.self) c.in_ok-why-in-Ok-Ok.field-0 c.in-Ok.key c.in_ok-why-in-Ok-Ok.ensures c.in-Ok.is

pub returns-in-Ok-Err : goal.returns-in-Ok-Err
returns-in-Ok-Err c = λ made.
    let value = value_view c.args.value in
    let old = state_view c.args.self.now in
    let mid = state_view c.keep.new.self in
    let kept : IsNotKept old mid c.in-Ok-Err.why = subst (Keeps value old mid) c.in-Ok-Err.field-0-is c.in-Ok-Err.ensures.kept in
    unkept-says made (call_view c.args.call.now) value old mid c.in-Ok-Err.why c.say_refused.result c.of.result kept c.say_refused.ensures c.of.ensures

pub returns-in-Err-2 : goal.returns-in-Err-2
returns-in-Err-2 c = λ made.
    let value = value_view c.args.value in
    let old = state_view c.args.self.now in
    let kept = state_view c.keep.new.self in
    let keeps : IsKeptAs value old kept c.in-Ok-Ok.number = subst (Keeps value old kept) c.in-Ok-Ok.field-0-is c.in-Ok-Ok.ensures.kept in
    kept-full-says made (call_view c.args.call.now) value old kept (state_view c.declare.new.self) c.in-Ok-Ok.number c.in_ok-why-in-Ok-Ok.field-0 c.in-Err-2.why c.say_refused-in-Err-2.result c.of-in-Err-2.result
    keeps c.in_ok-why-in-Ok-Ok.ensures c.in-Err-2.is c.say_refused-in-Err-2.ensures c.of-in-Err-2.ensures

pub returns-in-Ok : goal.returns-in-Ok
returns-in-Ok c = λ made.
    let value = value_view c.args.value in
    let old = state_view c.args.self.now in
    let kept = state_view c.keep.new.self in
    let keeps : IsKeptAs value old kept c.in-Ok-Ok.number = subst (Keeps value old kept) c.in-Ok-Ok.field-0-is c.in-Ok-Ok.ensures.kept in
    kept-goes made (call_view c.args.call.now) value old kept (state_view c.declare.new.self) (state_view c.put_value.new.self) c.in-Ok-Ok.number c.in_ok-why-in-Ok-Ok.field-0 c.in-Ok.key c.put_value.result c.of-in-Ok.result
    keeps c.in_ok-why-in-Ok-Ok.ensures c.in-Ok.is c.put_value.ensures.end c.put_value.ensures.value c.of-in-Ok.ensures
