use Rattle.std.proofs.Common.{ℕ}
use Rattle.ext_plan.specs.StepCalls.{call_view}
use Rattle.ext_plan_plain.specs.InnerSteps.{state_view}
use Rattle.ext_plan_plain.specs.StepRuns.{StepEnd, acts_by}
use Rattle.ext_plan_plain.specs.ValueStates.{Memory, ValueState}
use Rattle.ext_plan_plain.proofs.KeyedSteps.{full-says, numbered-goes}
use Rattle.ext_plan_plain.proofs.value_store.ValueStore.act_step.Goals as goal

pub returns-in-Err : goal.returns-in-Err
returns-in-Err c = λ made.
    let call = call_view c.args.call.now in
    let does : Memory → ℕ → ValueState → StepEnd = λ m. acts_by m c.args.step.word call c.args.step.text.now in
    full-says made call does (state_view c.args.self.now) (state_view c.declare.new.self) c.in_ok-why.field-0 c.in-Err.why c.say_refused.result c.of.result c.in_ok-why.ensures c.in-Err.is c.say_refused.ensures c.of.ensures

pub returns-in-Ok : goal.returns-in-Ok
returns-in-Ok c = λ made.
    let call = call_view c.args.call.now in
    let does : Memory → ℕ → ValueState → StepEnd = λ m. acts_by m c.args.step.word call c.args.step.text.now in
    numbered-goes made call does (state_view c.args.self.now) (state_view c.declare.new.self) (state_view c.act.new.self) c.in_ok-why.field-0 c.in-Ok.key c.act.result c.of-in-Ok.result c.in_ok-why.ensures c.in-Ok.is c.act.ensures c.of-in-Ok.ensures
