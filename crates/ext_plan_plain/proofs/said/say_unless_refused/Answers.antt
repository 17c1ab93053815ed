use Rattle.ext_plan_plain.proofs.said.say_unless_refused.Goals as goal
use Rattle.ext_plan.specs.StepCalls.{call_view}
use Rattle.ext_plan.specs.Verdicts.{unless_refused}

pub returns : goal.returns
returns c =
    let call = call_view c.args.call.now in
    c.said.ensures (unless_refused call.name call.label c.args.why) c.unless_refused.ensures.verdict c.unless_refused.ensures.memory
