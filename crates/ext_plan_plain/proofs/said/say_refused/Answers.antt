use Rattle.ext_plan_plain.proofs.Lacks.{never-successful}
use Rattle.ext_plan_plain.proofs.said.say_refused.Goals as goal
use Rattle.ext_plan.specs.StepCalls.{call_view}
use Rattle.ext_plan.specs.Verdicts.{refused}

pub returns : goal.returns
returns c =
    let call = call_view c.args.call.now in
    c.said.ensures (refused call.name call.label c.args.why) c.refused.ensures (never-successful c.refused.result call.name call.label c.args.why)
