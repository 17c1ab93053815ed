use Rattle.ext_plan.specs.Plans.{plan_view}
use Rattle.ext_plan.proofs.PlanCalls.{are_short}
use Rattle.ext_plan_plain.proofs.setting.Setting.steps_of.Goals as goal

pub returns-clause-short : goal.returns-clause-short
returns-clause-short c = are_short (plan_view c.args.self.now.plan.now) c.args.call.now c.steps_of.result.now c.steps_of.ensures c.args.self.now.short
