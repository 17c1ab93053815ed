use Rattle.ext_plan.specs.Plans.{plan_view}
use Rattle.ext_plan.proofs.PlanCalls.{are_short}
use Rattle.ext_plan_parallel.proofs.plan_suite.PlanSuiteSuiteStoredValue.call.Goals as goal

pub run-end-requires-clause-short : goal.run-end-requires-clause-short
run-end-requires-clause-short g c = are_short (plan_view c.self.inside.plan.now) c.args.call.now c.steps_of.result.now c.steps_of.ensures c.self.invariant.short
