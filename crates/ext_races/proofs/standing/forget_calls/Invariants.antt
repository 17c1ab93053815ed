use Rattle.std.proofs.Common.{take}
use Rattle.std.specs.List.{flat_map}
use Rattle.ext_plan.specs.Plans.{plan_view}
use Rattle.ext_plan.specs.PlanCalls.{steps_of_call}
use Rattle.ext_plan.specs.StepCalls.{keys_in}
use Rattle.ext_races.specs.InnerStanding.{AreWithout, removed_by}
use Rattle.ext_races.proofs.standing.forget_calls.Given as goal

abbrev pub invariant-loop-call : goal.invariant-loop-call
invariant-loop-call l = AreWithout l.directory (removed_by (keys_in l.keys) (flat_map (steps_of_call (plan_view l.plan)) (take l.call-index l.calls))) l.fn.computes.items l.computes.items
