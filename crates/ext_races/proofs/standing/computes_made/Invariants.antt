use Rattle.ext_plan.specs.Plans.{plan_view}
use Rattle.ext_plan.specs.StepCalls.{keys_in}
use Rattle.ext_races.specs.InnerStanding.{AreComputed, computes_view}
use Rattle.ext_races.proofs.standing.computes_made.Given as goal

abbrev pub invariant-loop-node : goal.invariant-loop-node
invariant-loop-node l = AreComputed (plan_view l.plan) (keys_in l.keys) l.directory l.put l.node (computes_view l.lists.items)
