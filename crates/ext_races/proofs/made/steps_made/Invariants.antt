use Rattle.std.proofs.Common.{◌≡◌, []}
use Rattle.std.specs.List.{flat_map, range_with_len}
use Rattle.ext_plan.specs.Plans.{plan_view}
use Rattle.ext_races.specs.InnerMade.{made_views}
use Rattle.ext_races.specs.MadeSteps.{made_of_node}
use Rattle.ext_races.proofs.made.steps_made.Given as goal

abbrev pub invariant-loop-node : goal.invariant-loop-node
invariant-loop-node l = made_views [] l.made.items ≡ flat_map (made_of_node (plan_view l.plan)) (range_with_len 0 l.node)
