use Rattle.std.proofs.Common.{◌≡◌, [], ◌++◌, take}
use Rattle.std.specs.List.{flat_map}
use Rattle.ext_plan.specs.Plans.{plan_view}
use Rattle.ext_plan.specs.PlanCalls.{steps_of_call}
use Rattle.ext_races.specs.InnerMade.{counted, made_views}
use Rattle.ext_races.specs.MadeSteps.{made_in_turn}
use Rattle.ext_races.proofs.made.push_in_turn.Given as goal

abbrev pub invariant-loop-call : goal.invariant-loop-call
invariant-loop-call l = record {
  made : made_views [] l.made.items ≡ made_views [] l.fn.made.items ++ made_in_turn (plan_view l.plan) l.node [] (take l.call-index l.calls);
  counts : counted l.begins l.made.items ≡ flat_map (steps_of_call (plan_view l.plan)) (take l.call-index l.calls);
}
