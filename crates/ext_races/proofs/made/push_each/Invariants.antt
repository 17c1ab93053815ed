use Rattle.std.proofs.Common.{◌≡◌, [], ◌++◌, take}
use Rattle.std.specs.List.{flat_map}
use Rattle.ext_plan.specs.Plans.{plan_view}
use Rattle.ext_plan.specs.PlanCalls.{steps_of_call}
use Rattle.ext_races.specs.InnerMade.{made_views}
use Rattle.ext_races.specs.MadeSteps.{made_after}
use Rattle.ext_races.proofs.made.push_each.Given as goal

abbrev pub invariant-loop-call : goal.invariant-loop-call
invariant-loop-call l = made_views [] l.made.items ≡ made_views [] l.fn.made.items ++ flat_map (λ call. made_after l.node [] (steps_of_call (plan_view l.plan) call)) (take l.call-index l.calls)
