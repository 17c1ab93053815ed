use Rattle.std.proofs.Common.{map, take}
use Rattle.ext_plan.specs.StepCalls.{keys_in}
use Rattle.ext_races.specs.InnerMade.{made_view}
use Rattle.ext_races.specs.InnerStanding.{AreWithoutRemoved, computes_view}
use Rattle.ext_races.proofs.standing.forget_made.Given as goal

abbrev pub invariant-loop-step : goal.invariant-loop-step
invariant-loop-step l = AreWithoutRemoved (keys_in l.keys) l.directory l.tree (map made_view (take l.step-index l.made)) (computes_view l.fn.lists.items) (computes_view l.lists.items)
