use Rattle.std.proofs.Common.{map, take}
use Rattle.ext_plan.specs.Plans.{step_view}
use Rattle.ext_plan.specs.StepCalls.{keys_in}
use Rattle.ext_races.specs.InnerStanding.{AreWithout, removed_by}
use Rattle.ext_races.proofs.standing.forget_steps.Given as goal

abbrev pub invariant-loop-step : goal.invariant-loop-step
invariant-loop-step l = AreWithout l.directory (removed_by (keys_in l.keys) (map step_view (take l.step-index l.steps))) l.fn.computes.items l.computes.items
