use Rattle.std.proofs.Common.{map, take}
use Rattle.ext_plan.specs.Plans.{plan_view}
use Rattle.ext_races.specs.InnerPassing.{AreNoted, changing}
use Rattle.ext_races.specs.Touches.{touch_view}
use Rattle.ext_races.proofs.passing.note_changing.Given as goal

abbrev pub invariant-loop-touch : goal.invariant-loop-touch
invariant-loop-touch l = AreNoted (plan_view l.plan) l.passed (changing (map touch_view (take l.touch-index l.group)))
