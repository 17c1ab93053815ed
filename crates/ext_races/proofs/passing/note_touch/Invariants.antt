use Rattle.ext_plan.specs.Plans.{plan_view}
use Rattle.ext_races.specs.InnerPassing.{Keeps}
use Rattle.ext_races.specs.Touches.{touch_view}
use Rattle.ext_races.proofs.Noted.{NotedBelow}
use Rattle.ext_races.proofs.passing.note_touch.Given as goal

abbrev pub invariant-loop-at : goal.invariant-loop-at
invariant-loop-at l = record { kept : Keeps l.initial.passed l.passed; noted : NotedBelow (plan_view l.plan) l.passed l.path (touch_view l.touch) l.at }
