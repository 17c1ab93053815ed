use Rattle.std.proofs.Common.{List, Option, ◌++◌, map, take}
use Rattle.ext_plan.specs.Plans.{step_view}
use Rattle.ext_plan.specs.StepCalls.{keys_in}
use Rattle.ext_races.specs.Acts.{ActText, act_of}
use Rattle.ext_races.specs.InnerStanding.{AreFirst}
use Rattle.ext_races.proofs.standing.note_steps.Given as goal

abbrev pub invariant-loop-step : goal.invariant-loop-step
invariant-loop-step l = record {
  first : (before : List (Option ActText)) → AreFirst (keys_in l.keys) l.directory l.put l.path before l.fn.computes.items
      → AreFirst (keys_in l.keys) l.directory l.put l.path (before ++ map act_of (map step_view (take l.step-index l.steps))) l.computes.items;
}
