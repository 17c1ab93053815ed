use Rattle.std.proofs.Common.{[], map, take}
use Rattle.std.specs.List.{flat_map}
use Rattle.ext_plan.specs.Plans.{plan_view}
use Rattle.ext_plan.specs.PlanCalls.{steps_of_call}
use Rattle.ext_plan.specs.StepCalls.{keys_in}
use Rattle.ext_races.specs.Acts.{act_of}
use Rattle.ext_races.specs.InnerStanding.{AreFirst}
use Rattle.ext_races.proofs.standing.note_calls.Given as goal

abbrev pub invariant-loop-call : goal.invariant-loop-call
invariant-loop-call l = record {
  first : AreFirst (keys_in l.keys) l.directory l.put l.path [] l.fn.computes.items
      → AreFirst (keys_in l.keys) l.directory l.put l.path (map act_of (flat_map (steps_of_call (plan_view l.plan)) (take l.call-index l.calls))) l.computes.items;
}
