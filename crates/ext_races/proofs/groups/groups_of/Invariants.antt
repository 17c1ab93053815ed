use Rattle.std.proofs.Common.{◌≡◌, ℕ, Option, [], length, take, vec_len}
use Rattle.std.specs.List.{flat_map}
use Rattle.ext_tree.specs.Keys.{KeyValue}
use Rattle.ext_plan.specs.StepCalls.{keys_in}
use Rattle.ext_races.specs.InnerGroups.{IsAdded, groups_view}
use Rattle.ext_races.specs.InnerMade.{left_after, made_views}
use Rattle.ext_races.specs.InnerReach.{Tells}
use Rattle.ext_races.specs.InnerStanding.{TellsAbove}
use Rattle.ext_races.specs.Touches.{ComputeText, touches_of}
use Rattle.ext_races.proofs.groups.groups_of.Given as goal

abbrev pub invariant-loop-step : goal.invariant-loop-step
invariant-loop-step l = record {
  count : vec_len l.groups ≡ vec_len l.initial.groups;
  added : (above : ℕ → KeyValue → Option ComputeText) → TellsAbove l.tree l.directory above l.standing
      → IsAdded (length l.directory) (flat_map (touches_of l.tree (keys_in l.keys) l.directory above) (made_views [] (take l.step-index l.made))) (groups_view l.initial.groups.items) (groups_view l.groups.items);
  tells : Tells (keys_in l.keys) l.directory (left_after [] (take l.step-index l.made)) l.below.items;
}
