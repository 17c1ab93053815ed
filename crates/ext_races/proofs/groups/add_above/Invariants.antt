use Rattle.std.proofs.Common.{map, take}
use Rattle.std.specs.Prelude.{option_map}
use Rattle.ext_races.specs.Acts.{act_view}
use Rattle.ext_races.specs.InnerGroups.{IsAdded, groups_view}
use Rattle.ext_races.specs.InnerStanding.{compute_view}
use Rattle.ext_races.specs.Touches.{look_at}
use Rattle.ext_races.proofs.groups.add_above.Given as goal

abbrev pub invariant-loop-context : goal.invariant-loop-context
invariant-loop-context l = IsAdded l.keys (map (look_at l.node l.key (act_view l.act) (option_map compute_view l.found)) (take l.context-index l.above)) (groups_view l.initial.groups.items) (groups_view l.groups.items)
