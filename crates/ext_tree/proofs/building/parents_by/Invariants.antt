use Rattle.std.proofs.Common.{◌≡◌, take}
use Rattle.ext_tree.specs.InnerBuilding.{AreParents}
use Rattle.ext_tree.proofs.building.parents_by.Given as goal

abbrev pub invariant-loop-i : goal.invariant-loop-i
invariant-loop-i l = record { table : l.table.keys ≡ take l.i l.ids; parents : AreParents l.ids l.i l.parents.items }
