use Rattle.ext_tree.specs.InnerBuilding.{AreChildren}
use Rattle.ext_tree.proofs.building.children_lists.Given as goal

abbrev pub invariant-loop-i : goal.invariant-loop-i
invariant-loop-i l = AreChildren l.ids l.i l.lists.items
