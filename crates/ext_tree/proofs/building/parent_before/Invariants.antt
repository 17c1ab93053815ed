use Rattle.std.proofs.Common.{◌<◌, ℕ}
use Rattle.ext_tree.specs.Trees.{id_at, IsParent}
use Rattle.ext_tree.proofs.building.parent_before.Given as goal

abbrev pub invariant-loop-i : goal.invariant-loop-i
invariant-loop-i l = (k : ℕ) → k < l.i → ¬ IsParent (id_at l.ids k) (id_at l.ids l.at)
