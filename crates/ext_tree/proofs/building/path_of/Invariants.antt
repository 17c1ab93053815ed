use Rattle.std.proofs.Common.{◌≡◌, ◌<◌, ◌+◌, ◌++◌, ℕ, List, length, take}
use Rattle.ext_tree.specs.Trees.{id_at, IsWalk, IsPathOf}
use Rattle.ext_tree.proofs.building.path_of.Given as goal

abbrev pub invariant-loop-i : goal.invariant-loop-i
invariant-loop-i l = record {
  size : length l.contexts ≡ 16;
  within : l.at < length l.ids;
  deep : length (id_at l.ids l.at) + l.i ≡ l.depth + 1;
  walks : (rest : List ℕ) → IsWalk l.ids l.at rest → IsPathOf l.ids l.context (take l.i l.contexts ++ rest);
}
