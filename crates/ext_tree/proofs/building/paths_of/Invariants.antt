use Rattle.std.proofs.Common.{◌≡◌, length, vec_len, vec_capacity}
use Rattle.ext_tree.specs.InnerBuilding.{ArePaths}
use Rattle.ext_tree.proofs.building.paths_of.Given as goal

abbrev pub invariant-loop-context : goal.invariant-loop-context
invariant-loop-context l = record {
  filled : vec_len l.paths ≡ l.context;
  room : vec_capacity l.paths ≡ length l.ids;
  paths : ArePaths l.ids l.context l.paths.items;
}
