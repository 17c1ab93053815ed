use Rattle.std.proofs.Common.{◌≡◌, map, take, length, vec_len, vec_capacity}
use Rattle.once_cell.specs.Once.{cell_name}
use Rattle.ext_tree.specs.Keys.{unknown_place}
use Rattle.ext_tree.proofs.key_walk.entries_of.Given as goal

abbrev pub invariant-loop-place : goal.invariant-loop-place
invariant-loop-place l = record {
  long : vec_len l.entries ≡ l.place-index;
  room : vec_capacity l.entries ≡ length l.places;
  filled : l.entries.items ≡ map (λ place. unknown_place (cell_name place)) (take l.place-index l.places);
}
