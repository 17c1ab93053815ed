use Rattle.std.proofs.Common.{◌≡◌, length, map, take}
use Rattle.std.specs.Prelude.{Some, slice_get}
use Rattle.ext_selection.specs.Nodes.{AreIndices}
use Rattle.ext_table.proofs.Arranging.{AreLeft}
use Rattle.ext_table.proofs.arranged.taken.Given as goal

abbrev pub invariant-loop-index : goal.invariant-loop-index
invariant-loop-index g l = record {
  left : AreLeft l.fn.items.items l.indices l.index-index l.slots;
  taken : AreIndices (length l.fn.items.items) l.indices → map (λ x. Some x) l.taken.items ≡ map (slice_get l.fn.items.items) (take l.index-index l.indices);
}
