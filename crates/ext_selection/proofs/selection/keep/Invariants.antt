use Rattle.std.proofs.Common.{◌≡◌, length}
use Rattle.ext_selection.proofs.Keeping.{IsSettled}
use Rattle.ext_selection.proofs.selection.keep.Given as goal

abbrev pub invariant-loop-index : goal.invariant-loop-index
invariant-loop-index l = record {
  size : length l.kept ≡ length l.nodes;
  settled : IsSettled l.nodes l.wanted l.kept l.index;
}
