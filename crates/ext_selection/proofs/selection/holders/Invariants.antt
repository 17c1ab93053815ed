use Rattle.std.proofs.Common.{◌≡◌, length}
use Rattle.ext_selection.proofs.Keeping.{HoldsBelow}
use Rattle.ext_selection.proofs.selection.holders.Given as goal

abbrev pub invariant-loop-index : goal.invariant-loop-index
invariant-loop-index l = record {
  size : length l.flags.items ≡ length l.nodes;
  held : HoldsBelow l.nodes l.flags.items l.index;
}
