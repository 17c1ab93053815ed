use Rattle.ext_selection.proofs.Ranks.{AreDepthsBelow}
use Rattle.ext_selection.proofs.shuffling.depths.Given as goal

abbrev pub invariant-loop-index : goal.invariant-loop-index
invariant-loop-index l = AreDepthsBelow l.nodes l.depths.items l.index
