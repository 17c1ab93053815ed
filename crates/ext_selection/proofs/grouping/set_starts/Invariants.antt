use Rattle.ext_selection.proofs.Starts.{AreStartsBelow}
use Rattle.ext_selection.proofs.grouping.set_starts.Given as goal

abbrev pub invariant-loop-index : goal.invariant-loop-index
invariant-loop-index l = AreStartsBelow l.nodes l.order l.starts l.ends l.index-index
