use Rattle.ext_closing.proofs.Joining.{AreJoinedBefore}
use Rattle.ext_closing.proofs.closing.first_unjoined.Given as goal

abbrev pub invariant-loop-number : goal.invariant-loop-number
invariant-loop-number g l = AreJoinedBefore l.lanes l.numbers l.number-index
