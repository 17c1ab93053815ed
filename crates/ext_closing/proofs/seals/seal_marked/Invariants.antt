use Rattle.ext_closing.proofs.Sealing.{BlockSoFar}
use Rattle.ext_closing.proofs.seals.seal_marked.Given as goal

abbrev pub invariant-loop-place : goal.invariant-loop-place
invariant-loop-place g l = BlockSoFar l.store l.closer.context l.marked.block l.marked.marks l.left l.place l.fn.lane l.lane l.fn.numbers l.numbers
