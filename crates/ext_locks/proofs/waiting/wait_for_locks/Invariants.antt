use Rattle.ext_locks.proofs.Whole.{TookBelow}
use Rattle.ext_locks.proofs.waiting.wait_for_locks.Given as goal

abbrev pub invariant-loop-lock : goal.invariant-loop-lock
invariant-loop-lock g l = TookBelow l.initial.seat l.seat l.lane l.modes l.lock
