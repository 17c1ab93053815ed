use Rattle.ext_locks.proofs.Whole.{TriedBelow}
use Rattle.ext_locks.proofs.taking.take_locks.Given as goal

abbrev pub invariant-loop-lock : goal.invariant-loop-lock
invariant-loop-lock l = TriedBelow l.initial.seat l.seat l.lane l.modes l.tries l.lock
