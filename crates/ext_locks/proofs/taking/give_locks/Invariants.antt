use Rattle.ext_locks.proofs.Whole.{GaveBelow}
use Rattle.ext_locks.proofs.taking.give_locks.Given as goal

abbrev pub invariant-loop-lock : goal.invariant-loop-lock
invariant-loop-lock l = GaveBelow l.initial.seat l.seat l.lane l.modes l.lock l.end
