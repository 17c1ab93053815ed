use Rattle.ext_locks.proofs.Trying.{Tried}
use Rattle.ext_locks.proofs.taking.take_lock.Given as goal

abbrev pub invariant-loop-attempt : goal.invariant-loop-attempt
invariant-loop-attempt l = Tried l.initial.seat l.seat l.lane l.lock l.found l.attempt
