use Rattle.ext_locks.proofs.Waited.{Waited}
use Rattle.ext_locks.proofs.waiting.wait_for_lock.Given as goal

abbrev pub invariant-loop : goal.invariant-loop
invariant-loop g l = Waited l.initial.seat l.seat l.fn.lane
