use Rattle.std.proofs.Common.{◌≡◌, ◌+◌, length, take}
use Rattle.ext_locks.specs.Sets.{locks_of}
use Rattle.ext_locks.proofs.set.LockSet.get.Given as goal

abbrev pub invariant-loop-lock : goal.invariant-loop-lock
invariant-loop-lock l = l.left + length (locks_of (take l.lock l.modes)) ≡ l.i
