use Rattle.std.proofs.Common.{◌≡◌}
use Rattle.ext_locks.specs.Sets.{HoldsNothing}
use Rattle.test_waiting.proofs.locks.waiting.give_in_rounds.Given as goal

abbrev pub invariant-loop-before : goal.invariant-loop-before
invariant-loop-before g l = (l.lane.table ≡ l.locks.table) × HoldsNothing l.lane
