use Rattle.std.proofs.Common.{◌≡◌}
use Rattle.ext_locks.specs.Sets.{HoldsNothing}
use Rattle.test_waiting.proofs.locks.waiting.ask_until.Given as goal

abbrev pub invariant-loop : goal.invariant-loop
invariant-loop g l = (l.lane.table ≡ l.locks.table) × HoldsNothing l.lane
