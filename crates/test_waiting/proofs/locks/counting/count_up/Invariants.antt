use Rattle.std.proofs.Common.{◌≡◌, ◌≤◌}
use Rattle.ext_locks.specs.Sets.{HoldsNothing}
use Rattle.test_waiting.proofs.locks.counting.count_up.Given as goal

abbrev pub invariant-loop-turn : goal.invariant-loop-turn
invariant-loop-turn l = (l.lane.table ≡ l.locks.table) × HoldsNothing l.lane × (l.successes ≤ l.turn)
