use Rattle.std.proofs.Common.{◌≡◌, ◌+◌, ◌≤◌, length}
use Rattle.ext_crew.proofs.jobs.counter.draw.Given as goal

abbrev pub invariant-loop : goal.invariant-loop
invariant-loop g l = (l.hand.table_id ≡ l.initial.hand.table_id) × (l.hand.me ≡ l.initial.hand.me) × (l.number ≤ length l.counter.key.value.items + 33)
