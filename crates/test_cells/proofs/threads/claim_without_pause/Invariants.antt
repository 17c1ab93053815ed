use Rattle.std.proofs.Common.{◌≡◌, ◌≤◌}
use Rattle.test_cells.proofs.threads.claim_without_pause.Given as goal

abbrev pub invariant-loop : goal.invariant-loop
invariant-loop l = l.lane.cells ≡ l.cells.id

abbrev pub invariant-loop-2 : goal.invariant-loop-2
invariant-loop-2 l = (l.lane.cells ≡ l.cells.id) × (l.done ≤ l.counter)
