use Rattle.std.proofs.Common.{◌≡◌, ◌≤◌}
use Rattle.test_cells.proofs.threads.fill_and_remove.Given as goal

abbrev pub invariant-loop : goal.invariant-loop
invariant-loop l = (l.lane.cells ≡ l.cells.id) × (l.done ≤ l.counter)
