use Rattle.std.proofs.Common.{◌≡◌}
use Rattle.ext_cells.proofs.Collecting.{Passes}
use Rattle.ext_cells.proofs.cells.Cells.collect.Given as goal

abbrev pub invariant-loop : goal.invariant-loop
invariant-loop l = record {
  cells : l.lane.cells ≡ l.fn.lane.cells;
  passes : Passes l.fn.lane.cells.limits l.fn.lane.view l.lane.view l.cells l.words l.counter;
}
