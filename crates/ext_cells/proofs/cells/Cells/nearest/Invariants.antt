use Rattle.std.proofs.Common.{◌*◌, ◌≡◌, ℕ, List}
use Rattle.std.specs.Prelude.{sum_by}
use Rattle.ext_cells.specs.CellCalls.{cells_in}
use Rattle.ext_cells.specs.WordChanges.{version_in}
use Rattle.ext_cells.proofs.Collecting.{Passes}
use Rattle.ext_cells.proofs.cells.Cells.nearest.Given as goal

abbrev pub invariant-loop : goal.invariant-loop
invariant-loop l = record {
  cells : l.lane.cells ≡ l.fn.lane.cells;
  passes : (words : List ℕ) × (l.seen ≡ sum_by version_in words) × Passes l.fn.lane.cells.limits l.fn.lane.view l.lane.view (cells_in l.rows (l.blocks * 32) l.fn.column) words l.counter;
}
