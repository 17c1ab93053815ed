use Rattle.std.proofs.Common.{◌≡◌, ◌≤◌, ◌*◌, ◌^◌, ℕ, List, take}
use Rattle.std.specs.Prelude.{sum_by}
use Rattle.ext_cells.specs.CellCalls.{cells_in}
use Rattle.ext_cells.specs.InnerPasses.{ReadPass}
use Rattle.ext_cells.specs.WordChanges.{version_in}
use Rattle.ext_cells.proofs.cells.Cells.read_versions.Given as goal

abbrev pub invariant-loop-row : goal.invariant-loop-row
invariant-loop-row l = record {
  cells : l.lane.cells ≡ l.fn.lane.cells;
  versions : l.versions ≤ l.row-index * 2 ^ 40;
  read : (words : List ℕ) × (l.versions ≡ sum_by version_in words) × ReadPass l.fn.lane.cells.limits l.fn.lane.view l.lane.view (take l.row-index (cells_in l.rows (l.column.blocks * 32) l.column.index)) words;
}
