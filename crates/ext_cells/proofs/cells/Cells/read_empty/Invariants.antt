use Rattle.std.proofs.Common.{◌≡◌, ◌≤◌, ◌*◌, ◌^◌, ℕ, List, take}
use Rattle.std.specs.Prelude.{All, sum_by}
use Rattle.ext_cells.specs.CellCalls.{cells_in}
use Rattle.ext_cells.specs.InnerPasses.{ReadPass}
use Rattle.ext_cells.specs.WordChanges.{IsEmptyWord, version_in}
use Rattle.ext_cells.proofs.cells.Cells.read_empty.Given as goal

abbrev pub invariant-loop-count : goal.invariant-loop-count
invariant-loop-count l = record {
  cells : l.lane.cells ≡ l.fn.lane.cells;
  versions : l.versions ≤ l.count * 2 ^ 40;
  read : (words : List ℕ) × (l.versions ≡ sum_by version_in words) × All IsEmptyWord words × ReadPass l.fn.lane.cells.limits l.fn.lane.view l.lane.view (take l.count (cells_in l.rows (l.column.blocks * 32) l.column.index)) words;
}
