use Rattle.std.proofs.Common.{◌≡◌, ◌≤◌, ◌*◌, ◌^◌, ℕ, List, take}
use Rattle.ext_cells.specs.CellCalls.{cells_in}
use Rattle.ext_cells.specs.InnerPasses.{IsReading, ReadPass}
use Rattle.ext_cells.proofs.cells.Cells.read_each.Given as goal

abbrev pub invariant-loop-row : goal.invariant-loop-row
invariant-loop-row l = record {
  cells : l.lane.cells ≡ l.fn.lane.cells;
  count : l.reading.count ≡ l.row-index;
  versions : l.reading.versions ≤ l.reading.count * 2 ^ 40;
  read : (words : List ℕ) × ReadPass l.fn.lane.cells.limits l.fn.lane.view l.lane.view (take l.row-index (cells_in l.rows (l.column.blocks * 32) l.column.index)) words × IsReading words l.reading;
}
