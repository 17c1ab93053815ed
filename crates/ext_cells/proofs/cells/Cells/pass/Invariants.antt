use Rattle.std.proofs.Common.{◌≡◌, take}
use Rattle.ext_cells.specs.InnerPasses.{ReadPass}
use Rattle.ext_cells.proofs.cells.Cells.pass.Given as goal

abbrev pub invariant-loop-cell : goal.invariant-loop-cell
invariant-loop-cell l = record {
  cells : l.lane.cells ≡ l.fn.lane.cells;
  read : ReadPass l.fn.lane.cells.limits l.fn.lane.view l.lane.view (take l.cell-index l.cells) l.words;
}
