use Rattle.std.proofs.Common.{◌≡◌, ◌-◌}
use Rattle.ext_cells.specs.InnerMarks.{standing_in}
use Rattle.ext_cells.proofs.MarkSteps.{Marking}
use Rattle.ext_cells.proofs.cell_steps.CellSteps.mark.Given as goal

abbrev pub invariant-loop-cells : goal.invariant-loop-cells
invariant-loop-cells g l = record {
  table : l.seat.table_id ≡ l.fn.seat.table_id;
  state : Marking l.fn.seat.me.0 l.seat.me.0 l.index l.cell l.block (standing_in l.block l.cell);
}

-- blocks' words only grow
abbrev pub decreases-loop-cells : goal.decreases-loop-cells
decreases-loop-cells g l = 18446744073709551616 - l.block
