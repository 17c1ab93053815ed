use Rattle.ext_cells.proofs.Tries.{TriesOn}
use Rattle.ext_cells.proofs.cells.Cells.change.Given as goal

abbrev pub invariant-loop : goal.invariant-loop
invariant-loop l = TriesOn l.fn.lane l.lane l.cell l.word l.counter
