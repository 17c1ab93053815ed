use Rattle.ext_cells.proofs.cells.Cells.read.Given as goal

abbrev pub ghosts-read : goal.ghosts-read
ghosts-read a = record { cell = a.cell }
