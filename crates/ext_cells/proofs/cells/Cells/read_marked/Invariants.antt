use Rattle.ext_cells.proofs.cells.Cells.read_marked.Given as goal

abbrev pub ghosts-read_at : goal.ghosts-read_at
ghosts-read_at a = record { cell = a.cell }
