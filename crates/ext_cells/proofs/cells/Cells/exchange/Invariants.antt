use Rattle.ext_cells.proofs.cells.Cells.exchange.Given as goal

abbrev pub ghosts-exchange : goal.ghosts-exchange
ghosts-exchange a = record { cell = a.index }
