use Rattle.ext_tree.specs.Keys.{AreKeyNotesOf}
use Rattle.test_cells.proofs.key_threads.number_all.Given as goal

abbrev pub invariant-loop-step : goal.invariant-loop-step
invariant-loop-step l = AreKeyNotesOf l.places l.notes
