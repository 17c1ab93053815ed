use Rattle.ext_tree.specs.Keys.{AreKeyNotesOf}
use Rattle.test_cells.proofs.key_places.has_first_numbers.Given as goal

abbrev pub invariant-loop-number : goal.invariant-loop-number
invariant-loop-number g l = AreKeyNotesOf l.places l.notes
