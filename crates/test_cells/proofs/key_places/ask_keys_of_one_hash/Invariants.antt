use Rattle.ext_tree.specs.Keys.{AreKeyNotesOf}
use Rattle.test_cells.proofs.key_places.ask_keys_of_one_hash.Given as goal

abbrev pub invariant-loop-step : goal.invariant-loop-step
invariant-loop-step g l = AreKeyNotesOf l.places l.notes
