use Rattle.std.specs.Prelude.{All}
use Rattle.ext_tree.specs.Keys.{AreKeyNotesOf}
use Rattle.test_cells.proofs.key_threads.agree_in_turn.Given as goal

abbrev pub invariant-loop-notes : goal.invariant-loop-notes
invariant-loop-notes g l = AreKeyNotesOf l.places l.last × All (AreKeyNotesOf l.places) l.notes-items
