use Rattle.std.specs.Prelude.{All}
use Rattle.ext_tree.specs.Keys.{AreKeyNotesOf}
use Rattle.test_cells.proofs.key_threads.notes_for.Given as goal

abbrev pub invariant-loop : goal.invariant-loop
invariant-loop l = All (AreKeyNotesOf l.places) l.all.items
