use Rattle.ext_tree.specs.Keys.{AreKeyNotesOf}
use Rattle.test_cells.proofs.key_places.tells_namespaces_apart.Given as goal

abbrev pub invariant-loop-parts : goal.invariant-loop-parts
invariant-loop-parts g l = AreKeyNotesOf l.places l.notes
