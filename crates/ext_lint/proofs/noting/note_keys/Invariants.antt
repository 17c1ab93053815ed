use Rattle.std.proofs.Common.{◌≡◌, ◌++◌, drop, map}
use Rattle.std.specs.List.{flat_map}
use Rattle.ext_plan.specs.Plans.{keys_view}
use Rattle.ext_lint.specs.InnerLists.{note_view}
use Rattle.ext_lint.specs.Notes.{key_note}
use Rattle.ext_lint.proofs.noting.note_keys.Given as goal

abbrev pub invariant-loop-key : goal.invariant-loop-key
invariant-loop-key l = map note_view l.fn.notes.items ++ flat_map (key_note l.directory) (keys_view l.keys) ≡ map note_view l.notes.items ++ flat_map (key_note l.directory) (keys_view (drop l.key-index l.keys))
