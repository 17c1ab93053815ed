use Rattle.std.proofs.Common.{◌≡◌, ◌++◌, drop, map}
use Rattle.std.specs.List.{flat_map}
use Rattle.ext_plan.specs.Plans.{nodes_view}
use Rattle.ext_lint.specs.InnerLists.{note_view}
use Rattle.ext_lint.specs.Notes.{lock_note}
use Rattle.ext_lint.proofs.noting.note_names.Given as goal

abbrev pub invariant-loop-name : goal.invariant-loop-name
invariant-loop-name l = map note_view l.fn.notes.items ++ flat_map (lock_note (nodes_view l.nodes)) (map (λ n. n.now) l.names)
    ≡ map note_view l.notes.items ++ flat_map (lock_note (nodes_view l.nodes)) (map (λ n. n.now) (drop l.name-index l.names))
