use Rattle.std.proofs.Common.{◌≡◌, ◌++◌, drop, map}
use Rattle.ext_plan.specs.Plans.{steps_view}
use Rattle.ext_lint.specs.InnerLists.{note_view}
use Rattle.ext_lint.specs.Notes.{empty_at, empty_of_kind}
use Rattle.ext_lint.specs.NodeSteps.{numbered}
use Rattle.ext_lint.proofs.callbacks.note_kind.Given as goal

abbrev pub invariant-loop-index : goal.invariant-loop-index
invariant-loop-index l = map note_view l.fn.notes.items ++ empty_of_kind l.from l.kind (map steps_view l.callbacks)
    ≡ map note_view l.notes.items ++ numbered (empty_at l.from l.kind) l.index (map steps_view (drop l.index l.callbacks))
