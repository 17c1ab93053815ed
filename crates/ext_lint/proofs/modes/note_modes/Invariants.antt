use Rattle.std.proofs.Common.{◌≡◌, ◌++◌, drop, map}
use Rattle.ext_plan.specs.Plans.{nodes_view, plan_view}
use Rattle.ext_lint.specs.InnerLists.{note_view}
use Rattle.ext_lint.specs.Notes.{child_notes, mode_notes}
use Rattle.ext_lint.specs.NodeSteps.{numbered}
use Rattle.ext_lint.proofs.modes.note_modes.Given as goal

abbrev pub invariant-loop-number : goal.invariant-loop-number
invariant-loop-number l = map note_view l.fn.notes.items ++ mode_notes (plan_view l.plan)
    ≡ map note_view l.notes.items ++ numbered (child_notes (plan_view l.plan)) l.number (nodes_view (drop l.number l.plan.nodes.items))
