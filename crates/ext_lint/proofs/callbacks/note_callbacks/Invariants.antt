use Rattle.std.proofs.Common.{◌≡◌, ◌++◌, drop, map}
use Rattle.ext_plan.specs.Plans.{nodes_view, plan_view}
use Rattle.ext_lint.specs.InnerLists.{note_view}
use Rattle.ext_lint.specs.Notes.{callback_notes, empty_of_node}
use Rattle.ext_lint.specs.NodeSteps.{numbered}
use Rattle.ext_lint.proofs.callbacks.note_callbacks.Given as goal

abbrev pub invariant-loop-number : goal.invariant-loop-number
invariant-loop-number l = map note_view l.fn.notes.items ++ callback_notes (plan_view l.plan)
    ≡ map note_view l.notes.items ++ numbered empty_of_node l.number (nodes_view (drop l.number l.plan.nodes.items))
