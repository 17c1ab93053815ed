use Rattle.std.proofs.Common.{◌≡◌, ◌++◌, drop, map}
use Rattle.std.specs.List.{flat_map}
use Rattle.ext_plan.specs.Plans.{plan_view}
use Rattle.ext_lint.specs.InnerLists.{note_view}
use Rattle.ext_lint.specs.Notes.{solitary_if}
use Rattle.ext_lint.proofs.modes.note_siblings.Given as goal

abbrev pub invariant-loop-node : goal.invariant-loop-node
invariant-loop-node l = map note_view l.fn.notes.items ++ flat_map (solitary_if (plan_view l.plan)) l.siblings
    ≡ map note_view l.notes.items ++ flat_map (solitary_if (plan_view l.plan)) (drop l.node-index l.siblings)
