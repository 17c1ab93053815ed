use Rattle.std.proofs.Common.{◌≡◌, ◌++◌, drop, map}
use Rattle.std.specs.List.{flat_map}
use Rattle.ext_plan.specs.Plans.{plan_view}
use Rattle.ext_lint.specs.InnerLists.{note_view}
use Rattle.ext_lint.specs.NodeSteps.{node_step_view}
use Rattle.ext_lint.specs.Notes.{uneven_if}
use Rattle.ext_lint.proofs.heights.Heights.note_steps.Given as goal

abbrev pub invariant-loop-step : goal.invariant-loop-step
invariant-loop-step l = map note_view l.fn.notes.items ++ flat_map (uneven_if (plan_view l.self.plan.now)) (map node_step_view l.steps)
    ≡ map note_view l.notes.items ++ flat_map (uneven_if (plan_view l.self.plan.now)) (map node_step_view (drop l.step-index l.steps))
