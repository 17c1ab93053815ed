use Rattle.std.proofs.Common.{◌≡◌, ◌++◌, ℕ, List, drop, map, take}
use Rattle.ext_plan.specs.Plans.{plan_view}
use Rattle.ext_lint.specs.InnerLists.{has, note_view}
use Rattle.ext_lint.specs.Notes.{notes_at, step_notes, asked_by}
use Rattle.ext_lint.specs.NodeSteps.{numbered, node_step_view}
use Rattle.ext_lint.specs.Said.{is_said}
use Rattle.ext_lint.proofs.noting.StepRules.note_steps.Given as goal

abbrev pub invariant-loop-node_step : goal.invariant-loop-node_step
invariant-loop-node_step l = record {
  notes : map note_view l.fn.notes.items ++ step_notes (plan_view l.self.plan.now)
      ≡ map note_view l.notes.items ++ numbered (notes_at (plan_view l.self.plan.now)) l.node_step-index (map node_step_view (drop l.node_step-index l.steps));
  asked : (key : ℕ) (text : List ℕ) → has l.asked key text ≡ is_said (asked_by (plan_view l.self.plan.now) (map node_step_view (take l.node_step-index l.steps))) key text;
}
