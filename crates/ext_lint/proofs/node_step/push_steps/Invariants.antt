use Rattle.std.proofs.Common.{◌≡◌, ◌++◌, drop, map}
use Rattle.ext_plan.specs.Plans.{step_view}
use Rattle.ext_lint.specs.NodeSteps.{numbered, node_step_of, node_step_view}
use Rattle.ext_lint.proofs.node_step.push_steps.Given as goal

abbrev pub invariant-loop-at : goal.invariant-loop-at
invariant-loop-at l = map node_step_view l.fn.node_steps.items ++ numbered (node_step_of l.node l.kind l.index) 0 (map step_view l.steps)
    ≡ map node_step_view l.node_steps.items ++ numbered (node_step_of l.node l.kind l.index) l.at (map step_view (drop l.at l.steps))
