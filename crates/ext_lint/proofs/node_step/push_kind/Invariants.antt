use Rattle.std.proofs.Common.{◌≡◌, ◌++◌, drop, map}
use Rattle.ext_plan.specs.Plans.{steps_view}
use Rattle.ext_lint.specs.NodeSteps.{numbered, node_step_view, node_steps_of_call}
use Rattle.ext_lint.proofs.node_step.push_kind.Given as goal

abbrev pub invariant-loop-index : goal.invariant-loop-index
invariant-loop-index l = map node_step_view l.fn.node_steps.items ++ numbered (node_steps_of_call l.number l.kind) 0 (map steps_view l.callbacks)
    ≡ map node_step_view l.node_steps.items ++ numbered (node_steps_of_call l.number l.kind) l.index (map steps_view (drop l.index l.callbacks))
