use Rattle.std.proofs.Common.{◌≡◌, ◌++◌, drop, map}
use Rattle.ext_plan.specs.Plans.{nodes_view}
use Rattle.ext_lint.specs.NodeSteps.{numbered, node_step_view, node_steps_of_node}
use Rattle.ext_lint.proofs.node_step.node_steps_of.Given as goal

abbrev pub invariant-loop-number : goal.invariant-loop-number
invariant-loop-number l = numbered node_steps_of_node 0 (nodes_view l.plan.nodes.items) ≡ map node_step_view l.node_steps.items ++ numbered node_steps_of_node l.number (nodes_view (drop l.number l.plan.nodes.items))
