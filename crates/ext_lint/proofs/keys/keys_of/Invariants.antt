use Rattle.std.proofs.Common.{◌≡◌, ◌≤◌, [], drop, length, map}
use Rattle.ext_plan.specs.StepCalls.{keys_in}
use Rattle.ext_lint.specs.NodeSteps.{node_step_view}
use Rattle.ext_lint.specs.Said.{keys_with}
use Rattle.ext_lint.proofs.keys.keys_of.Given as goal

abbrev pub invariant-loop-node_step : goal.invariant-loop-node_step
invariant-loop-node_step l = record {
  rest : keys_with (keys_in l.keys) [] (map node_step_view l.node_steps) ≡ keys_with (keys_in l.keys) l.directory (map node_step_view (drop l.node_step-index l.node_steps));
  few : length l.directory ≤ 1024;
}
