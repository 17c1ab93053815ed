use Rattle.std.proofs.Common.{◌≡◌, ◌*◌, ◌+◌, drop}
use Rattle.ext_plan_plain.specs.InnerSteps.{run_view}
use Rattle.ext_plan_plain.proofs.Runs.{StillRuns}
use Rattle.ext_plan_plain.proofs.plain.PlainRunner.+nodes.Given as goal

abbrev pub decreases-run_node : goal.decreases-run_node
decreases-run_node g l = 4 * l.levels

abbrev pub decreases-run_container : goal.decreases-run_container
decreases-run_container g l = 4 * l.levels + 3

abbrev pub decreases-run_body : goal.decreases-run_body
decreases-run_body g l = 4 * l.levels + 2

abbrev pub decreases-run_children : goal.decreases-run_children
decreases-run_children g l = 4 * l.levels + 1

abbrev pub invariant-run_children-loop-child : goal.invariant-run_children-loop-child
invariant-run_children-loop-child g l = record {
  setting : l.self.caller.setting ≡ l.initial.self.caller.setting;
  so_far : StillRuns l.initial.self.caller.setting l.at l.levels l.concurrent l.children (drop l.child-index l.children) (run_view l.initial.self) (run_view l.self);
}
