use Rattle.std.proofs.Common.{◌≡◌, ℕ, drop}
use Rattle.std.specs.Prelude.{◌||◌}
use Rattle.ext_plan.specs.Plans.{nodes_view, plan_view}
use Rattle.ext_lint.specs.InnerLists.{has_node}
use Rattle.ext_lint.specs.Live.{has_test, is_among, path_of_test}
use Rattle.ext_lint.specs.NodeSteps.{numbered}
use Rattle.ext_lint.proofs.live.nodes_with_tests.Given as goal

abbrev pub invariant-loop-number : goal.invariant-loop-number
invariant-loop-number l = (node : ℕ) → has_test (plan_view l.plan) node ≡ (has_node l.set node || is_among (numbered (path_of_test l.tree) l.number (nodes_view (drop l.number l.plan.nodes.items))) node)
