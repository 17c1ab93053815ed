use Rattle.std.proofs.Common.{◌≡◌, ℕ, drop, is_some}
use Rattle.std.specs.Prelude.{◌==◌, ◌||◌}
use Rattle.ext_plan.specs.Plans.{nodes_view, plan_view}
use Rattle.ext_lint.specs.Heights.{first_numbered, has_depth, is_test_below}
use Rattle.ext_lint.specs.InnerLists.{has_pair}
use Rattle.ext_lint.proofs.heights.depths_of.Given as goal

abbrev pub invariant-loop-number : goal.invariant-loop-number
invariant-loop-number l = (node depth : ℕ) → has_depth (plan_view l.plan) node depth
    ≡ (has_pair l.set node depth || is_some (first_numbered (is_test_below l.tree node (λ d. d == depth)) l.number (nodes_view (drop l.number l.plan.nodes.items))))
