use Rattle.std.proofs.Common.{◌≡◌, drop}
use Rattle.ext_plan.specs.Plans.{nodes_view, plan_view}
use Rattle.ext_lint.specs.Heights.{first_numbered, first_test, is_test_below}
use Rattle.ext_lint.specs.InnerLists.{is_sought}
use Rattle.ext_lint.proofs.first_test.first_test.Given as goal

abbrev pub invariant-loop-number : goal.invariant-loop-number
invariant-loop-number l = first_test (plan_view l.plan) l.above (λ depth. is_sought l.sought depth)
    ≡ first_numbered (is_test_below l.tree l.above (λ depth. is_sought l.sought depth)) l.number (nodes_view (drop l.number l.plan.nodes.items))
