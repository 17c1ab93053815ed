use Rattle.std.proofs.Common.{◌≡◌, arith, get_or, subst}
use Rattle.ext_lint.proofs.Sets.{tests_more}
use Rattle.ext_lint.proofs.live.nodes_with_tests.Goals as goal

pub loop-number-preserved : goal.loop-number-preserved
loop-number-preserved c = λ node.
    let read = subst (λ nodes. c.node-item.result ≡ get_or nodes c.loop-number.number c.node-item.result) c.deref-node-items.ensures.value c.node-item.is in
    tests_more c.tree-tree.result.now _ c.loop-number.set c.add_test.new.set c.args.plan.now.nodes.items c.loop-number.number c.node-item.result node (omega arith) read (c.in_ok-add_test.ensures node) (c.loop-number.invariant node)
