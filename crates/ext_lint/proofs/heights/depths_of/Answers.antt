use Rattle.std.proofs.Common.{◌≡◌, arith, get_or, subst}
use Rattle.std.specs.Prelude.{◌==◌}
use Rattle.ext_lint.specs.Heights.{is_test_below}
use Rattle.ext_lint.specs.InnerLists.{has_pair}
use Rattle.ext_lint.proofs.Sets.{first_more}
use Rattle.ext_lint.proofs.heights.depths_of.Goals as goal

pub loop-number-preserved : goal.loop-number-preserved
loop-number-preserved c = λ node depth.
    let read = subst (λ nodes. c.node-item.result ≡ get_or nodes c.loop-number.number c.node-item.result) c.deref-node-items.ensures.value c.node-item.is in
    first_more (is_test_below c.tree-tree.result.now node (λ d. d == depth)) _ (has_pair c.loop-number.set node depth) (has_pair c.add_test.new.set node depth) c.args.plan.now.nodes.items c.loop-number.number c.node-item.result (omega arith) read (c.in_ok-add_test.ensures node depth) (c.loop-number.invariant node depth)
