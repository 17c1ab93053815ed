use Rattle.std.proofs.Common.{arith}
use Rattle.ext_report.proofs.Orders.{child-in_tree, level-more, no-level}
use Rattle.ext_report.proofs.tree_lines.+push_from.Goals as goal

pub returns-then-levels-eq0 : goal.returns-then-levels-eq0
returns-then-levels-eq0 t c = no-level c.args.tree.now c.args.context c.args.levels c.args.order.now.items (omega arith)

pub push_from-requires : goal.push_from-requires
push_from-requires t c =
    (omega (arith, c.decreases), child-in_tree c.args.tree.now c.args.context c.loop-child.child-index c.children-child-items.result.now c.requires.context c.children-child-items.ensures c.loop-child-test.true)

pub returns : goal.returns
returns t c =
    level-more c.args.tree.now c.args.context c.args.levels c.loop-child.child-index c.args.order.now.items _ c.loop-child.order.items c.children-child-items.result.now
    (omega arith) c.children-child-items.ensures (omega arith) c.in_ok-push.ensures.items c.loop-child.invariant
