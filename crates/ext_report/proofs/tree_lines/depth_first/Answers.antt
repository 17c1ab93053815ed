use Rattle.std.proofs.Common.{arith}
use Rattle.ext_report.proofs.Orders.{order-in_tree}
use Rattle.ext_report.proofs.tree_lines.depth_first.Goals as goal

pub returns-clause-in_tree : goal.returns-clause-in_tree
returns-clause-in_tree c =
    order-in_tree c.args.tree.now c.len.result _ c.push_from.new.order.items (omega (arith, c.len.ensures.count, c.len.ensures.some)) c.new-order.ensures.items c.in_ok-push_from.ensures
