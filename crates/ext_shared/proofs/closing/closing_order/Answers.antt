use Rattle.std.proofs.Common.{rules, arith}
use Rattle.ext_shared.proofs.Orders.{order_step}
use Rattle.ext_shared.proofs.closing.closing_order.Goals as goal

pub loop-index-preserved : goal.loop-index-preserved
loop-index-preserved c = order_step c.in_ok-lines.lines.items c.loop-index.index _ c.index.result.now _ _ (omega arith) (omega arith) (search rules) c.loop-index.invariant (c.in_ok-add.ensures)
