use Rattle.std.proofs.Common.{arith}
use Rattle.ext_lint.proofs.Sets.{pairs_more}
use Rattle.ext_lint.proofs.heights.add_nodes.Goals as goal

pub loop-node-preserved : goal.loop-node-preserved
loop-node-preserved c = pairs_more c.args.set.now c.loop-node.set c.add_node.new.set c.args.nodes.now c.args.depth c.loop-node.node-index (omega arith) c.in_ok-add_node.ensures c.loop-node.invariant
