use Rattle.ext_lint.proofs.Sets.{added_pair}
use Rattle.ext_lint.proofs.heights.add_node.Goals as goal

pub returns : goal.returns
returns c = added_pair c.args.set.now c.insert.new.self c.args.node.now c.args.depth c.in_ok-insert.ensures.updates
