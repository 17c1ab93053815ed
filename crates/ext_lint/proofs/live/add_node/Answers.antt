use Rattle.ext_lint.proofs.Sets.{added_node}
use Rattle.ext_lint.proofs.live.add_node.Goals as goal

pub returns : goal.returns
returns c = added_node c.args.set.now c.insert.new.self c.args.node.now c.in_ok-insert.ensures.updates
