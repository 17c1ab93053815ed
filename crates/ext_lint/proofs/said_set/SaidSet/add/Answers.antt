use Rattle.ext_lint.proofs.Sets.{added}
use Rattle.ext_lint.proofs.said_set.SaidSet.add.Goals as goal

pub returns : goal.returns
returns c = added c.args.self.now (record { pairs = c.insert.new.self }) c.args.key c.args.text c.in_ok-insert.ensures.updates
