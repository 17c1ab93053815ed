use Rattle.std.proofs.Common.{arith}
use Rattle.ext_lint.proofs.Sets.{said_more}
use Rattle.ext_lint.proofs.said_set.SaidSet.of.Goals as goal

pub loop-one-preserved : goal.loop-one-preserved
loop-one-preserved c = said_more c.loop-one.set c.add_said.new.self c.args.said.now c.loop-one.one-index _ (omega arith) c.in_ok-add_said.ensures c.loop-one.invariant
