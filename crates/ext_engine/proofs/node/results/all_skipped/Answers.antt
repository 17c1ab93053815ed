use Rattle.std.proofs.Common.{rules}
use Rattle.ext_engine.proofs.Putting.{skipped-more}
use Rattle.ext_engine.proofs.node.results.all_skipped.Goals as goal

pub loop-node-preserved : goal.loop-node-preserved
loop-node-preserved g c = skipped-more (g.S.Suite.suite_view c.args.suite.now) c.loop-node.node c.loop-node.results.items c.push.new.self.items c.skipped.result c.loop-node.invariant (search rules) c.in_ok-push.ensures.items
