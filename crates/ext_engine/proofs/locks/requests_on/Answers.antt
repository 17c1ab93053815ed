use Rattle.ext_engine.proofs.Requests.{nodes-more, nodes-all}
use Rattle.ext_engine.proofs.locks.requests_on.Goals as goal

pub loop-node-preserved : goal.loop-node-preserved
loop-node-preserved g c = nodes-more (g.S.Suite.suite_view c.args.suite.now).locks c.args.path.now c.loop-node.node-index 0 _ _ _ c.loop-node-test.true c.loop-node.invariant c.in_ok-push_locks.ensures

pub returns : goal.returns
returns g c = nodes-all (g.S.Suite.suite_view c.args.suite.now).locks c.args.path.now c.loop-node.node-index _ _ c.loop-node.auto.node-index-end c.loop-node-test.false c.loop-node.invariant
