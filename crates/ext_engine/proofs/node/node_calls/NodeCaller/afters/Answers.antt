use Rattle.std.proofs.Common.{subst}
use Rattle.ext_store.specs.Stores.{IsLaneOf}
use Rattle.ext_engine.proofs.NodeCalls.{afters_on}
use Rattle.ext_engine.proofs.node.node_calls.NodeCaller.afters.Goals as goal

pub returns-clause-calls : goal.returns-clause-calls
returns-clause-calls g c =
    let m = c.run_afters.ensures.calls in
    (m.0, (afters_on g.S.Suite.call_gives c.args.calls.now c.args.self.now m.0 c.run_afters.new.caller m.1).1, m.2)

pub returns-clause-lane : goal.returns-clause-lane
returns-clause-lane g c =
    let m = c.run_afters.ensures.calls in
    let s = (afters_on g.S.Suite.call_gives c.args.calls.now c.args.self.now m.0 c.run_afters.new.caller m.1).0 in
    subst (λ x. IsLaneOf x.now.id c.run_afters.new.caller.lane.now) s.store c.run_afters.ensures.ready.0
