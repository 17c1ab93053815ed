use Rattle.std.proofs.Common.{subst, arith}
use Rattle.ext_store.specs.Stores.{IsLaneOf}
use Rattle.ext_engine.proofs.NodeCalls.{calls_on}
use Rattle.ext_engine.proofs.node.node_calls.NodeCaller.calls.Goals as goal

pub returns-clause-calls : goal.returns-clause-calls
returns-clause-calls g c =
    let m = c.run_calls.ensures.calls in
    (m.0, (calls_on g.S.Suite.call_gives c.args.befores.now c.args.body c.args.afters.now c.args.self.now m.0 c.run_calls.new.caller m.1).1, m.2)

pub returns-clause-lane : goal.returns-clause-lane
returns-clause-lane g c =
    let m = c.run_calls.ensures.calls in
    let s = (calls_on g.S.Suite.call_gives c.args.befores.now c.args.body c.args.afters.now c.args.self.now m.0 c.run_calls.new.caller m.1).0 in
    subst (λ x. IsLaneOf x.now.id c.run_calls.new.caller.lane.now) s.store c.run_calls.ensures.ready.0

pub returns-clause-room : goal.returns-clause-room
returns-clause-room g c = c.run_calls.ensures.room 2 (omega (arith, c.requires.befores, c.requires.afters))
