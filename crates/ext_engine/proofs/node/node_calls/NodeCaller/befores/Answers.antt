use Rattle.std.proofs.Common.{subst, arith}
use Rattle.std.specs.Prelude.{◌^◌}
use Rattle.ext_store.specs.Stores.{IsLaneOf}
use Rattle.ext_engine.proofs.NodeCalls.{befores_on}
use Rattle.ext_engine.proofs.node.node_calls.NodeCaller.befores.Goals as goal

pub returns-clause-calls : goal.returns-clause-calls
returns-clause-calls g c =
    let m = c.run_befores.ensures.calls in
    (m.0, (befores_on g.S.Suite.call_gives c.args.calls.now c.args.self.now m.0 c.run_befores.new.caller m.1).1, m.2)

pub returns-clause-lane : goal.returns-clause-lane
returns-clause-lane g c =
    let m = c.run_befores.ensures.calls in
    let s = (befores_on g.S.Suite.call_gives c.args.calls.now c.args.self.now m.0 c.run_befores.new.caller m.1).0 in
    subst (λ x. IsLaneOf x.now.id c.run_befores.new.caller.lane.now) s.store c.run_befores.ensures.ready.0

pub returns-clause-room : goal.returns-clause-room
returns-clause-room g c = c.run_befores.ensures.room (2 ^ 31) (omega (arith, c.requires.few))
