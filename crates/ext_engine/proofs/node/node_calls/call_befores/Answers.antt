use Rattle.std.proofs.Common.{rules}
use Rattle.std.specs.Prelude.{None}
use Rattle.ext_store.specs.Stores.{IsLaneOf}
use Rattle.ext_lifecycle.specs.Lifecycle.{MakesBefores}
use Rattle.ext_engine.proofs.NodeCalls.{at_same}
use Rattle.ext_engine.proofs.node.node_calls.call_befores.Goals as goal

pub returns-clause-lane : goal.returns-clause-lane
returns-clause-lane g c = at_same (λ x. IsLaneOf c.args.store.now.id x) _ c.befores-tally.new.self.lane.now (search rules) c.befores-tally.ensures.lane

pub returns-clause-calls : goal.returns-clause-calls
returns-clause-calls g c =
    let m = c.befores-tally.ensures.calls in (
      m.0,
      at_same (λ x. MakesBefores (λ a call o b. g.S.Suite.call_gives c.args.suite.now c.args.store.now c.args.node call None a o b) c.args.befores.now c.args.lane.now m.0 x)
          _ c.befores-tally.new.self.lane.now (search rules) m.1,
      m.2,
    )
