use Rattle.std.proofs.Common.{rules, ◌+◌, ◌^◌, length, arith}
use Rattle.std.specs.Prelude.{None}
use Rattle.ext_store.specs.Stores.{IsLaneOf}
use Rattle.ext_lifecycle.specs.Lifecycle.{MakesAll}
use Rattle.ext_lifecycle.proofs.Calling.{roomy-less}
use Rattle.ext_engine.proofs.NodeCalls.{at_same}
use Rattle.ext_engine.proofs.node.node_calls.call_afters.Goals as goal

pub afters-requires-clause-room : goal.afters-requires-clause-room
afters-requires-clause-room g c κs within = roomy-less (length c.args.afters.now) (2 ^ 31) c.args.tally.now (omega (arith, c.requires.afters)) c.requires.room

pub returns-clause-lane : goal.returns-clause-lane
returns-clause-lane g c = at_same (λ x. IsLaneOf c.args.store.now.id x) _ c.afters.new.self.lane.now (search rules) c.afters.ensures.lane

pub returns-clause-room : goal.returns-clause-room
returns-clause-room g c = c.afters.ensures.room 2 (roomy-less (length c.args.afters.now + 2) (2 ^ 31) c.args.tally.now (omega (arith, c.requires.afters)) c.requires.room)

pub returns-clause-calls : goal.returns-clause-calls
returns-clause-calls g c = λ before is.
    let m = c.afters.ensures.calls in (
      m.0,
      at_same (λ x. MakesAll (λ a call o b. g.S.Suite.call_gives c.args.suite.now c.args.store.now c.args.node call None a o b) c.args.afters.now c.args.lane.now m.0 x)
          _ c.afters.new.self.lane.now (search rules) m.1,
      m.2 before is,
    )
