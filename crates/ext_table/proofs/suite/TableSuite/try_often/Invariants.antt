use Rattle.std.proofs.Common.{◌-◌, map}
use Rattle.ext_store.specs.Stores.{IsLaneOf}
use Rattle.ext_table.proofs.Tries.{HaveFailed}
use Rattle.ext_table.proofs.suite.TableSuite.try_often.Given as goal

abbrev pub invariant-loop-attempt : goal.invariant-loop-attempt
invariant-loop-attempt g l = record {
  failed : HaveFailed (g.E.Engine.test_gives l.self.engine.now l.fn.given (map (λ s. s.now) l.fn.shared)) (g.E.Engine.lane_gives l.self.engine.now l.fn.node) (l.attempt - 1) l.fn.lane l.lane;
  lane : IsLaneOf l.store.id l.lane;
}
