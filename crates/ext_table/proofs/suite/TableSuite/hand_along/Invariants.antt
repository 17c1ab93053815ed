use Rattle.std.proofs.Common.{◌≤◌, length, take, vec_len}
use Rattle.std.specs.Prelude.{reverse}
use Rattle.std.specs.List.{FoldsTo}
use Rattle.ext_store.specs.Stores.{IsLaneOf}
use Rattle.ext_table.specs.InnerSharing.{IsRoomy, handed_by}
use Rattle.ext_table.specs.Sharing.{HandsAt, nothing_handed}
use Rattle.ext_table.proofs.suite.TableSuite.hand_along.Given as goal

abbrev pub invariant-loop-at : goal.invariant-loop-at
invariant-loop-at g l = record {
  lane : IsLaneOf l.store.id l.lane;
  roomy : IsRoomy l.handing;
  few : vec_len l.handing.values ≤ length l.yielded;
  each : FoldsTo (HandsAt l.self.rows.now l.store (g.E.Engine.make_gives l.self.engine.now)) (nothing_handed l.fn.lane) (take (length l.yielded) (reverse l.path)) (handed_by l.handing l.lane);
}
