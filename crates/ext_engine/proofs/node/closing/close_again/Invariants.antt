use Rattle.std.proofs.Common.{◌≡◌, length, All, List}
use Rattle.std.specs.List.{FoldsTo}
use Rattle.ext_closing.specs.declared.fault.CloseFault.{CloseFault}
use Rattle.ext_closing.specs.Closes.{IsRefused}
use Rattle.ext_store.specs.Stores.{IsLaneOf}
use Rattle.ext_engine.proofs.node.closing.close_again.Given as goal

-- all closes so far were refused
abbrev pub invariant-loop : goal.invariant-loop
invariant-loop g l = record {
  refused : (refusals : List CloseFault) × FoldsTo (IsRefused g.V.StoreValue.is_closeable g.A.CloseAction.close_gives l.store l.fn.closer l.fn.action) l.fn.lanes refusals l.lanes;
  own_lanes : All (IsLaneOf l.store.id) l.lanes;
  count : length l.lanes ≡ length l.fn.lanes;
  action : l.action ≡ l.fn.action;
  closer : l.left ≡ l.fn.closer;
}
