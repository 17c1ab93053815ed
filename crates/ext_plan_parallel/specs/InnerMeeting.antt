-- What is true of the lanes of a run while all of them meet at its end. Only contracts of private functions cite it.
use Rattle.std.specs.Prelude.{◌≡◌, List, []}
use mathlib.Core.List.{IsPrefix}
use Rattle.ext_history.specs.Histories.{Follow, seen_by}
use Rattle.ext_model.specs.CallActs.{Calls}
use Rattle.ext_model.specs.History.{History, IsLegal}
use Rattle.ext_store.specs.Stores.{StoreView, StoreLane, IsLaneOf}
use Rattle.ext_tree.specs.Keys.{KnownPlace, KeepsKeys}

-- What the lane has seen is legal, and each of its fronts extends the one before it.
pub record HasRecalled {V : Type 0} (lane : StoreLane V) : Type 0 where
  pub legal : IsLegal lane.cells.cells.limits (seen_by lane.cells.view)
  pub follow : Follow [] lane.cells.view.fronts

-- The lane is still one of the store's, made no event, and knows the same values and faults. In between it saw this
-- history, which extends what it had seen, and this numbering contains what it knew of keys.
pub record Turns {V : Type 0} (store : StoreView) (h : History) (numbering : List KnownPlace)
    (before after : StoreLane V) : Type 0 where
  pub lane : IsLaneOf store.id after
  pub calls : Calls store.id.cells.limits before.cells.view after.cells.view []
  pub since : IsPrefix (seen_by before.cells.view) h
  pub until : IsPrefix h (seen_by after.cells.view)
  pub known : after.known ≡ before.known
  pub faults : after.faults ≡ before.faults
  pub keys : KeepsKeys before.keys numbering
