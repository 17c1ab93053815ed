-- Meetings of the lanes of a share: each lane is shown what the first has seen, or the first what each has seen. A
-- meeting makes no event. So what the first lane does before a container's children comes before what they do, and what
-- it does after them comes after it.
use Rattle.std.specs.Prelude.{◌≡◌, List, [], ◌∷◌, All}
use Rattle.std.specs.List.{AllZip}
use mathlib.Core.List.{IsPrefix}
use Rattle.ext_history.specs.Histories.{seen_by}
use Rattle.ext_model.specs.History.{History}
use Rattle.ext_model.specs.CallActs.{Calls}
use Rattle.ext_tree.specs.Keys.{KeepsKeys, PlacesNone}
use Rattle.ext_store.specs.Stores.{StoreView, StoreLane, IsLaneOf}

-- The lane is still one of the store's, made no event, and knows the same values and faults. It may know more keys, but
-- put none at a place.
pub record OnlyMeets {V : Type 0} (store : StoreView) (before after : StoreLane V) : Type 0 where
  pub lane : IsLaneOf store.id after
  pub calls : Calls store.id.cells.limits before.cells.view after.cells.view []
  pub known : after.known ≡ before.known
  pub faults : after.faults ≡ before.faults
  pub keys : KeepsKeys before.keys after.keys
  pub placed : PlacesNone before.keys after.keys

-- What the first of the lanes has seen.
abbrev pub first_seen : {V : Type 0} → List (StoreLane V) → History
first_seen [] = []
first_seen (first ∷ rest) = seen_by first.cells.view

-- The lane has seen at least this.
abbrev pub HasSeen : {V : Type 0} → History → StoreLane V → Type 0
HasSeen h lane = IsPrefix h (seen_by lane.cells.view)

-- The lane has seen at most this.
abbrev pub HasSeenWithin : {V : Type 0} → History → StoreLane V → Type 0
HasSeenWithin h lane = IsPrefix (seen_by lane.cells.view) h

-- All lanes are shown what the first has seen.
pub record Forks {V : Type 0} (store : StoreView) (before after : List (StoreLane V)) : Type 0 where
  pub only_meet : AllZip (OnlyMeets store) before after
  pub shown : All (HasSeen (first_seen before)) after

-- The first lane is shown what each lane has seen.
pub record Joins {V : Type 0} (store : StoreView) (before after : List (StoreLane V)) : Type 0 where
  pub only_meet : AllZip (OnlyMeets store) before after
  pub shown : All (HasSeenWithin (first_seen after)) before
