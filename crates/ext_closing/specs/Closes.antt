-- What one close does, whatever its result, and what a close comes to that is asked again after refusals. JUnit closes
-- contexts by the User Guide, "Keeping State in Extensions", and Javadoc `ExtensionContext.Store.CloseableResource`.
-- That a close may be refused and asked again is not from JUnit.
use Rattle.std.specs.Prelude.{ℕ, ◌≡◌, Bool, List, length, All, IfErr, IfOk, Result, Ok, Err}
use Rattle.std.specs.List.{AllZip, FoldsTo}
use Rattle.ext_history.specs.Histories.{seen_by}
use Rattle.ext_model.specs.History.{IsLegal}
use Rattle.ext_model.specs.declared.closed.Closed.{Closed}
use Rattle.ext_store.specs.Stores.{StoreView, StoreLane, CloserView, IsLaneOf, StillKeeps}
use Rattle.ext_closing.specs.declared.fault.CloseFault.{CloseFault}
use Rattle.ext_closing.specs.Lanes.{IsGreatestUnjoined, OnlyFirstSteps, first_lane}
use Rattle.ext_closing.specs.Sealing.{AreSealed, MakesSeals, StopsBy, fault_beside, keys_sealed, numbers_left}
use Rattle.ext_closing.specs.Closing.{Answer, ClosesNumbers, NamesUnjoined}

-- `is_closeable` says which values the action closes, and `gives` what a call of the action may answer. The context is
-- the closer's.
module _ {V A : Type 0} (is_closeable : V → Bool) (gives : A → ℕ → V → Answer → A → Type 0) (store : StoreView)
    (closer : CloserView) where
  -- One close: the lanes in hand and the action before it, its result, and both after it.
  pub record Closes (before : List (StoreLane V)) (first : A) (result : Result Closed (CloserView × CloseFault))
      (after : List (StoreLane V)) (last : A) : Type 0 where
    -- The first lane seals the keys and does nothing else. If a seal is refused it stops there.
    pub stops : StopsBy store closer.context (first_lane store before) (first_lane store after) (fault_beside result)
    pub sealed : AreSealed store closer.context (keys_sealed store (fault_beside result)) (first_lane store after)
    pub own_events : MakesSeals store closer.context (first_lane store before) (first_lane store after)
    -- The action closes the closeable values that remain, and is called for nothing else.
    pub closes : IfOk result
        (λ closed. ClosesNumbers is_closeable gives after (numbers_left store closer.context (first_lane store after))
        first last closed)
    -- A refused close hands the closer back and has not called the action. A close refused as `Unjoined` names the
    -- value.
    pub unjoined : IfErr result
        (λ e. NamesUnjoined after (numbers_left store closer.context (first_lane store after)) e.1)
    pub handed_back : IfErr result (λ e. e.0 ≡ closer)
    pub not_called : IfErr result (λ e. last ≡ first)
    -- The lanes know and keep what they did, and only the first made steps.
    pub lanes : OnlyFirstSteps before after
    pub own_lanes : All (IsLaneOf store.id) after
    pub kept : AllZip StillKeeps before after

  -- ---- a close that is asked again

  -- The close is refused for this, and its closer and action are there for the next attempt.
  abbrev pub IsRefused : A → List (StoreLane V) → CloseFault → List (StoreLane V) → Type 0
  IsRefused action before why after = Closes before action (Err (closer, why)) after action

  -- The close is refused any number of times, for whatever reasons, and then succeeds.
  pub record ClosesAtLast (before : List (StoreLane V)) (first : A) (closed : Closed) (after : List (StoreLane V))
      (last : A) : Type 0 where
    pub refusals : List CloseFault
    pub asked : List (StoreLane V)
    pub refused : FoldsTo (IsRefused first) before refusals asked
    pub close : Closes asked first (Ok closed) after last

-- A context that could not be closed: its keys are sealed, but no lane in hand knows the value of this number, the
-- greatest such one that remains. A close refused as `Unjoined` leaves it so, and calls no action.
pub record IsLeftUnjoined {V : Type 0} (store : StoreView) (closer : CloserView) (before : List (StoreLane V))
    (number : ℕ) (after : List (StoreLane V)) : Type 0 where
  pub sealed : AreSealed store closer.context (length store.id.keys) (first_lane store after)
  pub own_events : MakesSeals store closer.context (first_lane store before) (first_lane store after)
  pub unjoined : IsGreatestUnjoined after (numbers_left store closer.context (first_lane store after)) number
  pub lanes : OnlyFirstSteps before after
  pub own_lanes : All (IsLaneOf store.id) after
  pub kept : AllZip StillKeeps before after

-- ---- the law

-- Some refused closes and a successful one are one close. That what the first lane has seen in the end is legal is
-- promised by `tell_proof`.
abbrev pub AskedAgainIsOne : {V A : Type 0} → (V → Bool) → (A → ℕ → V → Answer → A → Type 0) → Type 0
AskedAgainIsOne {V} {A} is_closeable gives =
    (store : StoreView) (closer : CloserView) (before : List (StoreLane V)) (first : A) (closed : Closed)
    (after : List (StoreLane V)) (last : A)
    → IsLegal store.id.cells.limits (seen_by (first_lane store after).view) → All (IsLaneOf store.id) before
    → ClosesAtLast is_closeable gives store closer before first closed after last
    → Closes is_closeable gives store closer before first (Ok closed) after last
