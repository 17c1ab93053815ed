-- In which order the lanes of a run do what they do (JUnit 5 User Guide, "Relative Execution Order of User Code and
-- Extensions" and "Parallel Execution"). All lanes of a run see one history, and what a lane does is an event of it. So
-- the order of events in that history says what comes first, which is not from JUnit.
use Rattle.std.specs.Prelude.{◌≡◌, ◌⊎◌, ℕ, ◌<◌, ◌≤◌, true, List, [], ◌∷◌, length, Option, Some, min, All, slice_get, slice_index_or}
use Rattle.std.specs.List.{AllZip, FoldsTo}
use mathlib.Core.List.{IsPrefix}
use Rattle.ext_history.specs.Histories.{seen_by}
use Rattle.ext_model.specs.declared.event.Event.{Event}
use Rattle.ext_model.specs.History.{History}
use Rattle.ext_lifecycle.specs.declared.call.Call.{Call}
use Rattle.ext_lifecycle.specs.declared.outcome.Outcome.{Outcome}
use Rattle.ext_lifecycle.specs.Endings.{all_successful}
use Rattle.ext_lifecycle.specs.Lifecycle.{endings_of}
use Rattle.ext_tree.specs.Keys.{KeepsKeys}
use Rattle.ext_values.specs.Known.{KeepsKnown}
use Rattle.ext_store.specs.Stores.{StoreView, StoreLane}
use Rattle.ext_locks.specs.Opening.{LocksView}
use Rattle.ext_locks.specs.Sets.{HeldView}
use Rattle.ext_crew.specs.Dealing.{RunByDealing}
use Rattle.ext_engine.specs.Meeting.{HasSeen, HasSeenWithin, first_seen}
use Rattle.ext_engine.specs.TreeRun.{Lanes, Ran, TreeSetting, BodyRun, ContainerRun, TreeRun, concurrent_children, with_lanes}

-- ---- lanes that go on

-- The lane is the same one, has seen at least what it had seen, and still knows the values, faults and keys that it
-- knew.
pub record LaneGoesOn {V : Type 0} (before after : StoreLane V) : Type 0 where
  pub number : after.cells.view.number ≡ before.cells.view.number
  pub seen : IsPrefix (seen_by before.cells.view) (seen_by after.cells.view)
  pub known : KeepsKnown before.known after.known
  pub faults : KeepsKnown before.faults after.faults
  pub keys : KeepsKeys before.keys after.keys

-- All lanes of a share go on.
abbrev pub AllGoOn : {V : Type 0} → List (StoreLane V) → List (StoreLane V) → Type 0
AllGoOn before after = AllZip LaneGoesOn before after

-- When the run begins, all lanes of the share have seen at least `since`; when it ends, at most `until`.
pub record IsWithin {V : Type 0} (since until : History) (before after : Lanes V) : Type 0 where
  pub begins : All (HasSeen since) before.first
  pub ends : All (HasSeenWithin until) after.first

-- ---- events

-- The event at this index of the history is the lane's, made between these two states of it.
pub record IsMadeBy {V : Type 0} (h : History) (index : ℕ) (before after : StoreLane V) : Type 0 where
  pub event : Event ℕ
  pub there : slice_get h index ≡ Some event
  pub own_event : event.lane ≡ before.cells.view.number
  pub since : length (seen_by before.cells.view) ≤ index
  pub until : index < length (seen_by after.cells.view)

-- One of these lanes made the event between these two states.
abbrev pub IsMadeIn : {V : Type 0} → History → ℕ → List (StoreLane V) → List (StoreLane V) → Type 0
IsMadeIn h index [] after = ⊥
IsMadeIn h index (lane ∷ before) [] = ⊥
IsMadeIn h index (lane ∷ before) (later ∷ after) = IsMadeBy h index lane later ⊎ IsMadeIn h index before after

-- Every event that lanes made from `before` to `after` comes before every event that the same or other lanes made from
-- `next` to `later`.
abbrev pub ComesBefore : {V : Type 0} → History → List (StoreLane V) → List (StoreLane V) → List (StoreLane V)
    → List (StoreLane V) → Type 0
ComesBefore h before after next later = (first second : ℕ) → IsMadeIn h first before after
    → IsMadeIn h second next later → first < second

-- Every event that these lanes made comes after what the first of them had seen when they began, and within what it has
-- seen when they end.
abbrev pub IsSeenByFirst : {V : Type 0} → History → List (StoreLane V) → List (StoreLane V) → Type 0
IsSeenByFirst h before after = (index : ℕ) → IsMadeIn h index before after → (length (first_seen before) ≤ index)
    × (index < length (first_seen after))

-- ---- containers

-- Every call lets its lane go on.
abbrev pub CallsGoOn : {V : Type 0} → (ℕ → Call → Option HeldView → StoreLane V → Outcome → StoreLane V → Type 0)
    → Type 0
CallsGoOn {V} makes =
    (node : ℕ) (call : Call) (held : Option HeldView) (before : StoreLane V) (outcome : Outcome) (after : StoreLane V)
    → makes node call held before outcome after → LaneGoesOn before after

module _ {V A : Type 0} (t : TreeSetting V A) where
  abbrev pub ChildRun : ℕ → ℕ → Lanes V → List Ran → Lanes V → Type 0
  ChildRun depth child before ran after = TreeRun t depth child before ran after

  -- What the lanes of a container had seen, if its body was run. `opened` are its lanes after the before-callbacks,
  -- `after` those after the body, and `called` those after the after-callbacks. When a concurrent child begins, its
  -- lanes have seen what the first lane had seen after the before-callbacks. When it ends, they have seen no more than
  -- the first lane has when the other children begin.
  pub record IsSeenInOrder (depth node : ℕ) (before opened : Lanes V) (below : List Ran) (after : Lanes V)
      (called : List (StoreLane V)) (body : BodyRun t (ChildRun depth) node opened below after) : Type 0 where
    pub befores : IsPrefix (first_seen before.first) (first_seen opened.first)
    pub children : RunByDealing (λ i s ran u. ChildRun depth (slice_index_or (concurrent_children t node) i 0) s ran u
        × IsWithin (first_seen opened.first) (first_seen body.joined) s u)
        (length (concurrent_children t node)) (min (length body.forked) (length (concurrent_children t node)))
        (with_lanes body.forked opened) body.beside body.between
    pub others : IsPrefix (first_seen body.joined) (first_seen after.first)
    pub afters : IsPrefix (first_seen after.first) (first_seen called)

  -- The order of the container's events. `closed` are its lanes at its end.
  pub record IsMadeInOrder (h : History) (depth node : ℕ) (before opened : Lanes V) (below : List Ran) (after : Lanes V)
      (called closed : List (StoreLane V)) (body : BodyRun t (ChildRun depth) node opened below after) : Type 0 where
    -- What a concurrent child does comes after the before-callbacks, and before the other children, the after-callbacks
    -- and the close.
    pub children : RunByDealing (λ i s ran u. ChildRun depth (slice_index_or (concurrent_children t node) i 0) s ran u
        × ComesBefore h before.first opened.first s.first u.first × ComesBefore h s.first u.first body.joined closed)
        (length (concurrent_children t node)) (min (length body.forked) (length (concurrent_children t node)))
        (with_lanes body.forked opened) body.beside body.between
    -- What any other child does comes after all that was done before it, and before all that is done after it.
    pub others : FoldsTo (λ s d u. ChildRun depth d.0 s d.1 u × ComesBefore h before.first s.first s.first u.first
        × ComesBefore h s.first u.first u.first closed) (with_lanes body.joined body.between) body.in_turn.done after
    -- The after-callbacks come after all of that, and the close after them.
    pub afters : ComesBefore h before.first after.first after.first called
    pub close : ComesBefore h before.first called called closed

  -- ---- laws

  -- A run of a node lets all lanes of its share go on.
  abbrev pub NodesGoOn : Type 0
  NodesGoOn = (depth node : ℕ) (before : Lanes V) (ran : List Ran) (after : Lanes V)
      → ChildRun depth node before ran after → AllGoOn before.first after.first

  -- All events of a node's run come after what the first lane of its share had seen before it, and within what that
  -- lane has seen after it. That is true in each history of which all lanes of the share have seen a beginning.
  abbrev pub NodesAreSeen : Type 0
  NodesAreSeen = (depth node : ℕ) (before : Lanes V) (ran : List Ran) (after : Lanes V)
      → ChildRun depth node before ran after → (h : History) → All (HasSeenWithin h) after.first
      → IsSeenByFirst h before.first after.first

  -- What is true of each container whose body is run.
  abbrev pub ContainersAreSeenInOrder : Type 0
  ContainersAreSeenInOrder = (depth node : ℕ) (path : List ℕ) (before : Lanes V) (ran : List Ran) (after : Lanes V)
      → (run : ContainerRun t (ChildRun depth) node path before ran after)
      → (on : all_successful (endings_of run.befores) ≡ true)
      → IsSeenInOrder depth node before (record { first = run.opened; second = before.second }) run.below run.body
      run.ends.called (run.body_made.made on)

  abbrev pub ContainersAreMadeInOrder : Type 0
  ContainersAreMadeInOrder = (depth node : ℕ) (path : List ℕ) (before : Lanes V) (ran : List Ran) (after : Lanes V)
      → (run : ContainerRun t (ChildRun depth) node path before ran after)
      → (on : all_successful (endings_of run.befores) ≡ true) → (h : History) → All (HasSeenWithin h) after.first
      → IsMadeInOrder h depth node before (record { first = run.opened; second = before.second }) run.below run.body
      run.ends.called after.first (run.body_made.made on)

-- The law holds of runs by each suite of a type, if its calls let lanes go on.
abbrev pub OfSuites : {V S A : Type 0} → (S → StoreView → LocksView → TreeSetting V A) → (TreeSetting V A → Type 0)
    → Type 0
OfSuites {V} {S} {A} setting Law = (suite : S) (store : StoreView) (locks : LocksView)
    → CallsGoOn (setting suite store locks).call_gives → Law (setting suite store locks)
