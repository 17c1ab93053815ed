-- Who made the events that a lane is shown while a node runs (JUnit 5 User Guide, "Parallel Execution"; JUnit has no
-- such rule).
--
-- All lanes of a run see one history, and what a lane does is an event of it. A node runs on a share of the lanes. Take
-- an event after all that the first lane of the share had seen when the node began, and within what it has seen when
-- the node ended. Then a lane of the share made it in that run, or a node made it that may run beside this one. That
-- is: some container has two different concurrent children, this node is at or below one, and the event was made in a
-- run of the other and the nodes below it. This is true of each node of a run that is itself alone, and of each call of
-- a node and each close of its context, which the first lane makes. If, besides, each node changes only cells of its
-- own (`Changing`), a node is alone on each cell that no node beside it changes: an event there, seen while it runs, is
-- its own.
--
-- Not covered: locks have a history of their own. Drawing a number is an event on no cell, and a node beside may do it
-- at any time. A lane outside the run may make events at any time, so the whole run has the condition that there is
-- none. Events that a lane of the run made before it count, too, if the first lane had not seen them, so there is also
-- the condition that there are none. A run of a plan, whose store is opened for it, meets both.
use Rattle.std.specs.Prelude.{◌≡◌, ◌≢◌, ◌⊎◌, ℕ, ◌<◌, ◌≤◌, List, map, length, All, Some, Contains, slice_get}
use Rattle.ext_history.specs.Histories.{seen_by}
use Rattle.ext_model.specs.declared.event.Event.{Event}
use Rattle.ext_model.specs.History.{History, own}
use Rattle.ext_store.specs.Stores.{StoreLane}
use Rattle.ext_engine.specs.RunLaws.{IsAtOrBelow}
use Rattle.ext_engine.specs.Meeting.{HasSeenWithin, first_seen}
use Rattle.ext_engine.specs.Order.{ChildRun, IsMadeIn}
use Rattle.ext_engine.specs.TreeRun.{Lanes, Ran, TreeSetting, concurrent_children}

-- ---- what is seen meanwhile

-- The event at this index is one that the first of the lanes was shown, or made, between these two states of them.
pub record IsSeenMeanwhile {V : Type 0} (index : ℕ) (before after : List (StoreLane V)) : Type 0 where
  pub since : length (first_seen before) ≤ index
  pub until : index < length (first_seen after)

-- Each such event was made by one of these lanes between the two states, or is one of others.
pub record IsTheirsOr {V : Type 0} (h : History) (Others : ℕ → Type 0) (before after : List (StoreLane V))
    : Type 0 where
  pub each : (index : ℕ) → IsSeenMeanwhile index before after → IsMadeIn h index before after ⊎ Others index

-- ---- a whole run

abbrev pub numbers_of : {V : Type 0} → List (StoreLane V) → List ℕ
numbers_of lanes = map (λ lane. lane.cells.view.number) lanes

-- The history has exactly those events of the lane that the lane has seen.
abbrev pub HasJustItsOwn : {V : Type 0} → History → StoreLane V → Type 0
HasJustItsOwn h lane = own lane.cells.view.number h ≡ own lane.cells.view.number (seen_by lane.cells.view)

-- All lanes of a store. Before the run none has seen more than the first. Each event of the history is by one of them.
-- After the run the history has exactly those events of each lane that this lane has seen.
pub record AreAllLanes {V : Type 0} (h : History) (before after : List (StoreLane V)) : Type 0 where
  pub first : All (HasSeenWithin (first_seen before)) before
  pub by_lanes : (index : ℕ) (event : Event ℕ) → slice_get h index ≡ Some event
      → Contains (numbers_of before) event.lane
  pub parts : All (HasSeenWithin h) after
  pub own_events : All (HasJustItsOwn h) after

-- ---- nodes beside one another

module _ {V A : Type 0} (t : TreeSetting V A) where
  -- In a run of the node and of those below it, down to `depth` levels, one of its lanes made the event at this index.
  pub record IsMadeByNode (h : History) (depth node index : ℕ) : Type 0 where
    pub before : Lanes V
    pub ran : List Ran
    pub after : Lanes V
    pub run : ChildRun t depth node before ran after
    pub within : All (HasSeenWithin h) after.first
    pub made : IsMadeIn h index before.first after.first

  -- A node that may run beside this one made the event: of two different concurrent children of a container, this node
  -- is at or below one, and the event was made in a run of the other.
  pub record IsMadeBeside (h : History) (node index : ℕ) : Type 0 where
    pub container : ℕ
    pub child : ℕ
    pub other : ℕ
    pub concurrent : Contains (concurrent_children t container) child
    pub other_concurrent : Contains (concurrent_children t container) other
    pub differ : child ≢ other
    pub below : IsAtOrBelow t.store.tree child node
    pub depth : ℕ
    pub made : IsMadeByNode h depth other index

  -- While the node runs, or some part of it, its lanes are alone except for nodes beside it: each event that the first
  -- lane sees meanwhile is theirs, or was made by a node that may run beside this one.
  abbrev pub IsAloneButBeside : History → ℕ → List (StoreLane V) → List (StoreLane V) → Type 0
  IsAloneButBeside h node before after = IsTheirsOr h (IsMadeBeside h node) before after

  -- A run of a node that is alone in this sense, within this history.
  pub record RunsAlone (h : History) (depth node : ℕ) (before : Lanes V) (ran : List Ran) (after : Lanes V)
      : Type 0 where
    pub run : ChildRun t depth node before ran after
    pub within : All (HasSeenWithin h) after.first
    pub alone : IsAloneButBeside h node before.first after.first
