-- A lane of locks as contracts see it, and what a call on it promises. `Histories` of ext_history has the words for
-- fronts, events and points.
use Rattle.std.specs.Prelude.{ℕ, ◌≡◌, List}
use Rattle.atomic_table.specs.Seated.{TableId}
use Rattle.ext_history.specs.Histories as histories
use Rattle.ext_history.specs.Histories.{seen_by}
use Rattle.ext_locks.specs.declared.event.LockEvent.{LockEvent}
use Rattle.ext_locks.specs.History.{LockHistory, lane_of, own}

-- A lane's number, from 0, and its fronts: the history as it stood after each of its steps, oldest first.
abbrev pub LaneView : Type 0
LaneView = histories.LaneView LockEvent

-- A lane: the table of the locks to which it belongs, how many lanes these have, and its number and fronts.
pub record Lane : Type 0 where
  pub table : TableId
  pub lanes : ℕ
  pub view : LaneView

-- The lane's own events.
abbrev pub own_of : Lane → LockHistory
own_of lane = own lane.view.number (seen_by lane.view)

-- The call made exactly these events of the lane, each once and in this order.
abbrev pub Calls : LaneView → LaneView → List LockEvent → Type 0
Calls before after events = histories.Calls lane_of before after events

-- The lane stays a lane of the same locks, and the call made exactly these events of it.
pub record LaneCalls (before after : Lane) (events : List LockEvent) : Type 0 where
  pub table : after.table ≡ before.table
  pub lanes : after.lanes ≡ before.lanes
  pub calls : Calls before.view after.view events
