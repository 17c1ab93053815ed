-- What the parts of a call on a set of locks do to a lane's seat. No public contract cites it. Here a set is a list
-- with one mode, or none, for each lock number.
use Rattle.std.specs.Prelude.{ℕ, ◌≡◌, ◌+◌, ◌<◌, ◌≤◌, ◌&&◌, Bool, false, if◌then◌else◌, leb, ltb, List, length, Option, Some, None, slice_index_or}
use Rattle.atomic_table.specs.Seated.{TableId}
use Rattle.atomic_table.specs.declared.shared.Seat.{Seat}
use Rattle.ext_history.specs.Histories.{seen, IsStepped}
use Rattle.ext_locks.specs.declared.event.LockMode.{LockMode}
use Rattle.ext_locks.specs.declared.event.LockEvent.{LockEvent}
use Rattle.ext_locks.specs.declared.seat.SeatView.{SeatView}
use Rattle.ext_locks.specs.declared.refusal.LockRefusal.{LockRefusal}
use Rattle.ext_locks.specs.History.{LockHistory, event, is_about, same_mode, holds, IsLegal}
use Rattle.ext_locks.specs.Views.{LaneView, Lane, LaneCalls}
use Rattle.ext_locks.specs.InnerRule.{lane_view}
use Rattle.ext_locks.specs.Refusals.{StoodAt}

-- The lane of a seat as contracts see it.
abbrev pub lane_at : Seat (Unit {0}) SeatView → ℕ → Lane
lane_at seat lane = record { table = seat.table_id; lanes = seat.me.0.lanes; view = lane_view seat.me.0 lane }

-- The seat is this lane's, in a table with a word for each lock, and what it has seen is legal.
pub record IsLane (table : TableId) (locks : ℕ) (seat : Seat (Unit {0}) SeatView) (lane : ℕ) : Type 0 where
  pub same_table : seat.table_id ≡ table
  pub same_locks : locks ≡ table.words
  pub number : seat.me.0.number ≡ Some lane
  pub few : lane < 32
  pub legal : IsLegal seat.me.0.lanes (seen seat.me.0.fronts)

-- The seat's lane made these events, and what it has seen is legal.
pub record Makes (before after : Seat (Unit {0}) SeatView) (lane : ℕ) (events : List LockEvent) : Type 0 where
  pub number : after.me.0.number ≡ before.me.0.number
  pub legal : IsLegal after.me.0.lanes (seen after.me.0.fronts)
  pub calls : LaneCalls (lane_at before lane) (lane_at after lane) events

-- At most `count` fronts were added.
abbrev pub AddsAtMost : ℕ → List LockHistory → List LockHistory → Type 0
AddsAtMost count before after = length after ≤ length before + count

-- ---- what a lane holds of a set

abbrev pub is_mode : Option LockMode → LockMode → Bool
is_mode None mode = false
is_mode (Some m) mode = same_mode m mode

-- The set wants the lock in this mode.
abbrev pub has_mode : List (Option LockMode) → ℕ → LockMode → Bool
has_mode modes lock mode = is_mode (slice_index_or modes lock None) mode

abbrev pub is_between : ℕ → ℕ → ℕ → Bool
is_between from end lock = leb from lock && ltb lock end

-- The lane holds the set's locks with numbers from `from` up to `end`, exclusive, and no others.
pub record HoldsBetween (fronts : List LockHistory) (lane : ℕ) (modes : List (Option LockMode)) (from end : ℕ)
    : Type 0 where
  pub each : (lock : ℕ) (mode : LockMode)
      → holds (seen fronts) lock mode lane ≡ (is_between from end lock && has_mode modes lock mode)

-- The lane holds what it held.
pub record SameHeld (before after : List LockHistory) (lane : ℕ) : Type 0 where
  pub each : (lock : ℕ) (mode : LockMode) → holds (seen after) lock mode lane ≡ holds (seen before) lock mode lane

-- The lane holds what it held, except that it now holds this lock in this mode, or no longer does.
pub record HeldBut (before after : List LockHistory) (lane lock : ℕ) (mode : LockMode) (held : Bool) : Type 0 where
  pub each : (k : ℕ) (m : LockMode)
      → holds (seen after) k m lane
      ≡ (if is_about (event lane lock mode held) k m lane then held else holds (seen before) k m lane)

-- No lock of the set is past the last one.
pub record IsWithin (modes : List (Option LockMode)) (locks : ℕ) : Type 0 where
  pub each : (lock : ℕ) (mode : LockMode) → slice_index_or modes lock None ≡ Some mode → lock < locks

-- ---- why one lock was not taken

-- The lane made a step, and what it saw last says why the lock was refused: that is the point of the refusal.
pub record Missed (refusal : LockRefusal) (before after : LaneView) (mode : LockMode) (tries : ℕ) : Type 0 where
  pub stepped : IsStepped before after
  pub stood : StoodAt refusal mode tries before after (seen after.fronts)
