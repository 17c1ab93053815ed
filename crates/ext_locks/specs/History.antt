-- The history of locks: which lanes take and give back which locks, who holds what, and which histories are legal. As
-- in JUnit, readers may run together and a writer excludes all others (User Guide, "Synchronization"). A history is one
-- list over all locks; `Histories` of ext_history has the words, and this file says what an event is and when it may
-- come.
use Rattle.std.specs.Prelude.{ℕ, ◌≡◌, ◌<◌, ◌==◌, ◌&&◌, Bool, true, false, if◌then◌else◌, List, fold}
use Rattle.ext_history.specs.Histories as histories
use Rattle.ext_locks.specs.declared.event.LockMode.{LockMode}
use Rattle.ext_locks.specs.declared.event.LockMode.TheVariants.{Read, ReadWrite}
use Rattle.ext_locks.specs.declared.event.LockEvent.{LockEvent}

-- The events so far, oldest first.
abbrev pub LockHistory : Type 0
LockHistory = List LockEvent

-- The lane takes the lock in this mode, or gives it back.
abbrev pub event : ℕ → ℕ → LockMode → Bool → LockEvent
event lane lock mode takes = record { lane = lane; lock = lock; mode = mode; takes = takes }

abbrev pub lane_of : LockEvent → ℕ
lane_of e = e.lane

-- The events of one lane, in order.
abbrev pub own : ℕ → LockHistory → LockHistory
own lane h = histories.own lane_of lane h

-- ---- who holds what

abbrev pub same_mode : LockMode → LockMode → Bool
same_mode Read Read = true
same_mode Read ReadWrite = false
same_mode ReadWrite Read = false
same_mode ReadWrite ReadWrite = true

-- The event takes or gives back this lock in this mode, by this lane.
abbrev pub is_about : LockEvent → ℕ → LockMode → ℕ → Bool
is_about e lock mode lane = ((e.lock == lock) && (e.lane == lane)) && same_mode e.mode mode

-- Whether the lane holds the lock in this mode after the event. `held` says whether it did before.
abbrev pub holds_then : ℕ → LockMode → ℕ → Bool → LockEvent → Bool
holds_then lock mode lane held e = if is_about e lock mode lane then e.takes else held

-- Whether the lane holds the lock in this mode after these events: the last event about the three decides.
abbrev pub holds : LockHistory → ℕ → LockMode → ℕ → Bool
holds h lock mode lane = fold (holds_then lock mode lane) false h

-- ---- legal histories

-- A lock is free for reading if no lane writes by it, and for writing if no lane holds it.
abbrev pub IsFree : LockHistory → ℕ → LockMode → Type 0
IsFree h lock Read = (lane : ℕ) → holds h lock ReadWrite lane ≡ false
IsFree h lock ReadWrite = (lane : ℕ) (mode : LockMode) → holds h lock mode lane ≡ false

abbrev pub IsAllowedAs : Bool → LockHistory → LockEvent → Type 0
IsAllowedAs true h e = IsFree h e.lock e.mode
IsAllowedAs false h e = holds h e.lock e.mode e.lane ≡ true

-- The event may come directly after these, if there are `lanes` lanes.
pub record IsAllowed (lanes : ℕ) (before : LockHistory) (e : LockEvent) : Type 0 where
  -- It is by one of them.
  pub lane : e.lane < lanes
  -- A lock is taken when it is free for the mode, and given back by its holder.
  pub may : IsAllowedAs e.takes before e

-- Each event of a legal history is allowed directly after the events before it.
abbrev pub IsLegal : ℕ → LockHistory → Type 0
IsLegal lanes h = histories.IsLegal (IsAllowed lanes) h

-- A lock has at most one writer, and a writer is its only holder.
abbrev pub IsLawful : LockHistory → Type 0
IsLawful h = (lock writer other : ℕ) (mode : LockMode) → holds h lock ReadWrite writer ≡ true
    → holds h lock mode other ≡ true → writer ≡ other
