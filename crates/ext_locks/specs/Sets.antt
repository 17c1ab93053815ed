-- Sets of locks, which a lane holds whole or not at all (JUnit 5 User Guide, "Synchronization"). A set lists its locks
-- with their modes, in the order of their numbers.
use Rattle.std.specs.Prelude.{ℕ, suc, ◌≡◌, ◌<◌, ◌==◌, ◌&&◌, Bool, true, false, nat_lt, List, [], ◌∷◌, map, filter, Option, Some, None}
use Rattle.std.specs.List.{list_any}
use Rattle.atomic_table.specs.Seated.{TableId}
use Rattle.ext_history.specs.Histories.{seen_by}
use Rattle.ext_locks.specs.declared.event.LockMode.{LockMode}
use Rattle.ext_locks.specs.declared.event.LockMode.TheVariants.{ReadWrite}
use Rattle.ext_locks.specs.declared.event.LockEvent.{LockEvent}
use Rattle.ext_locks.specs.History.{LockHistory, event, same_mode, holds}
use Rattle.ext_locks.specs.Views.{Lane, own_of}

-- The locks of a set, from a list that gives for each lock from a number on the mode in which the set wants it, or
-- none.
abbrev pub locks_from : ℕ → List (Option LockMode) → List (ℕ × LockMode)
locks_from lock [] = []
locks_from lock (None ∷ modes) = locks_from (suc lock) modes
locks_from lock (Some mode ∷ modes) = (lock, mode) ∷ locks_from (suc lock) modes

abbrev pub locks_of : List (Option LockMode) → List (ℕ × LockMode)
locks_of modes = locks_from 0 modes

-- The locks of a set below a number.
abbrev pub locks_below : ℕ → List (ℕ × LockMode) → List (ℕ × LockMode)
locks_below number set = filter (λ lock. nat_lt lock.0 number) set

abbrev pub is_lock : ℕ → LockMode → ℕ × LockMode → Bool
is_lock lock mode member = (member.0 == lock) && same_mode member.1 mode

-- The set has this lock in this mode.
abbrev pub wants : List (ℕ × LockMode) → ℕ → LockMode → Bool
wants set lock mode = list_any (is_lock lock mode) set

-- Each lock of the set has a number below this one.
pub record AllBelow (count : ℕ) (set : List (ℕ × LockMode)) : Type 0 where
  pub each : (lock : ℕ) (mode : LockMode) → wants set lock mode ≡ true → lock < count

-- ---- the events of a whole set

-- The lane takes the locks in order.
abbrev pub takes_of : ℕ → List (ℕ × LockMode) → List LockEvent
takes_of lane set = map (λ lock. event lane lock.0 lock.1 true) set

-- The lane gives them back in order.
abbrev pub gives_of : ℕ → List (ℕ × LockMode) → List LockEvent
gives_of lane set = map (λ lock. event lane lock.0 lock.1 false) set

-- ---- what a lane holds

-- The lane holds no lock.
pub record HoldsNothing (lane : Lane) : Type 0 where
  pub each : (lock : ℕ) (mode : LockMode) → holds (seen_by lane.view) lock mode lane.view.number ≡ false

-- The lane holds each lock of the set in its mode, and nothing else.
pub record HoldsExactly (lane : Lane) (set : List (ℕ × LockMode)) : Type 0 where
  pub each : (lock : ℕ) (mode : LockMode) → holds (seen_by lane.view) lock mode lane.view.number ≡ wants set lock mode

-- Where one lane writes by a lock, the other does not hold it.
pub record Excludes (one other : Lane) : Type 0 where
  pub each : (lock : ℕ) (mode : LockMode) → holds (seen_by one.view) lock ReadWrite one.view.number ≡ true
      → holds (seen_by other.view) lock mode other.view.number ≡ false

-- A held set as contracts see it: the lane that took it, the names of its locks, the set, and the lane's own events up
-- to when it was taken. Their number distinguishes one taking from every other.
pub record HeldView : Type 0 where
  pub table : TableId
  pub lane : ℕ
  pub names : List (List ℕ)
  pub set : List (ℕ × LockMode)
  pub own_events : LockHistory

-- The lane took the set and has made no event since.
pub record IsHeldBy (held : HeldView) (lane : Lane) : Type 0 where
  pub same_table : lane.table ≡ held.table
  pub same_lane : lane.view.number ≡ held.lane
  pub no_event : own_of lane ≡ held.own_events
