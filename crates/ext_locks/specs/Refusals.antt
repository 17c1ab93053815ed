-- When a set of locks is refused: another lane held one of them, or other lanes were in the way. JUnit waits instead.
-- That a set is refused whole, and why, is not from JUnit.
use Rattle.std.specs.Prelude.{ℕ, ◌≡◌, ◌≢◌, ◌+◌, ◌*◌, Bool, true, false, List, ◌++◌, length}
use mathlib.Core.List.{IsPrefix}
use Rattle.ext_history.specs.Histories.{first_front, IsStepped, IsPointAfter, IsCrowdedAt}
use Rattle.ext_locks.specs.declared.event.LockMode.{LockMode}
use Rattle.ext_locks.specs.declared.event.LockMode.TheVariants.{Read, ReadWrite}
use Rattle.ext_locks.specs.declared.event.LockEvent.{LockEvent}
use Rattle.ext_locks.specs.declared.refusal.LockRefusal.{LockRefusal}
use Rattle.ext_locks.specs.declared.refusal.LockRefusal.TheVariants.{Taken, Contended}
use Rattle.ext_locks.specs.History.{LockHistory, lane_of, holds, IsFree}
use Rattle.ext_locks.specs.Views.{LaneView, Lane}
use Rattle.ext_locks.specs.Sets.{locks_below, wants, takes_of, gives_of}

-- A lane that holds a lock in the first mode keeps others from it in the second.
abbrev pub excludes_mode : LockMode → LockMode → Bool
excludes_mode Read Read = false
excludes_mode Read ReadWrite = true
excludes_mode ReadWrite Read = true
excludes_mode ReadWrite ReadWrite = true

-- Another lane holds the lock in a mode that keeps this one from it.
pub record IsTakenBy (h : LockHistory) (lane lock : ℕ) (mode : LockMode) : Type 0 where
  pub other : ℕ
  pub held : LockMode
  pub apart : other ≢ lane
  pub holds_it : holds h lock held other ≡ true
  pub excludes : excludes_mode held mode ≡ true

-- The lock that a refusal names.
abbrev pub lock_of : LockRefusal → ℕ
lock_of (Taken lock) = lock
lock_of (Contended lock) = lock

-- The lane took the locks of the set below the refused one, and gave them back.
abbrev pub undone : ℕ → List (ℕ × LockMode) → LockRefusal → List LockEvent
undone lane set refusal =
    takes_of lane (locks_below (lock_of refusal) set) ++ gives_of lane (locks_below (lock_of refusal) set)

-- Taken: at a point of the call, after the lane had taken the locks before this one, another lane held this one.
-- Contended: at such a point the lock was free for the mode, and other lanes had made at least `tries` events since the
-- call's first step.
abbrev pub StoodAt : LockRefusal → LockMode → ℕ → LaneView → LaneView → LockHistory → Type 0
StoodAt (Taken lock) mode tries before after p = IsTakenBy p before.number lock mode
StoodAt (Contended lock) mode tries before after p = IsFree p lock mode × IsCrowdedAt lane_of tries before after p

-- ---- how many steps a call makes at most

-- To take the set: for each lock a load and at most `tries` exchanges.
abbrev pub steps_to_take : ℕ → List (ℕ × LockMode) → ℕ
steps_to_take tries set = length set * (tries + 1)

-- To be refused: the same for the refused lock and each lock below it, and one step to give back each lock below it.
abbrev pub steps_to_refuse : ℕ → List (ℕ × LockMode) → LockRefusal → ℕ
steps_to_refuse tries set refusal = length (locks_below (lock_of refusal) set) * (tries + 2) + (tries + 1)

-- ---- why a set was refused

-- Why the set was refused: which of its locks was, and at which point of the call.
pub record IsRefused (tries : ℕ) (set : List (ℕ × LockMode)) (before after : Lane) (refusal : LockRefusal)
    : Type 0 where
  pub mode : LockMode
  pub wanted : wants set (lock_of refusal) mode ≡ true
  pub stepped : IsStepped before.view after.view
  pub point : LockHistory
  -- The point is no earlier than the call's first step.
  pub since_first : IsPrefix (first_front before.view after.view) point
  -- At the point the lane had taken the set's locks below this one and given none back.
  pub is_point : IsPointAfter lane_of before.view after.view
      (takes_of before.view.number (locks_below (lock_of refusal) set)) point
  pub stood : StoodAt refusal mode tries before.view after.view point
