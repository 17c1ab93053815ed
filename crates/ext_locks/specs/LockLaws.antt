-- Laws of lock histories, of calls on locks and of merged sets, each proved by `lock_laws`. JUnit 5 User Guide,
-- "Synchronization": readers may run together, and a writer excludes all others.
use Rattle.std.specs.Prelude.{ℕ, ◌≡◌, ◌<◌, ◌≤◌, false, List, [], ◌++◌}
use mathlib.Core.List.{IsPrefix}
use Rattle.ext_locks.specs.declared.event.LockMode.{LockMode}
use Rattle.ext_locks.specs.declared.event.LockMode.TheVariants.{ReadWrite}
use Rattle.ext_locks.specs.declared.event.LockEvent.{LockEvent}
use Rattle.ext_locks.specs.declared.request.LockRequest.{LockRequest}
use Rattle.ext_locks.specs.History.{LockHistory, holds, own, IsFree, IsLegal, IsLawful}
use Rattle.ext_locks.specs.Views.{Lane, LaneCalls}
use Rattle.ext_locks.specs.Names.{AreDifferent, IsMerged}

-- ---- histories

-- In a legal history a lock has at most one writer, and a writer is its only holder.
abbrev pub LegalIsLawful : Type 0
LegalIsLawful = (lanes : ℕ) (h : LockHistory) → IsLegal lanes h → IsLawful h

-- What a lane holds depends on its own events alone. A lane that makes none holds what it held, whatever others do.
abbrev pub OwnEventsDecide : Type 0
OwnEventsDecide = (h later : LockHistory) (lock : ℕ) (mode : LockMode) (lane : ℕ) → own lane later ≡ own lane h
    → holds later lock mode lane ≡ holds h lock mode lane

-- A lock that is free for either mode has no writer.
abbrev pub FreeIsNotHeld : Type 0
FreeIsNotHeld = (h : LockHistory) (lock : ℕ) (mode : LockMode) → IsFree h lock mode → (lane : ℕ)
    → holds h lock ReadWrite lane ≡ false

-- The empty history is legal.
abbrev pub EmptyIsLegal : Type 0
EmptyIsLegal = (lanes : ℕ) → IsLegal lanes []

-- If no lane has made an event, the history is empty. So nobody holds anything while all lanes are fresh.
abbrev pub FreshIsEmpty : Type 0
FreshIsEmpty = (lanes : ℕ) (h : LockHistory) → IsLegal lanes h → ((lane : ℕ) → lane < lanes → own lane h ≡ []) → h ≡ []

-- Only the lanes that there are hold locks.
abbrev pub OnlyLanesHold : Type 0
OnlyLanesHold = (lanes : ℕ) (h : LockHistory) → IsLegal lanes h → (lane : ℕ) → lanes ≤ lane
    → (lock : ℕ) (mode : LockMode) → holds h lock mode lane ≡ false

-- A beginning of a legal history is legal. So is each front of a lane and each point of a call.
abbrev pub BeginningsAreLegal : Type 0
BeginningsAreLegal = (lanes : ℕ) (f h : LockHistory) → IsPrefix f h → IsLegal lanes h → IsLegal lanes f

-- ---- calls

-- Two calls in a row are one call with the events of both.
abbrev pub CallsCompose : Type 0
CallsCompose = (first second third : Lane) (xs ys : List LockEvent) → LaneCalls first second xs
    → LaneCalls second third ys → LaneCalls first third (xs ++ ys)

-- A lane that was not called made a call without events.
abbrev pub NoCall : Type 0
NoCall = (lane : Lane) → LaneCalls lane lane []

-- ---- sets

-- Requests have at most one merged set, if no name stands twice. Locks promise that by `tell_proof`.
abbrev pub OneMergedSet : Type 0
OneMergedSet = (names : List (List ℕ)) (requests : List LockRequest) (set other : List (ℕ × LockMode))
    → AreDifferent names → IsMerged names requests set → IsMerged names requests other → set ≡ other
