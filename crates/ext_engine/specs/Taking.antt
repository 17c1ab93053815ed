-- How a test's locks are taken and given back (JUnit 5 User Guide, "Synchronization"). That a lane takes them and gives
-- them back is not from JUnit.
use Rattle.std.specs.Prelude.{◌≡◌, ℕ, Option, Some, None, List, ⊤, Contains}
use Rattle.ext_locks.specs.declared.event.LockMode.{LockMode}
use Rattle.ext_locks.specs.Opening.{LocksView}
use Rattle.ext_locks.specs.Views.{Lane, LaneCalls}
use Rattle.ext_locks.specs.Sets.{HeldView, HoldsNothing, HoldsExactly, IsHeldBy, takes_of, gives_of}

-- The locks have the name that is asked for. The global lock has none.
abbrev pub IsNamedLock : List (List ℕ) → Option (List ℕ) → Type 0
IsNamedLock names None = ⊤
IsNamedLock names (Some name) = Contains names name

-- A lane of these locks that holds nothing.
pub record IsIdle (locks : LocksView) (lane : Lane) : Type 0 where
  pub of_table : lane.table ≡ locks.table
  pub nothing : HoldsNothing lane

-- The set is taken. The lane then holds it and nothing else.
pub record TakesSet (locks : LocksView) (set : List (ℕ × LockMode)) (before : Lane) (held : HeldView) (after : Lane)
    : Type 0 where
  pub events : LaneCalls before after (takes_of before.view.number set)
  pub holds : HoldsExactly after set
  pub held_set : held.set ≡ set
  pub names : held.names ≡ locks.names
  pub is_held : IsHeldBy held after

-- The lane that took the set, and made no event since, gives it back.
pub record GivesBack (held : HeldView) (before after : Lane) : Type 0 where
  pub was_held : IsHeldBy held before
  pub nothing : HoldsNothing after
  pub events : LaneCalls before after (gives_of before.view.number held.set)
