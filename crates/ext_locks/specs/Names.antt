-- Names of locks, the lock that a resource names, and the set of locks that requests ask for. As in JUnit, the stronger
-- mode wins if one resource is asked for in both (User Guide, "Synchronization"; Javadoc `ResourceLock`). The number of
-- the global lock and the order of names by their bytes are not from JUnit.
use Rattle.std.specs.Prelude.{ℕ, ◌≡◌, ◌≢◌, ◌-◌, ◌<◌, Bool, true, false, List, map, take, length, Some, All, Any, AllPairs, slice_get}
use Rattle.std.specs.List.Sorted.{IsStrictlyIncreasing}
use Rattle.std.specs.List.{HoldsAt}
use Rattle.std.specs.Borrow.{Bor}
use Rattle.ext_locks.specs.declared.event.LockMode.{LockMode}
use Rattle.ext_locks.specs.declared.event.LockMode.TheVariants.{Read, ReadWrite}
use Rattle.ext_locks.specs.declared.fault.LockFault.{LockFault}
use Rattle.ext_locks.specs.declared.fault.LockFault.TheVariants.{BadLimit, TooMany, Twice, UnknownResource, Memory}
use Rattle.ext_locks.specs.declared.request.Resource.{Resource}
use Rattle.ext_locks.specs.declared.request.Resource.TheVariants.{Global, Named}
use Rattle.ext_locks.specs.declared.request.LockRequest.{LockRequest}
use Rattle.ext_locks.specs.Sets.{wants}

abbrev pub texts_of : List (Bor (List ℕ)) → List (List ℕ)
texts_of texts = map (λ t. t.now) texts

-- No name stands twice.
abbrev pub AreDifferent : List (List ℕ) → Type 0
AreDifferent names = AllPairs (λ a b. a ≢ b) names

-- The name with this index also stands before it, and no earlier name stands twice.
pub record IsFirstTwice (names : List (List ℕ)) (at : ℕ) : Type 0 where
  pub within : at < length names
  pub earlier : ℕ
  pub before : earlier < at
  pub same : slice_get names earlier ≡ slice_get names at
  pub first : AreDifferent (take at names)

-- ---- numbers of locks

-- The lock with this number has this name. Names have the numbers from 1 on.
pub record IsNamed (names : List (List ℕ)) (lock : ℕ) (name : List ℕ) : Type 0 where
  pub positive : 0 < lock
  pub name_at : slice_get names (lock - 1) ≡ Some name

-- The resource names the lock with this number. The global one is 0.
abbrev pub IsNumberOf : List (List ℕ) → Resource → ℕ → Type 0
IsNumberOf names Global lock = lock ≡ 0
IsNumberOf names (Named name) lock = IsNamed names lock name.now

-- There is a lock for this resource.
abbrev pub IsKnown : List (List ℕ) → Resource → Type 0
IsKnown names resource = (lock : ℕ) × IsNumberOf names resource lock

-- ---- what requests ask for

-- The first mode is at least as strong as the second.
abbrev pub is_as_strong : LockMode → LockMode → Bool
is_as_strong Read Read = true
is_as_strong Read ReadWrite = false
is_as_strong ReadWrite Read = true
is_as_strong ReadWrite ReadWrite = true

-- The request asks for the lock with this number in this mode.
pub record AsksFor (names : List (List ℕ)) (lock : ℕ) (mode : LockMode) (request : LockRequest) : Type 0 where
  pub number : IsNumberOf names request.resource lock
  pub mode_is : request.mode ≡ mode

-- The set has the request's lock in a mode at least as strong.
pub record IsGranted (names : List (List ℕ)) (set : List (ℕ × LockMode)) (request : LockRequest) : Type 0 where
  pub lock : ℕ
  pub mode : LockMode
  pub number : IsNumberOf names request.resource lock
  pub wanted : wants set lock mode ≡ true
  pub strong : is_as_strong mode request.mode ≡ true

-- The set has exactly the locks that are asked for, each once and in the strongest mode requested, in the order of
-- their numbers: the global one first, then the names by their bytes.
pub record IsMerged (names : List (List ℕ)) (requests : List LockRequest) (set : List (ℕ × LockMode)) : Type 0 where
  pub granted : All (IsGranted names set) requests
  pub asked : (lock : ℕ) (mode : LockMode) → wants set lock mode ≡ true → Any (AsksFor names lock mode) requests
  pub ordered : IsStrictlyIncreasing (map (λ lock. lock.0) set)

-- The resource of the request with this index is unknown, and those before it are known.
pub record IsFirstUnknown (names : List (List ℕ)) (requests : List LockRequest) (at : ℕ) : Type 0 where
  pub within : at < length requests
  pub unknown : HoldsAt (λ r. ¬ (IsKnown names r.resource)) requests at
  pub first : All (λ r. IsKnown names r.resource) (take at requests)

-- Requests are refused only for an unknown resource.
abbrev pub IsNotMerged : List (List ℕ) → List LockRequest → LockFault → Type 0
IsNotMerged names requests BadLimit = ⊥
IsNotMerged names requests TooMany = ⊥
IsNotMerged names requests (Twice at) = ⊥
IsNotMerged names requests (UnknownResource at) = IsFirstUnknown names requests at
IsNotMerged names requests Memory = ⊥
