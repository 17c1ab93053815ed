-- What opened locks are, and when locks are not opened. There are 1 to 32 lanes, as the caller limits them, 1 to 64
-- tries, and at most 63 names beside the global lock.
use Rattle.std.specs.Prelude.{ℕ, zero, suc, ◌≡◌, ◌<◌, ◌≤◌, List, [], ◌∷◌, ◌++◌, length, IsPermutation}
use Rattle.std.specs.List.Sorted.{IsSorted}
use Rattle.std.specs.Ordering.{nat_cmp}
use Rattle.std.specs.Cmp.Lexicographic.{slice_cmp}
use Rattle.atomic_table.specs.Seated.{TableId}
use Rattle.ext_locks.specs.declared.fault.LockFault.{LockFault}
use Rattle.ext_locks.specs.declared.fault.LockFault.TheVariants.{BadLimit, TooMany, Twice, UnknownResource, Memory}
use Rattle.ext_locks.specs.Views.{Lane}
use Rattle.ext_locks.specs.Names.{AreDifferent, IsFirstTwice}

-- Locks as contracts see them: their table of words, the names in the order of their numbers, how many lanes there are,
-- and how many exchanges a call makes at most for one lock.
pub record LocksView : Type 0 where
  pub table : TableId
  pub names : List (List ℕ)
  pub lanes : ℕ
  pub tries : ℕ

-- A lane, one of `lanes`, that has seen nothing.
abbrev pub fresh_lane : TableId → ℕ → ℕ → Lane
fresh_lane table lanes number = record { table = table; lanes = lanes; view = record { number = number; fronts = [] } }

-- The first lanes of `lanes`, numbered from 0.
abbrev pub fresh_lanes : TableId → ℕ → ℕ → List Lane
fresh_lanes table lanes zero = []
fresh_lanes table lanes (suc n) = fresh_lanes table lanes n ++ fresh_lane table lanes n ∷ []

abbrev pub AreLimits : ℕ → ℕ → ℕ → Type 0
AreLimits most lanes tries = (1 ≤ lanes) × (lanes ≤ most) × (1 ≤ tries) × (tries ≤ 64)

-- Why locks with these names, at most this many lanes, and these limits are not opened: the first reason that applies.
abbrev pub IsNotOpened : ℕ → List (List ℕ) → ℕ → ℕ → LockFault → Type 0
IsNotOpened most names lanes tries BadLimit = ¬ (AreLimits most lanes tries)
IsNotOpened most names lanes tries TooMany = AreLimits most lanes tries × (63 < length names)
IsNotOpened most names lanes tries (Twice at) = AreLimits most lanes tries × (length names ≤ 63) × IsFirstTwice names at
IsNotOpened most names lanes tries (UnknownResource at) = ⊥
IsNotOpened most names lanes tries Memory = AreLimits most lanes tries × (length names ≤ 63) × AreDifferent names

-- What is true of all locks: their limits are in range, and their names are at most 63, different, and ordered by their
-- bytes.
pub record AreLocks (locks : LocksView) : Type 0 where
  pub limits : AreLimits 32 locks.lanes locks.tries
  pub few : length locks.names ≤ 63
  pub different : AreDifferent locks.names
  pub sorted : IsSorted (slice_cmp nat_cmp) locks.names

-- The names are those handed in, ordered by their bytes, and all lanes are fresh. So the history is empty and nobody
-- holds anything (`fresh` of `lock_laws`).
pub record IsOpened (names : List (List ℕ)) (lanes tries : ℕ) (locks : LocksView) (made : List Lane) : Type 0 where
  pub limits : AreLimits 32 lanes tries
  pub few : length names ≤ 63
  pub different : AreDifferent names
  pub same_names : IsPermutation names locks.names
  pub sorted : IsSorted (slice_cmp nat_cmp) locks.names
  pub same_lanes : locks.lanes ≡ lanes
  pub same_tries : locks.tries ≡ tries
  pub lanes_made : made ≡ fresh_lanes locks.table lanes lanes
