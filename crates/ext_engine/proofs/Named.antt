-- Locks that have the names that a suite's nodes ask for: what a caller of `leaf_laws` shows.
use Rattle.std.specs.Prelude.{ℕ, Some, List, [], ◌∷◌, All, IsPermutation}
use Rattle.std.proofs.lemmas.List.Elements.{All-cons, All-nil, Contains-push}
use Rattle.std.proofs.lemmas.List.Sorted.{Contains-permutation}
use Rattle.ext_locks.specs.declared.event.LockMode.{LockMode}
use Rattle.ext_locks.specs.Opening.{LocksView}
use Rattle.ext_engine.specs.Suites.{Asked}
use Rattle.ext_engine.specs.TreeRun.{IsNamedLock}

-- locks that were opened with one name have it
pub one_name : (locks : LocksView) (name : List ℕ) (mode : LockMode) → IsPermutation (name ∷ []) locks.names → All (λ (asked : Asked). IsNamedLock locks.names asked.name) (record { name = Some name; mode = mode } ∷ [])
one_name locks name mode same =
    let P : Asked → Type 0 = λ asked. IsNamedLock locks.names asked.name in
    All-cons P (record { name = Some name; mode = mode }) [] (Contains-permutation (name ∷ []) locks.names name same (Contains-push [] name)) (All-nil P)
