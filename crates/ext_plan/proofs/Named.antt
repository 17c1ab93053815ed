-- The key that a label names is among the different keys, and the locks that a node names are among the names of locks.
use Rattle.std.proofs.Common.{◌≡◌, ℕ, zero, suc, Bool, true, false, List, [], ◌∷◌, ◌++◌, map, All, Contains, subst, sym, ap, refl}
use Rattle.std.specs.Prelude.{fold, if◌then◌else◌, slice_get}
use Rattle.std.proofs.lemmas.List.Elements.{All-cons, All-nil, Contains-append_left, Contains-push}
use Rattle.std.proofs.lemmas.Slice.Eq.{bytes_eq-Decides}
use Rattle.std.specs.Str.{bytes_eq}
use Rattle.indexmap.proofs.CallerLemmas.{Contains-list_any}
use Rattle.ext_tree.specs.Keys.{KeyValue}
use Rattle.ext_plan.specs.StoreKeys.{is_there, keys_with, named_key, with_key}
use Rattle.ext_plan.specs.Labels.{is_label}
use Rattle.ext_plan.specs.LockNames.{lock_name, lock_names, named_locks, with_name}
use Rattle.ext_plan.specs.PlanCalls.{locks_in}
use Rattle.ext_plan.specs.Plans.{KeyText, NodeText}
use Rattle.ext_plan.proofs.KeyLists.{there_kept, there_with}
use Rattle.ext_plan.proofs.Lists.{All-map-back, All-parts}

-- ---- keys

there : (before : List KeyValue) (keys : List KeyText) → All (λ key. is_there (keys_with before keys) (named_key key) ≡ true) keys
there before [] = All-nil _
there before (key ∷ more) =
    let now = with_key before (named_key key) in
    All-cons (λ k. is_there (keys_with before (key ∷ more)) (named_key k) ≡ true) key more (there_kept now more (named_key key) (there_with before (named_key key))) (there now more)

-- ---- locks

named : (names : List (List ℕ)) (name : List ℕ) (r : Bool) → is_label names name ≡ r → with_name names name ≡ (if r then names else names ++ name ∷ [])
named names name r e = ap (λ b. if b then names else names ++ name ∷ []) e

name_is_there : (names : List (List ℕ)) (name : List ℕ) → Contains (with_name names name) name
name_is_there names name = by _ refl
  where
    by : (r : Bool) → is_label names name ≡ r → Contains (with_name names name) name
    by true e = subst (λ ns. Contains ns name) (sym (named names name true e)) (Contains-list_any bytes_eq (λ a b. (bytes_eq-Decides a b).0) names name e)
    by false e = subst (λ ns. Contains ns name) (sym (named names name false e)) (Contains-push names name)

name_stays : (names : List (List ℕ)) (name other : List ℕ) → Contains names other → Contains (with_name names name) other
name_stays names name other h = by _ refl
  where
    by : (r : Bool) → is_label names name ≡ r → Contains (with_name names name) other
    by true e = subst (λ ns. Contains ns other) (sym (named names name true e)) h
    by false e = subst (λ ns. Contains ns other) (sym (named names name false e)) (Contains-append_left names (name ∷ []) other h)

names_stay : (names more : List (List ℕ)) (name : List ℕ) → Contains names name → Contains (fold with_name names more) name
names_stay names [] name h = h
names_stay names (other ∷ more) name h = names_stay (with_name names other) more name (name_stays names other name h)

names_are_there : (names more : List (List ℕ)) → All (Contains (fold with_name names more)) more
names_are_there names [] = All-nil _
names_are_there names (name ∷ more) =
    let now = with_name names name in
    All-cons (Contains (fold with_name names (name ∷ more))) name more (names_stay now more name (name_is_there names name)) (names_are_there now more)

of_node : (P : List ℕ → Type 0) (nodes : List NodeText) (at : ℕ) → All P (named_locks nodes) → All (λ lock. P (lock_name lock)) (locks_in (slice_get nodes at))
of_node P [] at all = All-nil _
of_node P (node ∷ nodes) zero all = All-map-back P lock_name node.locks (All-parts P (map lock_name node.locks) (named_locks nodes) all).0
of_node P (node ∷ nodes) (suc at) all = of_node P nodes at (All-parts P (map lock_name node.locks) (named_locks nodes) all).1

pub locks_are_there : (nodes : List NodeText) (at : ℕ) → All (λ lock. Contains (lock_names nodes) (lock_name lock)) (locks_in (slice_get nodes at))
locks_are_there nodes at = of_node (Contains (lock_names nodes)) nodes at (names_are_there [] (named_locks nodes))
