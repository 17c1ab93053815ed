-- A store with the tree of a table, and locks with its names, are those over which the suite of the table may be run.
use Rattle.std.proofs.Common.{◌≡◌, ◌<◌, ℕ, zero, suc, Bool, true, false, List, [], ◌∷◌, map, length, All, get_or, subst, sym, refl, arith, true≢false}
use Rattle.std.specs.Prelude.{◌&&◌, ◌==◌, nat_lt, IsPermutation, slice_get}
use Rattle.std.specs.Borrow.{Bor}
use Rattle.std.proofs.lemmas.Bool.{eqb-true}
use Rattle.std.proofs.lemmas.List.{length-map, nil_from_length}
use Rattle.std.proofs.lemmas.List.Elements.{All-map, All-weaker, All-nil, Contains-get_or}
use Rattle.std.proofs.lemmas.List.Sorted.{Contains-permutation}
use Rattle.ext_engine.specs.Leaves.{is_leaf}
use Rattle.ext_engine.specs.TreeRun.{IsRunnable, IsNamedLock}
use Rattle.ext_locks.specs.Names.{texts_of}
use Rattle.ext_locks.specs.Opening.{LocksView}
use Rattle.ext_store.specs.Stores.{StoreView}
use Rattle.ext_tree.specs.Trees.{Id, children_of}
use Rattle.ext_table.specs.Tables.{AreKnown, asked, locks_in, table_view, test_in}
use Rattle.ext_table.specs.declared.row.Row.{Row}
use Rattle.ext_table.specs.declared.row.NamedLock.{NamedLock}

known_at : {T : Type 0} (count : ℕ) (facts : List (Row T)) (node : ℕ) → AreKnown count facts → All (λ (lock : NamedLock). lock.name < count) (locks_in (slice_get facts node))
known_at count [] node known = All-nil (λ (lock : NamedLock). lock.name < count)
known_at count (f ∷ facts) zero known = known 0 f (omega arith)
known_at count (f ∷ facts) (suc node) known = known_at count facts node (λ k d lt. known (suc k) d (omega (arith, lt)))

named : (texts : List (List ℕ)) (locks : LocksView) → IsPermutation texts locks.names → (lock : NamedLock) → lock.name < length texts → IsNamedLock locks.names (asked texts lock).name
named texts locks same lock lt = Contains-permutation texts locks.names (get_or texts lock.name []) same (Contains-get_or texts lock.name [] lt)

and_left : (a b : Bool) → (a && b) ≡ true → a ≡ true
and_left true b h = refl
and_left false b h = h

and_right : (a b : Bool) → (a && b) ≡ true → b ≡ true
and_right true b h = h
and_right false b h = absurd (true≢false (sym h))

no_length : (xs : List ℕ) → (length xs == 0) ≡ true → xs ≡ []
no_length xs h = nil_from_length xs (eqb-true (length xs) 0 h)

leaf_alone : (ids : List Id) (node : ℕ) (said : Bool) → (is_leaf ids node && said) ≡ true → children_of ids node ≡ []
leaf_alone ids node said is =
    let leaf = and_left (is_leaf ids node) said is in
    no_length (children_of ids node) (and_right (nat_lt node (length ids)) (length (children_of ids node) == 0) leaf)

module _ {T : Type 0} (store : StoreView) (locks : LocksView) (facts : List (Row T)) (names : List (Bor (List ℕ))) (ids : List Id) where
  names_there : AreKnown (length names) facts → IsPermutation (texts_of names) locks.names → (node : ℕ) → All (λ a. IsNamedLock locks.names a.name) (map (asked (texts_of names)) (locks_in (slice_get facts node)))
  names_there known same node =
      let count = length-map names (λ (t : Bor (List ℕ)). t.now) in
      All-map (λ a. IsNamedLock locks.names a.name) (asked (texts_of names)) (locks_in (slice_get facts node))
      (All-weaker _ _ (λ (lock : NamedLock) h. named (texts_of names) locks same lock (subst (λ n. lock.name < n) (sym count) h)) (locks_in (slice_get facts node)) (known_at (length names) facts node known))

  pub table_runnable : ids ≡ store.tree → AreKnown (length names) facts → IsPermutation (texts_of names) locks.names → IsRunnable store locks (table_view facts (texts_of names) ids)
  table_runnable tree known same = record {
    names = λ node within. names_there known same node;
    below = λ node within is. subst (λ t. children_of t node ≡ []) tree (leaf_alone ids node (test_in (slice_get facts node)) is);
  }
