-- The path of a node is the one that goes from it to the root.
use Rattle.std.proofs.Common.{◌≡◌, ◌<◌, ℕ, zero, suc, Bool, true, false, List, [], ◌∷◌, length, get_or, Some, None, refl, ap, sym, ◌∙◌, arith, inl, inr}
use Rattle.std.specs.List.{position, position_or_len}
use Rattle.std.proofs.lemmas.Bool.{cases_Bool}
use Rattle.ext_ids.specs.Ids.{is_parent}
use Rattle.ext_tree.specs.Trees.{Id, id_at, IsTree, IsParentOf, IsWalk, IsPathOf}
use Rattle.ext_tree.proofs.Children.{is_parent_Decides}
use Rattle.ext_tree.proofs.TreeFacts.{child_not_root, one_parent, parent_first}
use Rattle.ext_races.specs.MadeSteps.{parent_in, path_above, path_from, path_of}

-- ---- the only index that passes

module _ {X : Type 0} (p : X → Bool) (d : X) where
  at_only : (xs : List X) (i : ℕ) → i < length xs → p (get_or xs i d) ≡ true → ((k : ℕ) → k < i → p (get_or xs k d) ≡ false) → position_or_len p xs ≡ i
  at_only [] i less is before = absurd (omega (arith, less))
  at_only (x ∷ xs) zero less is before = rw is refl
  at_only (x ∷ xs) (suc i) less is before = rw (before 0 (omega arith)) (let rest = at_only xs i (omega (arith, less)) is (λ k h. before (suc k) (omega (arith, h))) in omega (arith, rest))

  at_none : (xs : List X) → ((k : ℕ) → k < length xs → p (get_or xs k d) ≡ false) → position_or_len p xs ≡ length xs
  at_none [] none = refl
  at_none (x ∷ xs) none = rw (none 0 (omega arith)) (let rest = at_none xs (λ k h. none (suc k) (omega (arith, h))) in omega (arith, rest))

  position_only : (xs : List X) (i : ℕ) → i < length xs → p (get_or xs i d) ≡ true → ((k : ℕ) → k < i → p (get_or xs k d) ≡ false) → position p xs ≡ Some i
  position_only xs i less is before = rw (at_only xs i less is before) (grind arith)

  position_none : (xs : List X) → ((k : ℕ) → k < length xs → p (get_or xs k d) ≡ false) → position p xs ≡ None
  position_none xs none = rw (at_none xs none) (grind arith)

-- ---- the path

module _ (ids : List Id) (tree : IsTree ids) where
  no_other : (j p k : ℕ) → j < length ids → k < length ids → IsParentOf ids p k → j < p → is_parent (id_at ids j) (id_at ids k) ≡ false
  no_other j p k j_within within is less = elim (cases_Bool (is_parent (id_at ids j) (id_at ids k))) [
    | inl is_one ↦ absurd (
        let other : IsParentOf ids j k = record { parent_within = j_within; child_within = within; ids_are = (is_parent_Decides (id_at ids j) (id_at ids k)).0 is_one } in
        let same = one_parent ids tree j p k other is in omega (arith, same, less))
    | inr is_none ↦ is_none
  ]

  parent_found : (p k : ℕ) → IsParentOf ids p k → parent_in ids k ≡ Some p
  parent_found p k is =
      let P : Id → Bool = λ id. is_parent id (id_at ids k) in
      let within = is.parent_within in
      position_only P [] ids p is.parent_within ((is_parent_Decides (id_at ids p) (id_at ids k)).1 is.ids_are) (λ j less. no_other j p k (omega (arith, less, within)) is.child_within is less)

  no_parent : (k : ℕ) → k < length ids → k ≡ 0 → parent_in ids k ≡ None
  no_parent k within root =
      let P : Id → Bool = λ id. is_parent id (id_at ids k) in
      position_none P [] ids (λ j less. elim (cases_Bool (is_parent (id_at ids j) (id_at ids k))) [
        | inl is_one ↦ absurd (
            let is : IsParentOf ids j k = record { parent_within = less; child_within = within; ids_are = (is_parent_Decides (id_at ids j) (id_at ids k)).0 is_one } in
            let some = child_not_root ids tree j k is in omega (arith, some, root))
        | inr is_none ↦ is_none
      ])

  walk_is : (n k : ℕ) (walk : List ℕ) → k < n → k < length ids → IsWalk ids k walk → k ∷ walk ≡ path_from ids n k
  unfolding path_from
  walk_is zero k walk less within walks = absurd (omega (arith, less))
  walk_is (suc n) k [] less within root = ap (λ o. k ∷ path_above (path_from ids n) o) (sym (no_parent k within root))
  walk_is (suc n) k (p ∷ rest) less within (is, walks) =
      let first = parent_first ids tree p k is in
      ap (λ w. k ∷ w) (walk_is n p rest (omega (arith, first, less)) is.parent_within walks) ∙ ap (λ o. k ∷ path_above (path_from ids n) o) (sym (parent_found p k is))

  pub path_is : (k : ℕ) (path : List ℕ) → k < length ids → IsPathOf ids k path → path ≡ path_of ids k
  path_is k [] within h = absurd h
  path_is k (first ∷ walk) within (same, walks) = ap (λ f. f ∷ walk) same ∙ walk_is (length ids) k walk within within walks
