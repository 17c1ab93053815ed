-- Paths in a tree of contexts: ids on them begin alike, and behind each child comes its parent.
use Rattle.std.proofs.Common.{◌≡◌, ◌<◌, ◌≤◌, ℕ, zero, suc, List, [], ◌∷◌, ◌++◌, length, get_or, Contains, Bool, false, None, refl, ap, sym, subst, ◌∙◌, arith, inl, inr, append_assoc, append-nil}
use Rattle.std.proofs.lemmas.Bool.{cases_lt}
use Rattle.std.proofs.lemmas.List.{get_or_past}
use Rattle.std.proofs.lemmas.List.Sums.{position_or_len_is}
use Rattle.std.specs.List.{position_or_len}
use Rattle.ext_ids.specs.Ids.{is_parent}
use Rattle.ext_ids.proofs.Pairs.{is_parent-none}
use Rattle.ext_tree.specs.Trees.{Id, id_at, IsTree, IsParentOf, IsWalk, IsPathOf}
use Rattle.ext_tree.proofs.TreeFacts.{child_not_root, longer, one_context, one_parent}
use Rattle.ext_tree.proofs.Walks as walks
use Rattle.ext_plan.specs.ReadPlans.{IsAtOrBelow}
use Rattle.ext_races.specs.Beside.{PassesBy}
use Rattle.ext_races.specs.MadeSteps.{parent_in, path_above, path_from, path_of}
use Rattle.ext_races.proofs.Lists.{contains_cases, contains_first, contains_later, contains_nothing}
use Rattle.ext_races.proofs.Paths.{path_is}

-- ---- ids that begin alike

front_is : (a b r s : Id) → a ++ r ≡ b ++ s → length a ≡ length b → a ≡ b
front_is [] [] r s e long = refl
front_is [] (y ∷ b) r s e long = absurd (omega (arith, long))
front_is (x ∷ a) [] r s e long = absurd (omega (arith, long))
front_is (x ∷ a) (y ∷ b) r s e long = let rest : a ≡ b = front_is a b r s (cc e) (omega (arith, long)) in cc (e, rest)

same_front : (a b c : Id) → IsAtOrBelow a c → IsAtOrBelow b c → length a ≡ length b → a ≡ b
same_front a b c one other long = front_is a b one.0 other.0 (sym one.1 ∙ other.1) long

itself : (a : Id) → IsAtOrBelow a a
itself a = ([], sym (append-nil a))

pub below_below : (a b c : Id) → IsAtOrBelow a b → IsAtOrBelow b c → IsAtOrBelow a c
below_below a b c one other = (one.0 ++ other.0, other.1 ∙ ap (λ id. id ++ other.0) one.1 ∙ append_assoc a one.0 other.0)

-- ---- a container behind its child

pub passed : (path : List ℕ) (child container : ℕ) → PassesBy path child container → Contains path container
passed [] child container by = absurd by
passed (first ∷ []) child container by = absurd by
passed (first ∷ next ∷ above) child container (inl (one, two)) = contains_later first container (next ∷ above) (subst (λ n. Contains (next ∷ above) n) two (contains_first next above))
passed (first ∷ next ∷ above) child container (inr later) = contains_later first container (next ∷ above) (passed (next ∷ above) child container later)

module _ (ids : List Id) (tree : IsTree ids) where
  -- ---- the path of a context

  walk_from : (n k : ℕ) → k < n → k < length ids → (walk : List ℕ) × IsWalk ids k walk
  walk_from zero k less within = absurd (omega (arith, less))
  walk_from (suc n) zero less within = ([], refl)
  walk_from (suc n) (suc k) less within =
      let known = (tree.later.each (suc k) (omega arith) within).parent in
      let first = known.1 in
      let is : IsParentOf ids known.0 (suc k) = record { parent_within = omega (arith, first, within); child_within = within; ids_are = known.2 } in
      let rest = walk_from n known.0 (omega (arith, first, less)) is.parent_within in
      (known.0 ∷ rest.0, (is, rest.1))

  pub path_there : (k : ℕ) → k < length ids → IsPathOf ids k (path_of ids k)
  path_there k within =
      let walk = walk_from (suc k) k (omega arith) within in
      let path : IsPathOf ids k (k ∷ walk.0) = (refl, walk.1) in
      subst (IsPathOf ids k) (path_is ids tree k (k ∷ walk.0) within path) path

  pub has_context : (k : ℕ) (path : List ℕ) → IsPathOf ids k path → k < length ids
  has_context k [] h = absurd h
  has_context k (first ∷ []) h = let some = tree.first.some in let root = h.1 in omega (arith, some, root)
  has_context k (first ∷ p ∷ rest) h = h.1.0.child_within

  pub path_starts : (k : ℕ) (path : List ℕ) → IsPathOf ids k path → Contains path k
  path_starts k [] h = absurd h
  path_starts k (first ∷ walk) (same, walks) = subst (λ j. Contains (first ∷ walk) j) same (contains_first first walk)

  pub path_holds : (k x : ℕ) (path : List ℕ) → IsPathOf ids k path → Contains path x → x < length ids
  path_holds k x path is there =
      let below = walks.path_within ids tree k path (has_context k path is) is there.0 x there.1 in
      let same = there.2 in
      omega (arith, below, same)

  -- ---- what lies on a path

  walk_up : (k : ℕ) (walk : List ℕ) (x : ℕ) → IsWalk ids k walk → Contains walk x → IsAtOrBelow (id_at ids x) (id_at ids k)
  walk_up k [] x root there = contains_nothing x there
  walk_up k (p ∷ rest) x (is, walks) there =
      let step : IsAtOrBelow (id_at ids p) (id_at ids k) = (is.ids_are.0 ∷ [], is.ids_are.1) in
      elim (contains_cases p x rest there) [
        | inl same ↦ subst (λ j. IsAtOrBelow (id_at ids j) (id_at ids k)) same step
        | inr later ↦ below_below (id_at ids x) (id_at ids p) (id_at ids k) (walk_up p rest x walks later) step
      ]

  pub path_up : (k x : ℕ) (path : List ℕ) → IsPathOf ids k path → Contains path x → IsAtOrBelow (id_at ids x) (id_at ids k)
  path_up k x [] h there = absurd h
  path_up k x (first ∷ walk) (same, walks) there = elim (contains_cases first x walk there) [
    | inl here ↦ subst (λ j. IsAtOrBelow (id_at ids j) (id_at ids k)) (sym same ∙ here) (itself (id_at ids k))
    | inr later ↦ walk_up k walk x walks later
  ]

  passes : (k : ℕ) (walk : List ℕ) (parent child : ℕ) → IsWalk ids k walk → IsParentOf ids parent child → Contains (k ∷ walk) child → PassesBy (k ∷ walk) child parent
  passes k [] parent child root is there = elim (contains_cases k child [] there) [
    | inl same ↦ absurd (let some = child_not_root ids tree parent child is in omega (arith, some, same, root))
    | inr none ↦ contains_nothing child none
  ]
  passes k (p ∷ rest) parent child (up, walks) is there = elim (contains_cases k child (p ∷ rest) there) [
    | inl same ↦ inl (same, one_parent ids tree p parent child (subst (IsParentOf ids p) same up) is)
    | inr later ↦ inr (passes p rest parent child walks is later)
  ]

  pub path_passes : (k : ℕ) (path : List ℕ) (parent child : ℕ) → IsPathOf ids k path → IsParentOf ids parent child → Contains path child → PassesBy path child parent
  path_passes k [] parent child h is there = absurd h
  path_passes k (first ∷ walk) parent child (same, walks) is there = passes first walk parent child (subst (λ j. IsWalk ids j walk) (sym same) walks) is there

  -- two children of a parent that are above one id are one
  pub one_child : (parent child other : ℕ) (id : Id) → IsParentOf ids parent child → IsParentOf ids parent other → IsAtOrBelow (id_at ids child) id → IsAtOrBelow (id_at ids other) id → child ≡ other
  one_child parent child other id is is' above above' =
      let long = longer (id_at ids parent) (id_at ids child) is.ids_are in
      let long' = longer (id_at ids parent) (id_at ids other) is'.ids_are in
      one_context ids tree child other is.child_within is'.child_within (same_front (id_at ids child) (id_at ids other) id above above' (omega (arith, long, long')))

  -- ---- no context of the tree lies above a number that has no context

  no_parent : (k : ℕ) → length ids ≤ k → parent_in ids k ≡ None
  no_parent k past =
      let P : Id → Bool = λ id. is_parent id (id_at ids k) in
      let none : (j : ℕ) → P (get_or ids j []) ≡ false = λ j. ap (is_parent (get_or ids j [])) (get_or_past ids k [] past) ∙ is_parent-none (get_or ids j []) in
      let last : position_or_len P ids ≡ length ids = position_or_len_is P ids (length ids) [] (omega arith) (λ j less. none j) (λ less. absurd (omega (arith, less))) in
      rw last (grind arith)

  alone : (n k x : ℕ) → parent_in ids k ≡ None → Contains (path_from ids n k) x → k ≡ x
  unfolding path_from
  alone zero k x none there = contains_nothing x there
  alone (suc n) k x none there = elim (contains_cases k x [] (subst (λ o. Contains (k ∷ path_above (path_from ids n) o) x) none there)) [ inl same ↦ same | inr later ↦ contains_nothing x later ]

  pub holder_within : (k x : ℕ) → x < length ids → Contains (path_of ids k) x → k < length ids
  holder_within k x within there = elim (cases_lt k (length ids)) [
    | inl less ↦ less
    | inr past ↦ let same = alone (length ids) k x (no_parent k past) there in omega (arith, same, within)
  ]
