-- Nodes that may run beside one another: each is at or below one of two different concurrent children of a container.
use Rattle.std.proofs.Common.{◌≡◌, ◌≢◌, ◌<◌, ◌⊎◌, ℕ, true, List, [], ◌∷◌, length, Contains, drop, refl, sym, subst, ◌∙◌, inl, inr}
use Rattle.ext_tree.specs.Trees.{Id, IsParentOf, IsPathOf, IsWalk, id_at}
use Rattle.ext_tree.proofs.TreeFacts.{one_parent}
use Rattle.ext_tree.proofs.Walks.{one_path, one_walk}
use Rattle.ext_plan.specs.Plans.{PlanText}
use Rattle.ext_plan.specs.PlanCalls.{concurrent_of}
use Rattle.ext_plan.specs.ReadPlans.{IsReadPlan, ids_of_nodes}
use Rattle.ext_races.specs.Beside.{IsBeside, PassesBy}
use Rattle.ext_races.specs.MadeSteps.{plan_path}
use Rattle.ext_races.proofs.Lists.{contains_cases, contains_first, contains_later, contains_nothing}
use Rattle.ext_one_report.specs.Within.{is_within}
use Rattle.ext_one_report.proofs.CoveredPaths.{has_context, one_child, path_passes, path_there}
use Rattle.ext_one_report.proofs.CoveredPlans.{path_of_context, within_found, within_told, within_up}

-- the one is at or below a concurrent child of a container, and the other at or below another
pub record AreBelow (plan : PlanText) (first second : ℕ) : Type 0 where
  pub container : ℕ
  pub child : ℕ
  pub other : ℕ
  pub child_is : IsParentOf (ids_of_nodes plan.nodes) container child
  pub other_is : IsParentOf (ids_of_nodes plan.nodes) container other
  pub below : is_within plan child first ≡ true
  pub other_below : is_within plan other second ≡ true
  pub differ : child ≢ other
  pub concurrent : concurrent_of plan child ≡ true
  pub other_concurrent : concurrent_of plan other ≡ true

module _ (plan : PlanText) (read : IsReadPlan plan) where
  abbrev ids : List Id
  ids = ids_of_nodes plan.nodes

  -- ---- paths that go on from a context of another

  goes_on : (k x y : ℕ) (walk above : List ℕ) → IsWalk ids k walk → k ≡ x → IsWalk ids x above → Contains (x ∷ above) y → Contains (k ∷ walk) y
  goes_on k x y walk above walks same above_walks there =
      let one : above ≡ walk = one_walk ids read.runnable.tree k above walk (subst (λ n. IsWalk ids n above) (sym same) above_walks) walks in
      subst (λ n. Contains (n ∷ walk) y) (sym same) (subst (λ w. Contains (x ∷ w) y) one there)

  walk_through : (k x y : ℕ) (walk above : List ℕ) → IsWalk ids k walk → Contains (k ∷ walk) x → IsWalk ids x above → Contains (x ∷ above) y → Contains (k ∷ walk) y
  walk_through k x y [] above walks here above_walks there = elim (contains_cases k x [] here) [
    | inl same ↦ goes_on k x y [] above walks same above_walks there
    | inr none ↦ contains_nothing x none
  ]
  walk_through k x y (p ∷ rest) above (is, walks) here above_walks there = elim (contains_cases k x (p ∷ rest) here) [
    | inl same ↦ goes_on k x y (p ∷ rest) above (is, walks) same above_walks there
    | inr later ↦ contains_later k y (p ∷ rest) (walk_through p x y rest above walks later above_walks there)
  ]

  path_through : (k x y : ℕ) (path above : List ℕ) → IsPathOf ids k path → Contains path x → IsPathOf ids x above → Contains above y → Contains path y
  path_through k x y [] above is here above_is there = absurd is
  path_through k x y (first ∷ walk) [] is here above_is there = absurd above_is
  path_through k x y (first ∷ walk) (next ∷ above) (same, walks) here (next_same, above_walks) there =
      subst (λ n. Contains (n ∷ walk) y) (sym same)
      (walk_through k x y walk above walks (subst (λ n. Contains (n ∷ walk) x) same here) above_walks (subst (λ n. Contains (n ∷ above) y) next_same there))

  -- what is at or below a node that is at or below another is at or below that
  pub within_through : (node next context : ℕ) → node < length ids → is_within plan node next ≡ true → is_within plan next context ≡ true → is_within plan node context ≡ true
  within_through node next context less one two =
      let on = within_found plan node next one in
      let path = path_of_context plan read node next less on in
      let on' = within_found plan next context two in
      let path' = path_of_context plan read next context (has_context ids read.runnable.tree next (plan_path plan next) path) on' in
      within_told plan node context (path_through context next node (plan_path plan context) (plan_path plan next) path' on' path on)

  -- ---- what is above on a path

  whole : (k : ℕ) (walk : List ℕ) → IsWalk ids k walk → k ∷ walk ≡ plan_path plan k
  whole k walk walks = one_path ids read.runnable.tree k (k ∷ walk) (plan_path plan k) (refl, walks) (path_there ids read.runnable.tree k (has_context ids read.runnable.tree k (k ∷ walk) (refl, walks)))

  walk_from : (parent child : ℕ) (path : List ℕ) → IsPathOf ids parent path → IsParentOf ids parent child → IsWalk ids child path
  walk_from parent child [] is up = absurd is
  walk_from parent child (first ∷ walk) (same, walks) up = (subst (λ n. IsParentOf ids n child) (sym same) up, subst (λ n. IsWalk ids n walk) (sym same) walks)

  -- above a child is the path of its parent
  pub child_path : (parent child : ℕ) → IsParentOf ids parent child → child ∷ plan_path plan parent ≡ plan_path plan child
  child_path parent child up = whole child (plan_path plan parent) (walk_from parent child (plan_path plan parent) (path_there ids read.runnable.tree parent up.parent_within) up)

  above_first : (k x a : ℕ) (walk : List ℕ) → IsWalk ids k walk → k ≡ x → Contains (drop 1 (plan_path plan x)) a → Contains walk a
  above_first k x a walk walks same there = subst (λ p. Contains (drop 1 p) a) (sym (whole k walk walks)) (subst (λ n. Contains (drop 1 (plan_path plan n)) a) (sym same) there)

  -- what is above a context of a path is above the path's first
  above_walk : (k x a : ℕ) (walk : List ℕ) → IsWalk ids k walk → Contains (k ∷ walk) x → Contains (drop 1 (plan_path plan x)) a → Contains walk a
  above_walk k x a [] walks here there = elim (contains_cases k x [] here) [
    | inl same ↦ above_first k x a [] walks same there
    | inr none ↦ contains_nothing x none
  ]
  above_walk k x a (p ∷ rest) (is, walks) here there = elim (contains_cases k x (p ∷ rest) here) [
    | inl same ↦ above_first k x a (p ∷ rest) (is, walks) same there
    | inr later ↦ contains_later p a rest (above_walk p x a rest walks later there)
  ]

  above_path : (k x a : ℕ) (path : List ℕ) → IsPathOf ids k path → Contains path x → Contains (drop 1 (plan_path plan x)) a → Contains (drop 1 path) a
  above_path k x a [] is here there = absurd is
  above_path k x a (first ∷ walk) (same, walks) here there = above_walk k x a walk walks (subst (λ n. Contains (n ∷ walk) x) same here) there

  -- of two contexts of a path the first is above the second, or at it, or the second is above the first
  order_first : (k x y : ℕ) (walk : List ℕ) → IsWalk ids k walk → Contains (k ∷ walk) x → Contains (k ∷ walk) y → (Contains walk x → Contains walk y → Contains (plan_path plan y) x ⊎ Contains (drop 1 (plan_path plan x)) y)
      → Contains (plan_path plan y) x ⊎ Contains (drop 1 (plan_path plan x)) y
  order_first k x y walk walks one two rest = elim (contains_cases k y walk two) [
    | inl same ↦ inl (subst (λ n. Contains (plan_path plan n) x) same (subst (λ p. Contains p x) (whole k walk walks) one))
    | inr later ↦ elim (contains_cases k x walk one) [
      | inl same ↦ inr (subst (λ n. Contains (drop 1 (plan_path plan n)) y) same (subst (λ p. Contains (drop 1 p) y) (whole k walk walks) later))
      | inr also ↦ rest also later
    ]
  ]

  walk_order : (k x y : ℕ) (walk : List ℕ) → IsWalk ids k walk → Contains (k ∷ walk) x → Contains (k ∷ walk) y → Contains (plan_path plan y) x ⊎ Contains (drop 1 (plan_path plan x)) y
  walk_order k x y [] walks one two = order_first k x y [] walks one two (λ none. contains_nothing x none)
  walk_order k x y (p ∷ rest) (is, walks) one two = order_first k x y (p ∷ rest) (is, walks) one two (walk_order p x y rest walks)

  path_order : (k x y : ℕ) (path : List ℕ) → IsPathOf ids k path → Contains path x → Contains path y → Contains (plan_path plan y) x ⊎ Contains (drop 1 (plan_path plan x)) y
  path_order k x y [] is one two = absurd is
  path_order k x y (first ∷ walk) (same, walks) one two = walk_order k x y walk walks (subst (λ n. Contains (n ∷ walk) x) same one) (subst (λ n. Contains (n ∷ walk) y) same two)

  -- what is above a node at or below another is at or below that, or above it
  pub above_cases : (other k a : ℕ) → k < length ids → is_within plan other k ≡ true → Contains (drop 1 (plan_path plan k)) a → (is_within plan other a ≡ true) ⊎ Contains (drop 1 (plan_path plan other)) a
  above_cases other k a less within there =
      let path = path_there ids read.runnable.tree k less in
      elim (path_order k other a (plan_path plan k) path (within_found plan other k within) (from_rest (plan_path plan k) a there)) [
        | inl on ↦ inl (within_told plan other a on)
        | inr above ↦ inr above
      ]
    where
      from_rest : (path : List ℕ) (x : ℕ) → Contains (drop 1 path) x → Contains path x
      from_rest [] x there = contains_nothing x there
      from_rest (first ∷ rest) x there = contains_later first x rest there

  -- what is above one child of a container is above all nodes at or below another
  pub above_both : (container child other node a : ℕ) → IsParentOf ids container child → IsParentOf ids container other → node < length ids → is_within plan child node ≡ true → Contains (drop 1 (plan_path plan other)) a
      → Contains (drop 1 (plan_path plan node)) a
  above_both container child other node a up up' less within there =
      let at_container : Contains (plan_path plan container) a = subst (λ p. Contains (drop 1 p) a) (sym (child_path container other up')) there in
      above_path node child a (plan_path plan node) (path_there ids read.runnable.tree node less) (within_found plan child node within)
      (subst (λ p. Contains (drop 1 p) a) (child_path container child up) at_container)

  -- ---- the children of the container

  passes_walk : (k : ℕ) (walk : List ℕ) (child container : ℕ) → IsWalk ids k walk → PassesBy (k ∷ walk) child container → IsParentOf ids container child × Contains (k ∷ walk) child
  passes_walk k [] child container walks by = absurd by
  passes_walk k (p ∷ rest) child container (is, walks) (inl (one, two)) = (
    subst (λ c. IsParentOf ids c child) two (subst (λ n. IsParentOf ids p n) one is),
    subst (λ n. Contains (k ∷ p ∷ rest) n) one (contains_first k (p ∷ rest)),
  )
  passes_walk k (p ∷ rest) child container (is, walks) (inr later) = let more = passes_walk p rest child container walks later in (more.0, contains_later k child (p ∷ rest) more.1)

  passes_path : (k : ℕ) (path : List ℕ) (child container : ℕ) → IsPathOf ids k path → PassesBy path child container → IsParentOf ids container child × Contains path child
  passes_path k [] child container is by = absurd is
  passes_path k (first ∷ walk) child container (same, walks) by = passes_walk first walk child container (subst (λ j. IsWalk ids j walk) (sym same) walks) by

  pub are_below : (first second : ℕ) → first < length ids → second < length ids → IsBeside plan first second → AreBelow plan first second
  are_below first second less less' are =
      let one = passes_path first (plan_path plan first) are.child are.container (path_there ids read.runnable.tree first less) are.below in
      let two = passes_path second (plan_path plan second) are.other are.container (path_there ids read.runnable.tree second less') are.other_below in
      record {
        container = are.container;
        child = are.child;
        other = are.other;
        child_is = one.0;
        other_is = two.0;
        below = within_told plan are.child first one.1;
        other_below = within_told plan are.other second two.1;
        differ = are.differ;
        concurrent = are.concurrent;
        other_concurrent = are.other_concurrent;
      }

  pub are_beside : (first second : ℕ) → AreBelow plan first second → IsBeside plan first second
  are_beside first second are =
      let on = within_found plan are.child first are.below in
      let on' = within_found plan are.other second are.other_below in
      record {
        container = are.container;
        child = are.child;
        other = are.other;
        below = path_passes ids read.runnable.tree first (plan_path plan first) are.container are.child (path_of_context plan read are.child first are.child_is.child_within on) are.child_is on;
        other_below = path_passes ids read.runnable.tree second (plan_path plan second) are.container are.other (path_of_context plan read are.other second are.other_is.child_within on') are.other_is on';
        differ = are.differ;
        concurrent = are.concurrent;
        other_concurrent = are.other_concurrent;
      }

  -- the second may run beside the first
  pub turned : (first second : ℕ) → AreBelow plan first second → AreBelow plan second first
  turned first second are = record {
    container = are.container;
    child = are.other;
    other = are.child;
    child_is = are.other_is;
    other_is = are.child_is;
    below = are.other_below;
    other_below = are.below;
    differ = λ same. are.differ (sym same);
    concurrent = are.other_concurrent;
    other_concurrent = are.concurrent;
  }

  -- and beside the nodes below it
  pub also_below : (first second node : ℕ) → AreBelow plan first second → is_within plan first node ≡ true → AreBelow plan node second
  also_below first second node are below = record {
    container = are.container;
    child = are.child;
    other = are.other;
    child_is = are.child_is;
    other_is = are.other_is;
    below = within_through are.child first node are.child_is.child_within are.below below;
    other_below = are.other_below;
    differ = are.differ;
    concurrent = are.concurrent;
    other_concurrent = are.other_concurrent;
  }

  -- which it is not itself
  pub not_below : (first second : ℕ) → AreBelow plan first second → is_within plan first second ≡ true → ⊥
  not_below first second are below =
      let child = within_through are.child first second are.child_is.child_within are.below below in
      are.differ (one_child ids read.runnable.tree are.container are.child are.other (id_at ids second) are.child_is are.other_is (within_up plan read are.child second are.child_is.child_within child)
      (within_up plan read are.other second are.other_is.child_within are.other_below))

  -- ---- beside a node, and beside its parent

  path_cases : (k parent x : ℕ) (path : List ℕ) → IsPathOf ids k path → IsParentOf ids parent k → Contains path x → (x ≡ k) ⊎ Contains (plan_path plan parent) x
  path_cases k parent x [] is up there = absurd is
  path_cases k parent x (first ∷ []) (same, root) up there = elim (contains_cases first x [] there) [ inl here ↦ inl (sym here ∙ same) | inr none ↦ contains_nothing x none ]
  path_cases k parent x (first ∷ p ∷ rest) (same, (is, walks)) up there = elim (contains_cases first x (p ∷ rest) there) [
    | inl here ↦ inl (sym here ∙ same)
    | inr later ↦
        let p_is : p ≡ parent = one_parent ids read.runnable.tree p parent k is up in
        inr (subst (λ w. Contains w x)
        (one_path ids read.runnable.tree parent (p ∷ rest) (plan_path plan parent) (p_is, subst (λ n. IsWalk ids n rest) p_is walks) (path_there ids read.runnable.tree parent up.parent_within)) later)
  ]

  -- what may run beside a node may run beside its parent, or is at or below another concurrent child of that
  pub record IsBelowOther (parent child second : ℕ) : Type 0 where
    pub other : ℕ
    pub other_is : IsParentOf ids parent other
    pub below : is_within plan other second ≡ true
    pub differ : child ≢ other
    pub concurrent : concurrent_of plan child ≡ true
    pub other_concurrent : concurrent_of plan other ≡ true

  pub beside_cases : (parent child second : ℕ) → IsParentOf ids parent child → AreBelow plan child second → AreBelow plan parent second ⊎ IsBelowOther parent child second
  beside_cases parent child second up are =
      elim (path_cases child parent are.child (plan_path plan child) (path_there ids read.runnable.tree child up.child_within) up (within_found plan are.child child are.below)) [
        | inl same ↦
            let container : are.container ≡ parent = one_parent ids read.runnable.tree are.container parent child (subst (IsParentOf ids are.container) same are.child_is) up in
            inr (record {
              other = are.other;
              other_is = subst (λ n. IsParentOf ids n are.other) container are.other_is;
              below = are.other_below;
              differ = λ is. are.differ (same ∙ is);
              concurrent = subst (λ n. concurrent_of plan n ≡ true) same are.concurrent;
              other_concurrent = are.other_concurrent;
            })
        | inr above ↦ inl (record {
          container = are.container;
          child = are.child;
          other = are.other;
          child_is = are.child_is;
          other_is = are.other_is;
          below = within_told plan are.child parent above;
          other_below = are.other_below;
          differ = are.differ;
          concurrent = are.concurrent;
          other_concurrent = are.other_concurrent;
        })
      ]
