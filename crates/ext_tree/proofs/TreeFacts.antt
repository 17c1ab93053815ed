-- What follows from the definitions of trees: no list is a tree and has a fault, and none has two; ids tell contexts apart; parents come first.
use Rattle.std.proofs.Common.{◌≡◌, ◌≢◌, ◌<◌, ◌≤◌, ◌+◌, ℕ, HoldsAt, zero, suc, ◌⊎◌, List, [], ◌∷◌, ◌++◌, length, get_or, refl, ap, sym, subst, ◌∙◌, arith, inl, inr}
use Rattle.std.proofs.lemmas.Bool.{cases_order, cases_eq}
use Rattle.std.proofs.lemmas.List.{get_or_default, get_or_push, get_or_append_left, same_from_push, length_push}
use Rattle.ext_tree.specs.declared.fault.TreeFault.{TreeFault}
use Rattle.ext_tree.specs.declared.fault.TreeFault.TheVariants as faults
use Rattle.ext_tree.specs.Trees.{Id, id_at, IsParent, MayFollow, IsWrong, twice, second_root, without_parent, HasRoot, FollowBelow, IsTree, IsTreeWithin, HasFault, none_at_all, too_many, no_root, later, IsParentOf, IsPathOf}
use Rattle.ext_tree.specs.InnerBuilding.{Follows, IsFirstWrong, AreParents, ArePaths}

-- what an index reads
pub read_id : (ids : List Id) (at : ℕ) (x : Id) → at < length ids → x ≡ get_or ids at x → x ≡ id_at ids at
read_id ids at x less e = e ∙ get_or_default ids at x [] less

pub longer : (a b : Id) → IsParent a b → length b ≡ length a + 1
longer a b (p, e) = ap length e ∙ length_push a p

pub same_parent : (a b child : Id) → IsParent a child → IsParent b child → a ≡ b
same_parent a b child (p, e) (q, f) = let s = same_from_push a b p q (sym e ∙ f) in s.0

-- an id is wrong or may follow, not both
pub wrong_or_right : (ids : List Id) (k : ℕ) (e : TreeFault) → MayFollow ids k → IsWrong ids k e → ⊥
wrong_or_right ids k e may (twice s) = may.fresh s
wrong_or_right ids k e may (second_root s one) = may.below one
wrong_or_right ids k e may (without_parent s one missing) = missing may.parent

pub has_no_fault : (most : ℕ) (ids : List Id) (e : TreeFault) → IsTreeWithin most ids → HasFault most ids e → ⊥
has_no_fault most ids e t (none_at_all h) = let s = t.tree.first.some in omega (arith, s, h)
has_no_fault most ids e t (too_many h) = let s = t.few in omega (arith, s, h)
has_no_fault most ids e t (no_root some few h) = h t.tree.first.root
has_no_fault most ids e t (later root few k what some less before wrong) = wrong_or_right ids k what (t.tree.later.each k some less) wrong

pub memory_or_not : (e : TreeFault) → (e ≡ faults.Memory) ⊎ (e ≢ faults.Memory)
memory_or_not faults.Memory = inl refl
memory_or_not faults.NoRoot = inr (λ same. absurd cc)
memory_or_not (faults.TwoRoots i) = inr (λ same. absurd cc)
memory_or_not (faults.NoParent i) = inr (λ same. absurd cc)
memory_or_not (faults.Twice i) = inr (λ same. absurd cc)
memory_or_not faults.TooMany = inr (λ same. absurd cc)

one_wrong : (ids : List Id) (k : ℕ) (e f : TreeFault) → IsWrong ids k e → IsWrong ids k f → e ≡ f
one_wrong ids k e f (twice s) (twice t) = refl
one_wrong ids k e f (twice s) (second_root n one) = absurd (n s)
one_wrong ids k e f (twice s) (without_parent n one missing) = absurd (n s)
one_wrong ids k e f (second_root n one) (twice t) = absurd (n t)
one_wrong ids k e f (second_root n one) (second_root m two) = refl
one_wrong ids k e f (second_root n one) (without_parent m two missing) = absurd (two one)
one_wrong ids k e f (without_parent n one missing) (twice t) = absurd (n t)
one_wrong ids k e f (without_parent n one missing) (second_root m two) = absurd (one two)
one_wrong ids k e f (without_parent n one missing) (without_parent m two gone) = refl

first_wrong : (ids : List Id) (k j : ℕ) (e f : TreeFault) → 0 < k → 0 < j → FollowBelow ids k → FollowBelow ids j → IsWrong ids k e → IsWrong ids j f → e ≡ f
first_wrong ids k j e f k_some j_some below_k below_j wrong_k wrong_j = elim (cases_order k j) [
  | inl same ↦ one_wrong ids k e f wrong_k (subst (λ n. IsWrong ids n f) (sym same) wrong_j)
  | inr (inl less) ↦ absurd (wrong_or_right ids k e (below_j.each k k_some less) wrong_k)
  | inr (inr less) ↦ absurd (wrong_or_right ids j f (below_k.each j j_some less) wrong_j)
]

pub one_fault : (most : ℕ) (ids : List Id) (e f : TreeFault) → HasFault most ids e → HasFault most ids f → e ≡ f
one_fault most ids e f (none_at_all h) (none_at_all g) = refl
one_fault most ids e f (none_at_all h) (too_many g) = absurd (omega (arith, h, g))
one_fault most ids e f (none_at_all h) (no_root some few g) = refl
one_fault most ids e f (none_at_all h) (later root fits k what some less before wrong) = absurd (omega (arith, h, less))
one_fault most ids e f (too_many h) (none_at_all g) = absurd (omega (arith, h, g))
one_fault most ids e f (too_many h) (too_many g) = refl
one_fault most ids e f (too_many h) (no_root some few g) = absurd (omega (arith, h, few))
one_fault most ids e f (too_many h) (later root fits k what some less before wrong) = absurd (omega (arith, h, fits))
one_fault most ids e f (no_root some few h) (none_at_all g) = absurd (omega (arith, some, g))
one_fault most ids e f (no_root some few h) (too_many g) = absurd (omega (arith, few, g))
one_fault most ids e f (no_root some few h) (no_root some' few' g) = refl
one_fault most ids e f (no_root some few h) (later root fits k what some' less before wrong) = absurd (h root.root)
one_fault most ids e f (later root fits k what some less before wrong) (none_at_all g) = absurd (omega (arith, g, less))
one_fault most ids e f (later root fits k what some less before wrong) (too_many g) = absurd (omega (arith, g, fits))
one_fault most ids e f (later root fits k what some less before wrong) (no_root some' few g) = absurd (g root.root)
one_fault most ids e f (later root fits k what some less before wrong) (later root' fits' j what' some' less' before' wrong') =
    first_wrong ids k j what what' some some' before before' wrong wrong'

-- ids with places for all parents are a tree
pub tree_by_parents : (ids : List Id) (parents : List ℕ) → HasRoot ids → AreParents ids (length ids) parents → IsTree ids
tree_by_parents ids parents root are = record {
  first = root;
  later = record { each = λ k some less. let f = are.each k some less in f.may };
}

pub tree_within : (most : ℕ) (ids : List Id) (parents : List ℕ) → HasRoot ids → length ids ≤ most → AreParents ids (length ids) parents → IsTreeWithin most ids
tree_within most ids parents root few are = record { tree = tree_by_parents ids parents root are; few = few }

pub first_fault : (most : ℕ) (ids : List Id) (e : TreeFault) → HasRoot ids → length ids ≤ most → IsFirstWrong ids e → HasFault most ids e
first_fault most ids e root few w = later root few w.place e w.some w.less w.before w.wrong

module _ (ids : List Id) (tree : IsTree ids) where
  -- each id has a segment
  pub has_segment : (k : ℕ) → k < length ids → 0 < length (id_at ids k)
  has_segment zero less = let one = tree.first.root in omega (arith, one)
  has_segment (suc k) less =
      let p = (tree.later.each (suc k) (omega arith) less).parent in
      let long = longer (id_at ids p.0) (id_at ids (suc k)) p.2 in omega (arith, long)

  pub only_root : (k : ℕ) → k < length ids → length (id_at ids k) ≡ 1 → k ≡ 0
  only_root zero less one = refl
  only_root (suc k) less one = absurd ((tree.later.each (suc k) (omega arith) less).below one)

  -- an id names one context
  pub one_context : (j k : ℕ) → j < length ids → k < length ids → id_at ids j ≡ id_at ids k → j ≡ k
  one_context j k j_less k_less e = elim (cases_order j k) [
    | inl same ↦ same
    | inr (inl less) ↦ absurd ((tree.later.each k (omega (arith, less)) k_less).fresh (j, less, e))
    | inr (inr less) ↦ absurd ((tree.later.each j (omega (arith, less)) j_less).fresh (k, less, sym e))
  ]

  -- a context that is a child is not the root
  pub child_not_root : (p k : ℕ) → IsParentOf ids p k → 0 < k
  child_not_root p zero is =
      let long = longer (id_at ids p) (id_at ids 0) is.ids_are in
      let some = has_segment p is.parent_within in
      let one = tree.first.root in absurd (omega (arith, long, some, one))
  child_not_root p (suc k) is = omega arith

  -- a context has one parent
  pub one_parent : (p q k : ℕ) → IsParentOf ids p k → IsParentOf ids q k → p ≡ q
  one_parent p q k is other = one_context p q is.parent_within other.parent_within (same_parent (id_at ids p) (id_at ids q) (id_at ids k) is.ids_are other.ids_are)

  pub parent_first : (p k : ℕ) → IsParentOf ids p k → p < k
  parent_first p k is =
      let known = (tree.later.each k (child_not_root p k is) is.child_within).parent in
      let within : known.0 < length ids = (let less = known.1 in let end = is.child_within in omega (arith, less, end)) in
      let same : known.0 ≡ p = one_context known.0 p within is.parent_within (same_parent (id_at ids known.0) (id_at ids p) (id_at ids k) known.2 is.ids_are) in
      subst (λ n. n < k) same known.1

  pub parent_of : (k p : ℕ) → k < length ids → Follows ids k p → IsParentOf ids p k
  parent_of k p less f = record { parent_within = (let before = f.before in omega (arith, before, less)); child_within = less; ids_are = f.is }

-- one more item at the end, where each has what is said of its place
pub held_more : {A : Type 0} (P : ℕ → A → Type 0) (xs : List A) (x : A) (n : ℕ) → length xs ≡ n → ((k : ℕ) → k < n → HoldsAt (P k) xs k) → P n x
    → (k : ℕ) → k < n + 1 → HoldsAt (P k) (xs ++ x ∷ []) k
held_more P xs x n count all last k less d = elim (cases_eq k n) [
  | inl same ↦ subst (P k) (sym (get_or_push xs x d k (count ∙ sym same))) (subst (λ j. P j x) (sym same) last)
  | inr other ↦
      let below : k < n = omega (arith, less, other) in
      subst (P k) (sym (get_or_append_left xs (x ∷ []) d k (omega (arith, below, count)))) (all k below d)
]

-- one more path
pub more_paths : (ids : List Id) (n : ℕ) (path : List ℕ) (paths : List (List ℕ)) → ArePaths ids n paths → IsPathOf ids n path → length path ≤ 16
    → ArePaths ids (n + 1) (paths ++ path ∷ [])
more_paths ids n path paths are is few = record {
  count = length_push paths path ∙ ap (λ k. k + 1) are.count;
  each = held_more (λ c p. IsPathOf ids c p × (length p ≤ 16)) paths path n are.count are.each (is, few);
}

-- one more parent's place
pub more_parents : (ids : List Id) (n p : ℕ) (parents : List ℕ) → AreParents ids n parents → Follows ids n p → AreParents ids (n + 1) (parents ++ p ∷ [])
more_parents ids n p parents are f = record {
  count = length_push parents p ∙ ap (λ k. k + 1) are.count;
  each = λ k some less. elim (cases_order k n) [
    | inl same ↦
        let at : get_or (parents ++ p ∷ []) k 0 ≡ p = get_or_push parents p 0 k (are.count ∙ sym same) in
        subst (Follows ids k) (sym at) (subst (λ j. Follows ids j p) (sym same) f)
    | inr (inl below) ↦
        let inside : k < length parents = (let count = are.count in omega (arith, below, count)) in
        subst (Follows ids k) (sym (get_or_append_left parents (p ∷ []) 0 k inside)) (are.each k some below)
    | inr (inr above) ↦ absurd (omega (arith, above, less))
  ];
}

pub followed : (ids : List Id) (n : ℕ) (parents : List ℕ) → AreParents ids n parents → FollowBelow ids n
followed ids n parents are = record { each = λ k some less. let f = are.each k some less in f.may }
