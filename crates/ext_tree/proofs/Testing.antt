-- The test for trees accepts the trees, and no other list of ids.
use Rattle.std.proofs.Common.{◌≡◌, ◌<◌, ◌≤◌, ◌+◌, ℕ, Bool, true, not, ◌&&◌, List, [], ◌∷◌, ◌++◌, length, refl, ap, sym, subst, ◌∙◌, arith, inl, inr, append_assoc, length-append, true≢false}
use Rattle.std.specs.Prelude.{◌==◌, nat_le}
use Rattle.std.specs.List.{list_any}
use Rattle.std.specs.Cmp.Lexicographic.{pointwise}
use Rattle.std.proofs.lemmas.Bool.{and_parts, and_from, not-true, not_from_false, false_from_ne_true, leb-true, le-leb, eqb-true, eq-eqb, ne_eqb, cases_eq}
use Rattle.std.proofs.lemmas.List.{get_or_append_left, get_or_default, get_or_at}
use Rattle.std.proofs.lemmas.List.Folds.{Any-from_list_any, list_any_at}
use Rattle.ext_ids.specs.Ids.{pair_eq, is_parent}
use Rattle.ext_ids.proofs.Pairs.{ids_Decides}
use Rattle.ext_tree.specs.Trees.{Id, id_at, MayFollow, IsTreeWithin}
use Rattle.ext_tree.specs.Decided.{may_follow, each_may_follow, is_tree}
use Rattle.ext_tree.specs.TreeLaws.{TestTells}
use Rattle.ext_tree.proofs.Children.{is_parent_Decides}

-- one of the ids before passes
found : (p : Id → Bool) (before rest : List Id) → list_any p before ≡ true → (j : ℕ) × (j < length before) × (p (id_at (before ++ rest) j) ≡ true)
found p before rest h =
    let a = Any-from_list_any p before h in
    (a.0, a.2, ap p (get_or_append_left before rest [] a.0 a.2 ∙ get_or_default before a.0 [] a.1 a.2 ∙ a.3) ∙ a.4)

there : (p : Id → Bool) (before rest : List Id) (j : ℕ) → j < length before → p (id_at (before ++ rest) j) ≡ true → list_any p before ≡ true
there p before rest j less h = list_any_at p before j [] less (ap p (sym (get_or_append_left before rest [] j less)) ∙ h)

here : (before : List Id) (id : Id) (more : List Id) → id_at (before ++ id ∷ more) (length before) ≡ id
here before id more = get_or_at before id more [] (length before) refl

-- ---- one id

follows_to : (before : List Id) (id : Id) (more : List Id) → may_follow before id ≡ true → MayFollow (before ++ id ∷ more) (length before)
follows_to before id more h =
    let outer = and_parts (not (list_any (pointwise pair_eq id) before) && not (length id == 1)) (list_any (λ parent. is_parent parent id) before) h in
    let inner = and_parts (not (list_any (pointwise pair_eq id) before)) (not (length id == 1)) outer.0 in
    let at = here before id more in
    record {
      fresh = λ (j, less, e).
          let same : id ≡ id_at (before ++ id ∷ more) j = sym at ∙ sym e in
          let stands = there (pointwise pair_eq id) before (id ∷ more) j less ((ids_Decides id (id_at (before ++ id ∷ more) j)).1 same) in
          true≢false (sym stands ∙ not-true _ inner.0);
      below = λ one. true≢false (sym (eq-eqb (length id) 1 (ap length (sym at) ∙ one)) ∙ not-true _ inner.1);
      parent =
          let p = found (λ parent. is_parent parent id) before (id ∷ more) outer.1 in
          let is = (is_parent_Decides (id_at (before ++ id ∷ more) p.0) id).0 p.2 in
          (p.0, p.1, (is.0, at ∙ is.1));
    }

follows_from : (before : List Id) (id : Id) (more : List Id) → MayFollow (before ++ id ∷ more) (length before) → may_follow before id ≡ true
follows_from before id more h =
    let at = here before id more in
    let fresh = not_from_false (list_any (pointwise pair_eq id) before) (false_from_ne_true _ (λ t.
    let p = found (pointwise pair_eq id) before (id ∷ more) t in
    h.fresh (p.0, p.1, sym ((ids_Decides id (id_at (before ++ id ∷ more) p.0)).0 p.2) ∙ sym at))) in
    let below = not_from_false (length id == 1) (ne_eqb (length id) 1 (λ one. h.below (ap length at ∙ one))) in
    let p = h.parent in
    let is = (is_parent_Decides (id_at (before ++ id ∷ more) p.0) id).1 (p.2.0, sym at ∙ p.2.1) in
    let parent = there (λ parent. is_parent parent id) before (id ∷ more) p.0 p.1 is in
    and_from _ _ (and_from _ _ fresh below) parent

-- ---- the ids behind others

one_more : (before : List Id) (id : Id) (more : List Id) → (before ++ id ∷ []) ++ more ≡ before ++ id ∷ more
one_more before id more = append_assoc before (id ∷ []) more

all_to : (before more : List Id) → each_may_follow before more ≡ true → (k : ℕ) → length before ≤ k → k < length (before ++ more) → MayFollow (before ++ more) k
all_to before [] h k low high = absurd (omega (arith, low, high, length-append before []))
all_to before (id ∷ more) h k low high =
    let parts = and_parts (may_follow before id) (each_may_follow (before ++ id ∷ []) more) h in
    elim (cases_eq k (length before)) [
      | inl same ↦ subst (MayFollow (before ++ id ∷ more)) (sym same) (follows_to before id more parts.0)
      | inr other ↦
          let long : length (before ++ id ∷ []) ≡ length before + 1 = length-append before (id ∷ []) in
          let whole = ap length (one_more before id more) in
          subst (λ ids. MayFollow ids k) (one_more before id more) (all_to (before ++ id ∷ []) more parts.1 k (omega (arith, low, other, long)) (omega (arith, high, whole)))
    ]

all_from : (before more : List Id) → ((k : ℕ) → length before ≤ k → k < length (before ++ more) → MayFollow (before ++ more) k) → each_may_follow before more ≡ true
all_from before [] h = refl
all_from before (id ∷ more) h =
    let long : length (before ++ id ∷ []) ≡ length before + 1 = length-append before (id ∷ []) in
    let whole = ap length (one_more before id more) in
    let within : length before < length (before ++ id ∷ more) = omega (arith, length-append before (id ∷ more)) in
    and_from (may_follow before id) (each_may_follow (before ++ id ∷ []) more)
    (follows_from before id more (h (length before) (omega arith) within))
    (all_from (before ++ id ∷ []) more (λ k low high.
    subst (λ ids. MayFollow ids k) (sym (one_more before id more)) (h k (omega (arith, low, long)) (omega (arith, high, whole)))))

-- ---- whole lists

tree_to : (most : ℕ) (ids : List Id) → most ≤ 65536 → is_tree most ids ≡ true → IsTreeWithin most ids
tree_to most [] within h = absurd (true≢false (sym h))
tree_to most (root ∷ more) within h =
    let outer = and_parts (nat_le (length (root ∷ more)) most && (length root == 1)) (each_may_follow (root ∷ []) more) h in
    let inner = and_parts (nat_le (length (root ∷ more)) most) (length root == 1) outer.0 in
    let later = all_to (root ∷ []) more outer.1 in
    let fits : length (root ∷ more) ≤ most = leb-true _ _ inner.0 in
    record {
      tree = record {
        first = record { some = omega arith; few = omega (arith, fits, within); root = eqb-true (length root) 1 inner.1 };
        later = record { each = λ k some less. later k (omega (arith, some)) less };
      };
      few = fits;
    }

tree_from : (most : ℕ) (ids : List Id) → IsTreeWithin most ids → is_tree most ids ≡ true
tree_from most [] t = let some = t.tree.first.some in absurd (omega (arith, some))
tree_from most (root ∷ more) t =
    and_from _ _ (and_from _ _ (le-leb _ _ t.few) (eq-eqb (length root) 1 t.tree.first.root))
    (all_from (root ∷ []) more (λ k low high. t.tree.later.each k (omega (arith, low)) high))

pub test_tells : TestTells
test_tells most ids within = (tree_to most ids within, tree_from most ids)
