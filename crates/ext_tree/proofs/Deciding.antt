-- Each list of ids is a tree or has a fault: all that is asked of an id can be decided.
use Rattle.std.proofs.Common.{◌≡◌, ◌<◌, ◌≤◌, ℕ, zero, suc, ◌⊎◌, List, length, refl, sym, subst, ◌∙◌, arith, inl, inr, ⊎_elim, true≢false}
use Rattle.std.specs.Cmp.Lexicographic.{pointwise}
use Rattle.std.proofs.lemmas.Bool.{cases_eq, cases_order, cases_Bool}
use Rattle.ext_ids.specs.Ids.{pair_eq, is_parent}
use Rattle.ext_ids.proofs.Pairs.{ids_Decides}
use Rattle.ext_tree.specs.declared.fault.TreeFault.{TreeFault}
use Rattle.ext_tree.specs.declared.fault.TreeFault.TheVariants as faults
use Rattle.ext_tree.specs.Trees.{Id, id_at, IsParent, MayFollow, IsWrong, twice, second_root, without_parent, FollowBelow, HasRoot, none_at_all, too_many, no_root, later}
use Rattle.ext_tree.proofs.Children.{is_parent_Decides}
use Rattle.ext_tree.specs.TreeLaws.{IsTreeOrFaulty}

-- whether a number below n passes
search_below : (P : ℕ → Type 0) → ((j : ℕ) → P j ⊎ (P j → ⊥)) → (n : ℕ) → ((j : ℕ) × (j < n) × P j) ⊎ (((j : ℕ) × (j < n) × P j) → ⊥)
search_below P decide zero = inr (λ (j, less, p). absurd (omega (arith, less)))
search_below P decide (suc n) = ⊎_elim
    (λ (j, less, p). inl (j, omega (arith, less), p))
    (λ before. ⊎_elim
    (λ p. inl (n, omega arith, p))
    (λ here. inr (λ (j, less, p). elim (cases_order j n) [
      | inl same ↦ here (subst P same p)
      | inr (inl below) ↦ before (j, below, p)
      | inr (inr above) ↦ absurd (omega (arith, above, less))
    ]))
    (decide n))
    (search_below P decide n)

ids_equal : (a b : Id) → (a ≡ b) ⊎ (a ≡ b → ⊥)
ids_equal a b = let d = ids_Decides a b in elim (cases_Bool (pointwise pair_eq a b)) [
  | inl t ↦ inl (d.0 t)
  | inr f ↦ inr (λ e. true≢false (sym (d.1 e) ∙ f))
]

parent_or_not : (a b : Id) → IsParent a b ⊎ (IsParent a b → ⊥)
parent_or_not a b = let d = is_parent_Decides a b in elim (cases_Bool (is_parent a b)) [
  | inl t ↦ inl (d.0 t)
  | inr f ↦ inr (λ e. true≢false (sym (d.1 e) ∙ f))
]

follow_or_wrong : (ids : List Id) (k : ℕ) → MayFollow ids k ⊎ ((what : TreeFault) × IsWrong ids k what)
follow_or_wrong ids k = ⊎_elim
    (λ stands. inr (faults.Twice k, twice stands))
    (λ fresh. ⊎_elim
    (λ one. inr (faults.TwoRoots k, second_root fresh one))
    (λ below. ⊎_elim
    (λ parent. inl (record { fresh = fresh; below = below; parent = parent }))
    (λ missing. inr (faults.NoParent k, without_parent fresh below missing))
    (search_below (λ j. IsParent (id_at ids j) (id_at ids k)) (λ j. parent_or_not (id_at ids j) (id_at ids k)) k))
    (cases_eq (length (id_at ids k)) 1))
    (search_below (λ j. id_at ids j ≡ id_at ids k) (λ j. ids_equal (id_at ids j) (id_at ids k)) k)

-- the first id below n that is wrong
record FirstWrong (ids : List Id) (n : ℕ) : Type 0 where
  pub place : ℕ
  pub what : TreeFault
  pub some : 0 < place
  pub less : place < n
  pub before : FollowBelow ids place
  pub wrong : IsWrong ids place what

one_more : (ids : List Id) (n : ℕ) → FollowBelow ids n → FollowBelow ids (suc n) ⊎ FirstWrong ids (suc n)
one_more ids zero below = inl (record { each = λ k some less. absurd (omega (arith, some, less)) })
one_more ids (suc m) below = ⊎_elim
    (λ may. inl (record {
      each = λ k some less. elim (cases_order k (suc m)) [
        | inl same ↦ subst (MayFollow ids) (sym same) may
        | inr (inl b) ↦ below.each k some b
        | inr (inr a) ↦ absurd (omega (arith, a, less))
      ];
    }))
    (λ (what, wrong). inr (record { place = suc m; what = what; some = omega arith; less = omega arith; before = below; wrong = wrong }))
    (follow_or_wrong ids (suc m))

follow_all : (ids : List Id) (n : ℕ) → FollowBelow ids n ⊎ FirstWrong ids n
follow_all ids zero = inl (record { each = λ k some less. absurd (omega (arith, less)) })
follow_all ids (suc n) = ⊎_elim
    (one_more ids n)
    (λ w. inr (record { place = w.place; what = w.what; some = w.some; less = (let l = w.less in omega (arith, l)); before = w.before; wrong = w.wrong }))
    (follow_all ids n)

rooted : (most : ℕ) (ids : List Id) → HasRoot ids → length ids ≤ most → IsTreeOrFaulty most ids
rooted most ids root fits = ⊎_elim
    (λ all. inl (record { tree = record { first = root; later = all }; few = fits }))
    (λ w. inr (w.what, later root fits w.place w.what w.some w.less w.before w.wrong))
    (follow_all ids (length ids))

some_or_none : (n : ℕ) → (n ≡ 0) ⊎ (0 < n)
some_or_none zero = inl refl
some_or_none (suc n) = inr (omega arith)

few_or_many : (most n : ℕ) → (n ≤ most) ⊎ (most < n)
few_or_many most n = elim (cases_order n most) [
  | inl same ↦ inl (omega (arith, same))
  | inr (inl less) ↦ inl (omega (arith, less))
  | inr (inr more) ↦ inr more
]

pub tree_or_faulty : (most : ℕ) (ids : List Id) → most ≤ 65536 → IsTreeOrFaulty most ids
tree_or_faulty most ids within = ⊎_elim
    (λ none_there. inr (faults.NoRoot, none_at_all none_there))
    (λ some. ⊎_elim
    (λ few. ⊎_elim
    (λ root. rooted most ids (record { some = some; few = omega (arith, few, within); root = root }) few)
    (λ other. inr (faults.NoRoot, no_root some few other))
    (cases_eq (length (id_at ids 0)) 1))
    (λ many. inr (faults.TooMany, too_many many))
    (few_or_many most (length ids)))
    (some_or_none (length ids))
