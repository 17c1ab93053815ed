-- The laws of trees.
use Rattle.std.proofs.Common.{◌<◌, ℕ, zero, suc, List, [], ◌∷◌, ◌++◌, length, get_or, Contains, AllPairs, ap, sym, subst, ◌∙◌, arith, inl, inr, if◌then◌else◌, ⊎_elim, true≢false}
use Rattle.std.proofs.lemmas.Bool.{cases_order, cases_Bool}
use Rattle.std.proofs.lemmas.List.Elements.{Contains-push, Contains-push_cases, Contains-append_left}
use Rattle.std.proofs.lemmas.List.{get_or_default}
use Rattle.std.proofs.lemmas.List.Quantifiers.{all_pairs_push}
use Rattle.ext_ids.specs.Ids.{is_parent}
use Rattle.ext_tree.specs.Trees.{Id, id_at, IsParent, children_below}
use Rattle.ext_tree.specs.TreeLaws.{FaultsTell, PathsAreUnique, ParentsListChildren}
use Rattle.ext_tree.proofs.TreeFacts.{has_no_fault, one_fault, one_parent, parent_first}
use Rattle.ext_tree.proofs.Deciding.{tree_or_faulty}
use Rattle.ext_tree.proofs.Walks.{one_path}
use Rattle.ext_tree.proofs.Children.{is_parent_Decides}

pub faults_tell : FaultsTell
faults_tell = record { one_of_both = tree_or_faulty; not_both = has_no_fault; one_fault = one_fault }

pub paths_are_unique : PathsAreUnique
paths_are_unique = record {
  one_parent = λ ids p q context tree. one_parent ids tree p q context;
  before = λ ids p context tree. parent_first ids tree p context;
  one_path = λ ids context path second tree. one_path ids tree context path second;
}

-- the children below a number
record Listed (ids : List Id) (c n : ℕ) (xs : List ℕ) : Type 0 where
  pub child : (k : ℕ) → Contains xs k → (k < n) × IsParent (id_at ids c) (id_at ids k)
  pub listed : (k : ℕ) → k < n → IsParent (id_at ids c) (id_at ids k) → Contains xs k
  pub order : AllPairs (λ a b. a < b) xs

with_one : (ids : List Id) (c n : ℕ) (xs : List ℕ) → Listed ids c n xs → IsParent (id_at ids c) (id_at ids n) → Listed ids c (suc n) (xs ++ n ∷ [])
with_one ids c n xs l is = record {
  child = λ k h. ⊎_elim
      (λ old. let o = l.child k old in (omega (arith, o.0), o.1))
      (λ e. subst (λ j. (j < suc n) × IsParent (id_at ids c) (id_at ids j)) e (omega arith, is))
      (Contains-push_cases xs n k h);
  listed = λ k less h. elim (cases_order k n) [
    | inl same ↦ subst (Contains (xs ++ n ∷ [])) (sym same) (Contains-push xs n)
    | inr (inl below) ↦ Contains-append_left xs (n ∷ []) k (l.listed k below h)
    | inr (inr above) ↦ absurd (omega (arith, above, less))
  ];
  order = all_pairs_push (λ a b. a < b) xs n l.order (λ i d inside. let o = l.child (get_or xs i d) (i, inside, get_or_default xs i (get_or xs i d) d inside) in o.0);
}

without_one : (ids : List Id) (c n : ℕ) (xs : List ℕ) → Listed ids c n xs → ¬ IsParent (id_at ids c) (id_at ids n) → Listed ids c (suc n) xs
without_one ids c n xs l not_child = record {
  child = λ k h. let o = l.child k h in (omega (arith, o.0), o.1);
  listed = λ k less h. elim (cases_order k n) [
    | inl same ↦ absurd (not_child (subst (λ j. IsParent (id_at ids c) (id_at ids j)) same h))
    | inr (inl below) ↦ l.listed k below h
    | inr (inr above) ↦ absurd (omega (arith, above, less))
  ];
  order = l.order;
}

listed_below : (ids : List Id) (c n : ℕ) → Listed ids c n (children_below ids c n)
listed_below ids c zero = record {
  child = λ k (j, less, e). absurd (omega (arith, less));
  listed = λ k less h. absurd (omega (arith, less));
  order = λ i j d less inside. absurd (omega (arith, inside));
}
listed_below ids c (suc n) =
    let l = listed_below ids c n in
    let d = is_parent_Decides (id_at ids c) (id_at ids n) in
    elim (cases_Bool (is_parent (id_at ids c) (id_at ids n))) [
      | inl t ↦ subst (Listed ids c (suc n)) (ap (λ b. if b then children_below ids c n ++ n ∷ [] else children_below ids c n) (sym t)) (with_one ids c n (children_below ids c n) l (d.0 t))
      | inr f ↦ subst (Listed ids c (suc n)) (ap (λ b. if b then children_below ids c n ++ n ∷ [] else children_below ids c n) (sym f)) (without_one ids c n (children_below ids c n) l (λ is. true≢false (sym (d.1 is) ∙ f)))
    ]

pub parents_list_children : ParentsListChildren
parents_list_children ids context less =
    let l = listed_below ids context (length ids) in
    record {
      child = λ k h. let o = l.child k h in record { parent_within = less; child_within = o.0; ids_are = o.1 };
      listed = λ k is. l.listed k is.child_within is.ids_are;
      order = l.order;
    }
