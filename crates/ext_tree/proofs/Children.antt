-- Lists of children, as they grow context by context.
use Rattle.std.proofs.Common.{◌≡◌, ◌<◌, ◌+◌, ◌-◌, ℕ, true, List, [], ◌∷◌, ◌++◌, length, take, get_or, set, HoldsAt, refl, ap, sym, subst, ◌∙◌, arith, inl, inr, add-one, if◌then◌else◌, get_or-set_other, get_or-set_same, length-set}
use Rattle.std.specs.Global.{Vec}
use Rattle.std.specs.Bool.{Decides}
use Rattle.std.proofs.lemmas.Bool.{cases_eq, cases_Bool, true≢false}
use Rattle.ext_ids.specs.Ids.{is_parent}
use Rattle.ext_ids.proofs.Pairs.{last_of, is_parent-none, is_parent-push, ids_Decides}
use Rattle.ext_tree.specs.Trees.{Id, id_at, IsParent, IsTree, children_below}
use Rattle.ext_tree.specs.InnerBuilding.{Follows, AreChildren}
use Rattle.ext_tree.proofs.TreeFacts.{longer, has_segment, one_parent, parent_of}

pub is_parent_Decides : (a b : Id) → Decides (is_parent a b) (IsParent a b)
is_parent_Decides a b = (to a b, λ k. ap (is_parent a) k.1 ∙ is_parent-push a a k.0 ∙ (ids_Decides a a).1 refl)
  where
    to : (a b : Id) → is_parent a b ≡ true → IsParent a b
    to a [] h = absurd (true≢false (sym h ∙ is_parent-none a))
    to a (x ∷ xs) h =
        let l = last_of (x ∷ xs) (omega arith) in
        let front : take (length (x ∷ xs) - 1) (x ∷ xs) ≡ a = (ids_Decides (take (length (x ∷ xs) - 1) (x ∷ xs)) a).0
        (sym (is_parent-push a (take (length (x ∷ xs) - 1) (x ∷ xs)) l.last) ∙ ap (is_parent a) (sym l.is) ∙ h) in
        (l.last, l.is ∙ ap (λ ys. ys ++ l.last ∷ []) front)

more : (ids : List Id) (c n : ℕ) → children_below ids c (n + 1) ≡ (if is_parent (id_at ids c) (id_at ids n) then children_below ids c n ++ n ∷ [] else children_below ids c n)
more ids c n = ap (children_below ids c) (add-one n)

pub with_child : (ids : List Id) (c n : ℕ) → IsParent (id_at ids c) (id_at ids n) → children_below ids c (n + 1) ≡ children_below ids c n ++ n ∷ []
with_child ids c n is = more ids c n ∙ ap (λ b. if b then children_below ids c n ++ n ∷ [] else children_below ids c n) ((is_parent_Decides (id_at ids c) (id_at ids n)).1 is)

pub without_child : (ids : List Id) (c n : ℕ) → ¬ IsParent (id_at ids c) (id_at ids n) → children_below ids c (n + 1) ≡ children_below ids c n
without_child ids c n not_child = elim (cases_Bool (is_parent (id_at ids c) (id_at ids n))) [
  | inl t ↦ absurd (not_child ((is_parent_Decides (id_at ids c) (id_at ids n)).0 t))
  | inr f ↦ more ids c n ∙ ap (λ b. if b then children_below ids c n ++ n ∷ [] else children_below ids c n) f
]

module _ (ids : List Id) (tree : IsTree ids) where
  -- the root is nobody's child
  pub none_yet : (lists : List (Vec ℕ)) → length lists ≡ length ids → ((k : ℕ) → k < length ids → HoldsAt (λ v. v.items ≡ []) lists k) → AreChildren ids 1 lists
  none_yet lists count empty = record {
    count = count;
    each = λ c less d. empty c less d ∙ sym (without_child ids c 0 (λ is.
        let long = longer (id_at ids c) (id_at ids 0) is in
        let some = has_segment ids tree c less in
        let one = tree.first.root in omega (arith, long, some, one)));
  }

  -- one more context goes to the end of its parent's list
  pub grown : (n p : ℕ) (lists : List (Vec ℕ)) (v : Vec ℕ) → n < length ids → Follows ids n p → AreChildren ids n lists
      → ((d : Vec ℕ) → v.items ≡ (get_or lists p d).items ++ n ∷ []) → AreChildren ids (n + 1) (set lists p v)
  grown n p lists v less f are is = record {
    count = length-set lists p v ∙ are.count;
    each = λ c within d. elim (cases_eq c p) [
      | inl same ↦ subst (λ k. (get_or (set lists p v) k d).items ≡ children_below ids k (n + 1)) (sym same) (at_parent d)
      | inr other ↦
          ap (λ w. w.items) (get_or-set_other lists p c v d other) ∙ are.each c within d ∙ sym (without_child ids c n (λ child. other
          (one_parent ids tree c p n (record { parent_within = within; child_within = less; ids_are = child }) (parent_of ids tree n p less f))))
    ];
  }
    where
      p_within : p < length ids
      p_within = let before = f.before in omega (arith, before, less)

      at_parent : (d : Vec ℕ) → (get_or (set lists p v) p d).items ≡ children_below ids p (n + 1)
      at_parent d =
          let inside : p < length lists = (let count = are.count in let w = p_within in omega (arith, count, w)) in
          ap (λ w. w.items) (get_or-set_same lists p v d inside) ∙ is d ∙ ap (λ xs. xs ++ n ∷ []) (are.each p p_within d) ∙ sym (with_child ids p n f.is)
