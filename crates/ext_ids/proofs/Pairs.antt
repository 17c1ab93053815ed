-- `pair_eq` and `is_parent`: equal pairs are the same, and a parent's child has one pair more.
use Rattle.std.proofs.Common.{◌≡◌, suc, ◌-◌, ◌≤◌, take, Bool, true, false, ◌&&◌, List, [], ◌∷◌, ◌++◌, length, refl, ap, sym, ◌∙◌, arith}
use Rattle.std.specs.Bool.{Decides}
use Rattle.std.specs.Cmp.Lexicographic.{pointwise}
use Rattle.std.specs.Str.{bytes_eq}
use Rattle.std.proofs.lemmas.Bool.{and_parts}
use Rattle.std.proofs.lemmas.Bool.Decides.{same_from_decides}
use Rattle.std.proofs.lemmas.Slice.Eq.{bytes_eq-Decides, slice_eq-Decides}
use Rattle.std.proofs.Math.Bool.{and-false}
use Rattle.ext_ids.specs.Grammar.{Pair}
use Rattle.ext_ids.specs.Ids.{pair_eq, is_parent}

pub pair_eq-Decides : (p q : Pair) → Decides (pair_eq p q) (p ≡ q)
pair_eq-Decides p q = (
  λ h.
      let parts = and_parts (bytes_eq p.0 q.0) (bytes_eq p.1 q.1) h in
      let kind : p.0 ≡ q.0 = (bytes_eq-Decides p.0 q.0).0 parts.0 in
      let value : p.1 ≡ q.1 = (bytes_eq-Decides p.1 q.1).0 parts.1 in
      λ i. (kind i, value i),
  λ e.
      let kind : bytes_eq p.0 q.0 ≡ true = (bytes_eq-Decides p.0 q.0).1 (ap (λ r. r.0) e) in
      let value : bytes_eq p.1 q.1 ≡ true = (bytes_eq-Decides p.1 q.1).1 (ap (λ r. r.1) e) in
      rw (kind, value) refl,
)

pair_eq-comm : (p q : Pair) → pair_eq p q ≡ pair_eq q p
pair_eq-comm p q = same_from_decides (pair_eq p q) (pair_eq q p) (pair_eq-Decides p q)
    (λ h. sym ((pair_eq-Decides q p).0 h), λ e. (pair_eq-Decides q p).1 (sym e))

-- `==` on ids
pub ids_Decides : (ps qs : List Pair) → Decides (pointwise pair_eq ps qs) (ps ≡ qs)
ids_Decides ps qs = slice_eq-Decides pair_eq-Decides ps qs (pointwise pair_eq ps qs) refl

-- an id without segments is no child
pub is_parent-none : (ps : List Pair) → is_parent ps [] ≡ false
is_parent-none [] = refl
is_parent-none (p ∷ ps) = refl

-- a child but for its last segment is its parent
pub is_parent-push : (ps front : List Pair) (last : Pair) → is_parent ps (front ++ last ∷ []) ≡ pointwise pair_eq front ps
is_parent-push [] [] last = refl
is_parent-push [] (q ∷ []) last = refl
is_parent-push [] (q ∷ r ∷ front) last = refl
is_parent-push (p ∷ ps) [] last = ap (λ b. pair_eq p last && b) (is_parent-none ps) ∙ and-false _
is_parent-push (p ∷ ps) (q ∷ front) last = rw (pair_eq-comm p q, is_parent-push ps front last) refl

-- a list but for its last item, and that item
pub record LastOf (qs : List Pair) : Type 0 where
  pub last : Pair
  pub is : qs ≡ take (length qs - 1) qs ++ last ∷ []

pub last_of : (qs : List Pair) → 1 ≤ length qs → LastOf qs
last_of [] some = absurd (omega (arith, some))
last_of (q ∷ []) some = record { last = q; is = refl }
last_of (q ∷ r ∷ qs) some =
    let l = last_of (r ∷ qs) (omega arith) in
    let count : length (q ∷ r ∷ qs) - 1 ≡ suc (length (r ∷ qs) - 1) = omega arith in
    record { last = l.last; is = ap (λ xs. q ∷ xs) l.is ∙ ap (λ n. take n (q ∷ r ∷ qs) ++ l.last ∷ []) (sym count) }

-- whether the second id is a child of the first, from the test of all but its last segment
pub record Child (ps qs : List Pair) (result : Bool) : Type 0 where
  pub exact : result ≡ is_parent ps qs
  pub decides : Decides result ((p : Pair) × (qs ≡ ps ++ p ∷ []))

pub child_of : (ps qs : List Pair) (result : Bool) → 1 ≤ length qs → result ≡ pointwise pair_eq (take (length qs - 1) qs) ps → Child ps qs result
child_of ps qs result some e =
    let l = last_of qs some in
    let exact : result ≡ is_parent ps qs = e ∙ sym (ap (is_parent ps) l.is ∙ is_parent-push ps (take (length qs - 1) qs) l.last) in
    record {
      exact = exact;
      decides = (
        λ h. (l.last, l.is ∙ ap (λ xs. xs ++ l.last ∷ []) ((ids_Decides (take (length qs - 1) qs) ps).0 (sym e ∙ h))),
        λ k. exact ∙ ap (is_parent ps) k.1 ∙ is_parent-push ps ps k.0 ∙ (ids_Decides ps ps).1 refl,
      );
    }
