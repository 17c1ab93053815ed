-- Places of contexts and of parents, one result further.
use Rattle.std.proofs.Common.{◌≡◌, ◌≢◌, ◌⊎◌, ◌<◌, inl, inr, ℕ, zero, suc, List, [], ◌∷◌, ◌++◌, Option, Some, None, length, take, refl, ap, sym, subst, ◌∙◌, arith}
use Rattle.std.specs.Prelude.{All, option_map, replicate, set, slice_get}
use Rattle.std.proofs.lemmas.Bool.{cases_eq}
use Rattle.std.proofs.lemmas.List.Elements.{All-append}
use Rattle.ext_lifecycle.specs.declared.node_result.NodeResult.{NodeResult}
use Rattle.ext_page.specs.declared.run.Node.{Node}
use Rattle.ext_page.specs.Nodes.{ArePlaces, HaveParents, IsParentPlace, IsPlace, IsPlaceOfNext, place_in, place_of_next}
use Rattle.ext_tree.specs.Trees.{Id}

module _ {X : Type 0} where
  get-set_same : (xs : List X) (i : ℕ) (x : X) → i < length xs → slice_get (set xs i x) i ≡ Some x
  get-set_same [] i x less = absurd (omega (arith, less))
  get-set_same (y ∷ xs) zero x less = refl
  get-set_same (y ∷ xs) (suc i) x less = get-set_same xs i x (omega (arith, less))

  get-set_other : (xs : List X) (i j : ℕ) (x : X) → i ≢ j → slice_get (set xs i x) j ≡ slice_get xs j
  get-set_other [] i j x differ = refl
  get-set_other (y ∷ xs) zero zero x differ = absurd (differ refl)
  get-set_other (y ∷ xs) zero (suc j) x differ = refl
  get-set_other (y ∷ xs) (suc i) zero x differ = refl
  get-set_other (y ∷ xs) (suc i) (suc j) x differ = get-set_other xs i j x (λ same. differ (ap suc same))

  get-append : (xs : List X) (x : X) (k : ℕ) (y : X) → slice_get (xs ++ x ∷ []) k ≡ Some y → (slice_get xs k ≡ Some y) ⊎ ((k ≡ length xs) × (x ≡ y))
  get-append [] x zero y is = inr (refl, cc)
  get-append [] x (suc k) y is = absurd cc
  get-append (z ∷ xs) x zero y is = inl is
  get-append (z ∷ xs) x (suc k) y is = elim (get-append xs x k y is) [
    | inl before ↦ inl before
    | inr (at, same) ↦ inr (ap suc at, same)
  ]

-- ---- places

place-last : (results : List NodeResult) (ran : NodeResult) (place : ℕ) → place ≡ length results
    → option_map (λ r. r.node) (slice_get (results ++ ran ∷ []) place) ≡ Some ran.node
place-last [] ran zero is = refl
place-last [] ran (suc place) is = absurd cc
place-last (r ∷ results) ran zero is = absurd cc
place-last (r ∷ results) ran (suc place) is = place-last results ran place (omega (arith, is))

place-before : (results : List NodeResult) (ran : NodeResult) (place context : ℕ) → option_map (λ r. r.node) (slice_get results place) ≡ Some context
    → option_map (λ r. r.node) (slice_get (results ++ ran ∷ []) place) ≡ Some context
place-before [] ran place context is = absurd cc
place-before (r ∷ results) ran zero context is = is
place-before (r ∷ results) ran (suc place) context is = place-before results ran place context is

all-one : {X : Type 0} (P : X → Type 0) (x : X) → P x → All P (x ∷ [])
all-one P x is zero d less = is
all-one P x is (suc k) d less = absurd (omega (arith, less))

place-kept : (results : List NodeResult) (ran : NodeResult) (context : ℕ) (place : Option ℕ) → ran.node ≢ context → IsPlace results context place
    → IsPlace (results ++ ran ∷ []) context place
place-kept results ran context (Some place) differ is = place-before results ran place context is
place-kept results ran context None differ is = All-append (λ r. r.node ≢ context) results (ran ∷ []) is (all-one (λ r. r.node ≢ context) ran differ)

pub places-more : (results : List NodeResult) (ran : NodeResult) (places : List (Option ℕ)) (place : ℕ) → place ≡ length results → ran.node < length places
    → ArePlaces results places → ArePlaces (results ++ ran ∷ []) (set places ran.node (Some place))
places-more results ran places place at within before = record {
  each = λ context. elim (cases_eq ran.node context) [
    | inl same ↦ subst (λ o. IsPlace (results ++ ran ∷ []) context (place_in o)) (sym (ap (λ c. slice_get (set places ran.node (Some place)) c) (sym same) ∙ get-set_same places ran.node (Some place) within)) (place-last results ran place at ∙ ap Some same)
    | inr differ ↦ subst (λ o. IsPlace (results ++ ran ∷ []) context (place_in o)) (sym (get-set_other places ran.node context (Some place) differ)) (place-kept results ran context _ differ (before.each context))
  ];
}

none-placed : (count context : ℕ) → place_in (slice_get (replicate count None) context) ≡ None
none-placed zero context = refl
none-placed (suc count) zero = refl
none-placed (suc count) (suc context) = none-placed count context

pub places-none : (count : ℕ) → ArePlaces [] (replicate count None)
places-none count = record { each = λ context. subst (IsPlace [] context) (sym (none-placed count context)) (λ k d less. absurd (omega (arith, less))) }

-- ---- parents

pub place-next : (results : List NodeResult) (places : List (Option ℕ)) (next : Option ℕ) → ArePlaces results places
    → IsPlaceOfNext results next (place_of_next places next)
place-next results places None are = refl
place-next results places (Some context) are = are.each context

pub parents-more : (ids : List Id) (results : List NodeResult) (nodes : List Node) (ran : NodeResult) (node : Node) → slice_get results (length nodes) ≡ Some ran
    → IsParentPlace ids (take (length nodes) results) ran.node node.parent → HaveParents ids results nodes → HaveParents ids results (nodes ++ node ∷ [])
parents-more ids results nodes ran node at is before = record {
  each = λ k r n at_k is_n. elim (get-append nodes node k n is_n) [
    | inl old ↦ before.each k r n at_k old
    | inr (last, same) ↦
        let ran-is : ran ≡ r = cc in
        subst (λ place. IsParentPlace ids (take k results) r.node place) (ap (λ it. it.parent) same)
        (subst (λ it. IsParentPlace ids (take k results) it.node node.parent) ran-is
        (subst (λ i. IsParentPlace ids (take i results) ran.node node.parent) (sym last) is))
  ];
}
