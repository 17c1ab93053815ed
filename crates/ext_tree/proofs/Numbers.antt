-- Numbers of keys: the place of a key in a list without a key twice.
use Rattle.std.proofs.Common.{◌≡◌, ◌≢◌, ◌<◌, ℕ, Bool, List, [], ◌∷◌, ◌++◌, length, get_or, slice_get, position, Option, Some, None, IfSome, is_some, Contains, AllPairs, refl, ap, sym, ◌∙◌, true≢false, arith, inl, inr, if◌then◌else◌, ◌↔◌}
use Rattle.std.specs.Bool.{Decides}
use Rattle.std.specs.Cmp.{IsEquivalence}
use Rattle.std.specs.List.{list_any}
use Rattle.std.proofs.lemmas.Bool.{cases_order, cases_Bool}
use Rattle.std.proofs.lemmas.Option.{slice_get_within, slice_get-get_or, get_or_from_slice_get}
use Rattle.std.proofs.lemmas.List.{get_or_push, length_push}
use Rattle.std.proofs.lemmas.List.Quantifiers.{position-Some, all_pairs_push}
use Rattle.std.proofs.lemmas.Map.Views.{list_any-from_Contains}
use Rattle.indexmap.specs.IndexSet.{insert_key}
use Rattle.indexmap.proofs.CallerLemmas.{Contains-list_any}

module _ {K : Type 0} where
  pub contains_at : (xs : List K) (k : K) (n : ℕ) → slice_get xs n ≡ Some k → Contains xs k
  contains_at xs k n e = (n, slice_get_within xs n k e, get_or_from_slice_get xs n k k e)

  -- a list without an item twice has it at one place
  pub one_place : (xs : List K) → AllPairs (λ a b. a ≢ b) xs → (k : K) (n m : ℕ) → slice_get xs n ≡ Some k → slice_get xs m ≡ Some k → n ≡ m
  one_place xs different k n m e f =
      let at = get_or_from_slice_get xs n k k e in
      let there = get_or_from_slice_get xs m k k f in
      elim (cases_order n m) [
        | inl same ↦ same
        | inr (inl less) ↦ absurd (different n m k less (slice_get_within xs m k f) (at ∙ sym there))
        | inr (inr less) ↦ absurd (different m n k less (slice_get_within xs n k e) (there ∙ sym at))
      ]

-- what a look-up by `eq` answers
pub record IsPlace {K : Type 0} (xs : List K) (k : K) (r : Option ℕ) : Type 0 where
  pub number : (n : ℕ) → r ≡ Some n → slice_get xs n ≡ Some k
  pub found : AllPairs (λ a b. a ≢ b) xs → (n : ℕ) → slice_get xs n ≡ Some k → r ≡ Some n
  pub absent : (r ≡ None) ↔ (Contains xs k → ⊥)

module _ {K : Type 0} (eq : K → K → Bool) (same : (a b : K) → Decides (eq a b) (a ≡ b)) (laws : IsEquivalence eq) where
  place_number : (xs : List K) (k : K) (n : ℕ) → position (eq k) xs ≡ Some n → slice_get xs n ≡ Some k
  place_number xs k n e =
      let p = position-Some (eq k) xs n k e in
      slice_get-get_or xs n k p.0 ∙ ap Some (sym ((same k (get_or xs n k)).0 p.1))

  place_found : (xs : List K) (k : K) (r : Option ℕ) → r ≡ position (eq k) xs → is_some r ≡ list_any (eq k) xs → AllPairs (λ a b. a ≢ b) xs
      → (n : ℕ) → slice_get xs n ≡ Some k → r ≡ Some n
  place_found xs k None e there different n at = absurd (true≢false (sym (there ∙ list_any-from_Contains laws k xs (contains_at xs k n at))))
  place_found xs k (Some m) e there different n at = ap Some (one_place xs different k m n (place_number xs k m (sym e)) at)

  place_absent : (xs : List K) (k : K) (r : Option ℕ) → is_some r ≡ list_any (eq k) xs → (r ≡ None) ↔ (Contains xs k → ⊥)
  place_absent xs k r there = (
    λ e. λ c. true≢false (sym (list_any-from_Contains laws k xs c) ∙ sym there ∙ ap is_some e),
    by r there,
  )
    where
      by : (r : Option ℕ) → is_some r ≡ list_any (eq k) xs → (Contains xs k → ⊥) → r ≡ None
      by None e missing = refl
      by (Some n) e missing = absurd (missing (Contains-list_any eq (λ a b. (same a b).0) xs k (sym e)))

  pub place_of : (xs : List K) (k : K) (r : Option ℕ) → r ≡ position (eq k) xs → is_some r ≡ list_any (eq k) xs → IsPlace xs k r
  place_of xs k r e there = record {
    number = λ n is. place_number xs k n (sym e ∙ is);
    found = place_found xs k r e there;
    absent = place_absent xs k r there;
  }

  -- a new key goes last
  pub inserted : (xs : List K) (k : K) → (Contains xs k → ⊥) → insert_key eq xs k ≡ xs ++ k ∷ []
  inserted xs k new = elim (cases_Bool (list_any (eq k) xs)) [
    | inl t ↦ absurd (new (Contains-list_any eq (λ a b. (same a b).0) xs k t))
    | inr f ↦ ap (λ b. if b then xs else xs ++ k ∷ []) f
  ]

module _ {K : Type 0} where
  pub last_number : (xs : List K) (k : K) → slice_get (xs ++ k ∷ []) (length xs) ≡ Some k
  last_number xs k =
      let within : length xs < length (xs ++ k ∷ []) = omega (arith, length_push xs k) in
      slice_get-get_or (xs ++ k ∷ []) (length xs) k within ∙ ap Some (get_or_push xs k k (length xs) refl)

  pub different_with : (xs : List K) (k : K) → AllPairs (λ a b. a ≢ b) xs → (Contains xs k → ⊥) → AllPairs (λ a b. a ≢ b) (xs ++ k ∷ [])
  different_with xs k different new = all_pairs_push (λ a b. a ≢ b) xs k different (λ n d less e. new (n, less, default xs n d k less e))
    where
      default : (xs : List K) (n : ℕ) (d k : K) → n < length xs → get_or xs n d ≡ k → get_or xs n k ≡ k
      default xs n d k less e = ap (λ v. v) (get_or_from_slice_get xs n (get_or xs n d) k (slice_get-get_or xs n d less)) ∙ e

pub if_number : {K : Type 0} (xs : List K) (k : K) (r : Option ℕ) → IsPlace xs k r → IfSome r (λ n. slice_get xs n ≡ Some k)
if_number xs k None p = tt
if_number xs k (Some n) p = p.number n refl
