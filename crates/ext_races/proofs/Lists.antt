-- What lists contain, under `map` and `flat_map`.
use Rattle.std.proofs.Common.{◌≡◌, ℕ, zero, suc, ◌+◌, ◌<◌, ◌⊎◌, List, [], ◌∷◌, ◌++◌, length, map, take, get_or, Contains, refl, sym, ap, subst, ◌∙◌, arith, inl, inr, All, add-one, zero-add, append-nil}
use Rattle.std.proofs.lemmas.Grind.{flat_map-append}
use Rattle.std.proofs.lemmas.List.{map-append}
use Rattle.std.specs.List.{flat_map, range_with_len}
use Rattle.std.proofs.lemmas.List.Elements.{Contains-append_left, Contains-append_right, Contains-append_cases}

module _ {A : Type 0} where
  pub contains_first : (x : A) (xs : List A) → Contains (x ∷ xs) x
  contains_first x xs = (0, omega arith, refl)

  pub contains_later : (y x : A) (xs : List A) → Contains xs x → Contains (y ∷ xs) x
  contains_later y x xs (k, less, is) = (suc k, omega (arith, less), is)

  pub contains_cases : (y x : A) (xs : List A) → Contains (y ∷ xs) x → (y ≡ x) ⊎ Contains xs x
  contains_cases y x xs (zero, less, is) = inl is
  contains_cases y x xs (suc k, less, is) = inr (k, omega (arith, less), is)

  pub contains_nothing : {P : Type 0} (x : A) → Contains {X = A} [] x → P
  contains_nothing x (k, less, is) = absurd (omega (arith, less))

module _ {A B : Type 0} (f : A → B) where
  pub contains-map : (xs : List A) (x : A) → Contains xs x → Contains (map f xs) (f x)
  contains-map [] x h = contains_nothing x h
  contains-map (y ∷ xs) x h = elim (contains_cases y x xs h) [
    | inl same ↦ subst (λ z. Contains (f y ∷ map f xs) z) (ap f same) (contains_first (f y) (map f xs))
    | inr later ↦ contains_later (f y) (f x) (map f xs) (contains-map xs x later)
  ]

  pub contains-map_back : (xs : List A) (y : B) → Contains (map f xs) y → (x : A) × Contains xs x × (f x ≡ y)
  contains-map_back [] y h = contains_nothing y h
  contains-map_back (x ∷ xs) y h = elim (contains_cases (f x) y (map f xs) h) [
    | inl same ↦ (x, contains_first x xs, same)
    | inr later ↦ let rest = contains-map_back xs y later in (rest.0, contains_later x rest.0 xs rest.1, rest.2)
  ]

module _ {A B : Type 0} (f : A → List B) where
  pub contains-flat_map : (xs : List A) (x : A) (y : B) → Contains xs x → Contains (f x) y → Contains (flat_map f xs) y
  contains-flat_map [] x y h there = contains_nothing x h
  contains-flat_map (z ∷ xs) x y h there = elim (contains_cases z x xs h) [
    | inl same ↦ Contains-append_left (f z) (flat_map f xs) y (subst (λ w. Contains (f w) y) (sym same) there)
    | inr later ↦ Contains-append_right (f z) (flat_map f xs) y (contains-flat_map xs x y later there)
  ]

  pub contains-flat_map_back : (xs : List A) (y : B) → Contains (flat_map f xs) y → (x : A) × Contains xs x × Contains (f x) y
  contains-flat_map_back [] y h = contains_nothing y h
  contains-flat_map_back (x ∷ xs) y h = elim (Contains-append_cases (f x) (flat_map f xs) y h) [
    | inl here ↦ (x, contains_first x xs, here)
    | inr later ↦ let rest = contains-flat_map_back xs y later in (rest.0, contains_later x rest.0 xs rest.1, rest.2)
  ]

pub contains-range : (from count k : ℕ) → Contains (range_with_len from count) k → k < from + count
contains-range from zero k h = contains_nothing k h
contains-range from (suc count) k h = elim (contains_cases from k (range_with_len (from + 1) count) h) [
  | inl same ↦ omega (arith, same)
  | inr later ↦ let less = contains-range (from + 1) count k later in omega (arith, less)
]

range_more : (from count : ℕ) → range_with_len from (suc count) ≡ range_with_len from count ++ (from + count) ∷ []
range_more from zero = ap (λ k. k ∷ []) (let e : from ≡ from + 0 = omega arith in e)
range_more from (suc count) = ap (λ ks. from ∷ ks) (range_more (from + 1) count ∙ ap (λ k. range_with_len (from + 1) count ++ k ∷ []) (let e : from + 1 + count ≡ from + suc count = omega arith in e))

pub flat_map-range_more : {A : Type 0} (f : ℕ → List A) (count : ℕ) → flat_map f (range_with_len 0 (count + 1)) ≡ flat_map f (range_with_len 0 count) ++ f count
flat_map-range_more f count =
    ap (λ n. flat_map f (range_with_len 0 n)) (add-one count) ∙ ap (flat_map f) (range_more 0 count) ∙ flat_map-append f (range_with_len 0 count) ((0 + count) ∷ [])
    ∙ ap (λ k. flat_map f (range_with_len 0 count) ++ (f k ++ [])) (zero-add count) ∙ ap (λ ys. flat_map f (range_with_len 0 count) ++ ys) (append-nil (f count))

pub take_more : {A : Type 0} (xs : List A) (i : ℕ) (x : A) → i < length xs → x ≡ get_or xs i x → take (i + 1) xs ≡ take i xs ++ x ∷ []
take_more xs i x less is = ap (λ n. take n xs) (add-one i) ∙ go xs i x less is
  where
    go : {A : Type 0} (xs : List A) (i : ℕ) (x : A) → i < length xs → x ≡ get_or xs i x → take (suc i) xs ≡ take i xs ++ x ∷ []
    go [] i x less is = absurd (omega (arith, less))
    go (y ∷ xs) zero x less is = ap (λ z. z ∷ []) (sym is)
    go (y ∷ xs) (suc i) x less is = ap (λ zs. y ∷ zs) (go xs i x (omega (arith, less)) is)

pub map-take_more : {A B : Type 0} (f : A → B) (xs : List A) (i : ℕ) (x : A) → i < length xs → x ≡ get_or xs i x → map f (take (i + 1) xs) ≡ map f (take i xs) ++ f x ∷ []
map-take_more f xs i x less is = ap (map f) (take_more xs i x less is) ∙ map-append f (take i xs) (x ∷ [])

same_at : {A : Type 0} (xs : List A) (i : ℕ) (d e : A) → i < length xs → get_or xs i d ≡ get_or xs i e
same_at [] i d e less = absurd (omega (arith, less))
same_at (x ∷ xs) zero d e less = refl
same_at (x ∷ xs) (suc i) d e less = same_at xs i d e (omega (arith, less))

pub take_at_more : {A : Type 0} (xs : List A) (i : ℕ) (d : A) → i < length xs → take (i + 1) xs ≡ take i xs ++ get_or xs i d ∷ []
take_at_more xs i d less = take_more xs i (get_or xs i d) less (same_at xs i d (get_or xs i d) less)

pub map-take_at : {A B : Type 0} (f : A → B) (xs : List A) (i : ℕ) (d : A) → i < length xs → map f (take (i + 1) xs) ≡ map f (take i xs) ++ f (get_or xs i d) ∷ []
map-take_at f xs i d less = map-take_more f xs i (get_or xs i d) less (same_at xs i d (get_or xs i d) less)

pub contains_at : {A : Type 0} (xs : List A) (k : ℕ) (d : A) → k < length xs → Contains xs (get_or xs k d)
contains_at [] k d less = absurd (omega (arith, less))
contains_at (x ∷ xs) zero d less = contains_first x xs
contains_at (x ∷ xs) (suc k) d less = contains_later x (get_or xs k d) xs (contains_at xs k d (omega (arith, less)))

pub all_contained : {A : Type 0} (P : A → Type 0) (xs : List A) → ((x : A) → Contains xs x → P x) → All P xs
all_contained P xs each = λ k d less. each (get_or xs k d) (contains_at xs k d less)
