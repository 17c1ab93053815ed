-- Lists in which nothing stands twice.
use Rattle.std.proofs.Common.{◌≡◌, ◌≢◌, ◌<◌, inl, inr, ℕ, zero, suc, Bool, true, List, [], ◌∷◌, ◌++◌, length, map, get_or, nat_eq, refl, ap, sym, subst, ◌∙◌, arith, AllPairs}
use Rattle.std.specs.Prelude.{Contains, filter, not, cond}
use Rattle.std.specs.List.{IsDistinct, flat_map}
use Rattle.std.proofs.lemmas.Bool.Decides.{Decides-eqb}
use Rattle.std.proofs.lemmas.List.Elements.{Contains-append_cases, Contains-append_left, Contains-append_right}
use Rattle.std.proofs.lemmas.Map.Made.{AllPairs-from_IsDistinct, IsDistinct-from_AllPairs}
use Rattle.ext_history.proofs.Lists.{bools, contains_none, contains_here, contains_later, contains_cons, contains_filter, contains_from_filter}

module _ {A : Type 0} where
  abbrev pub Once : List A → Type 0
  Once [] = Unit {0}
  Once (x ∷ xs) = (¬ Contains xs x) × Once xs

  pub once-append : (xs ys : List A) → Once xs → Once ys → ((x : A) → Contains xs x → Contains ys x → ⊥) → Once (xs ++ ys)
  once-append [] ys a b apart = b
  once-append (x ∷ xs) ys a b apart = (
    (λ there. elim (Contains-append_cases xs ys x there) [ inl left ↦ a.0 left | inr right ↦ apart x (contains_here x xs) right ]),
    once-append xs ys a.1 b (λ y left right. apart y (contains_later x xs y left) right),
  )

  once-filter : (p : A → Bool) (xs : List A) → Once xs → Once (filter p xs)
  once-filter p [] a = tt
  once-filter p (x ∷ xs) a = elim (bools (p x)) [
    | inl yes_p ↦ subst Once (sym (ap (λ b. cond b (x ∷ filter p xs) (filter p xs)) yes_p)) ((λ there. a.0 (contains_from_filter p xs x there)), once-filter p xs a.1)
    | inr no_p ↦ subst Once (sym (ap (λ b. cond b (x ∷ filter p xs) (filter p xs)) no_p)) (once-filter p xs a.1)
  ]

  passes : (p : A → Bool) (xs : List A) (x : A) → Contains (filter p xs) x → p x ≡ true
  passes p [] x there = absurd (contains_none x there)
  passes p (y ∷ xs) x there = elim (bools (p y)) [
    | inl yes_p ↦ elim (contains_cons y (filter p xs) x (subst (λ l. Contains l x) (ap (λ b. cond b (y ∷ filter p xs) (filter p xs)) yes_p) there)) [
      | inl same ↦ subst (λ z. p z ≡ true) same yes_p
      | inr later ↦ passes p xs x later
    ]
    | inr no_p ↦ passes p xs x (subst (λ l. Contains l x) (ap (λ b. cond b (y ∷ filter p xs) (filter p xs)) no_p) there)
  ]

  -- those that pass a test, and then the others
  pub once-parted : (p : A → Bool) (xs : List A) → Once xs → Once (filter p xs ++ filter (λ x. not (p x)) xs)
  once-parted p xs a = once-append (filter p xs) (filter (λ x. not (p x)) xs) (once-filter p xs a) (once-filter (λ x. not (p x)) xs a)
      (λ x left right. let one = passes p xs x left in let other = passes (λ y. not (p y)) xs x right in absurd (let e : not true ≡ true = sym (ap not one) ∙ other in cc))

  pub contains-parted : (p : A → Bool) (xs : List A) (x : A) → Contains xs x → Contains (filter p xs ++ filter (λ y. not (p y)) xs) x
  contains-parted p xs x there = elim (bools (p x)) [
    | inl yes_p ↦ Contains-append_left (filter p xs) (filter (λ y. not (p y)) xs) x (contains_filter p xs x yes_p there)
    | inr no_p ↦ Contains-append_right (filter p xs) (filter (λ y. not (p y)) xs) x (contains_filter (λ y. not (p y)) xs x (ap not no_p) there)
  ]

  pub contains-from_parted : (p : A → Bool) (xs : List A) (x : A) → Contains (filter p xs ++ filter (λ y. not (p y)) xs) x → Contains xs x
  contains-from_parted p xs x there = elim (Contains-append_cases (filter p xs) (filter (λ y. not (p y)) xs) x there) [
    | inl left ↦ contains_from_filter p xs x left
    | inr right ↦ contains_from_filter (λ y. not (p y)) xs x right
  ]

  at-contains : (xs : List A) (j : ℕ) (d : A) → j < length xs → Contains xs (get_or xs j d)
  at-contains [] j d less = absurd (omega (arith, less))
  at-contains (x ∷ xs) zero d less = contains_here x xs
  at-contains (x ∷ xs) (suc j) d less = contains_later x xs (get_or xs j d) (at-contains xs j d (omega (arith, less)))

  pairs-cons : (x : A) (xs : List A) → (¬ Contains xs x) → AllPairs (λ a b. a ≢ b) xs → (i j : ℕ) (d : A) → i < j → j < length (x ∷ xs) → get_or (x ∷ xs) i d ≢ get_or (x ∷ xs) j d
  pairs-cons x xs fresh rest i zero d less within = absurd (omega (arith, less))
  pairs-cons x xs fresh rest zero (suc j) d less within = λ same. fresh (subst (Contains xs) (sym same) (at-contains xs j d (omega (arith, within))))
  pairs-cons x xs fresh rest (suc i) (suc j) d less within = rest i j d (omega (arith, less)) (omega (arith, within))

  pub once-pairs : (xs : List A) → Once xs → AllPairs (λ a b. a ≢ b) xs
  once-pairs [] a = λ i j d less within. absurd (omega (arith, within))
  once-pairs (x ∷ xs) a = λ i j d less within. pairs-cons x xs a.0 (once-pairs xs a.1) i j d less within

  rising-tail : (R : A → A → Type 0) (x : A) (xs : List A) → AllPairs R (x ∷ xs) → AllPairs R xs
  rising-tail R x xs all = λ i j d less within. all (suc i) (suc j) d (omega (arith, less)) (omega (arith, within))

  -- where each element differs from the later ones
  pub once-from_pairs : (R : A → A → Type 0) → ((x : A) → R x x → ⊥) → (xs : List A) → AllPairs R xs → Once xs
  once-from_pairs R never [] all = tt
  once-from_pairs R never (x ∷ xs) all =
      ((λ there. never x (subst (R x) there.2 (all zero (suc there.0) x (omega arith) (omega (arith, there.1))))), once-from_pairs R never xs (rising-tail R x xs all))

-- as the words of contracts have it
pub once_from_distinct : (xs : List ℕ) → IsDistinct nat_eq xs → Once xs
once_from_distinct xs distinct = once-from_pairs (λ a b. a ≢ b) (λ x apart. apart refl) xs (AllPairs-from_IsDistinct Decides-eqb xs distinct)

pub distinct_from_once : (xs : List ℕ) → Once xs → IsDistinct nat_eq xs
distinct_from_once xs once = IsDistinct-from_AllPairs Decides-eqb xs (once-pairs xs once)

pub contains-map : {A B : Type 0} (f : A → B) (xs : List A) (x : A) → Contains xs x → Contains (map f xs) (f x)
contains-map f [] x there = absurd (contains_none x there)
contains-map f (y ∷ xs) x there = elim (contains_cons y xs x there) [
  | inl same ↦ subst (λ z. Contains (f z ∷ map f xs) (f x)) (sym same) (contains_here (f x) (map f xs))
  | inr later ↦ contains_later (f y) (map f xs) (f x) (contains-map f xs x later)
]

pub contains-from_map : {A B : Type 0} (f : A → B) (xs : List A) (y : B) → Contains (map f xs) y → (x : A) × Contains xs x × (f x ≡ y)
contains-from_map f [] y there = absurd (contains_none y there)
contains-from_map f (x ∷ xs) y there = elim (contains_cons (f x) (map f xs) y there) [
  | inl same ↦ (x, contains_here x xs, same)
  | inr later ↦ let r = contains-from_map f xs y later in (r.0, contains_later x xs r.0 r.1, r.2)
]

-- elements of one image are one, where no image stands twice
pub one-image : {A B : Type 0} (f : A → B) (xs : List A) (x y : A) → Once (map f xs) → Contains xs x → Contains xs y → f x ≡ f y → x ≡ y
one-image f [] x y once a b same = absurd (contains_none x a)
one-image f (z ∷ xs) x y once a b same = elim (contains_cons z xs x a) [
  | inl zx ↦ elim (contains_cons z xs y b) [
    | inl zy ↦ sym zx ∙ zy
    | inr later ↦ absurd (once.0 (subst (Contains (map f xs)) (sym same ∙ ap f (sym zx)) (contains-map f xs y later)))
  ]
  | inr earlier ↦ elim (contains_cons z xs y b) [
    | inl zy ↦ absurd (once.0 (subst (Contains (map f xs)) (same ∙ ap f (sym zy)) (contains-map f xs x earlier)))
    | inr later ↦ one-image f xs x y once.1 earlier later same
  ]
]

pub contains-flat_map : {A B : Type 0} (f : A → List B) (xs : List A) (x : A) (y : B) → Contains xs x → Contains (f x) y → Contains (flat_map f xs) y
contains-flat_map f [] x y there inside = absurd (contains_none x there)
contains-flat_map f (z ∷ xs) x y there inside = elim (contains_cons z xs x there) [
  | inl same ↦ Contains-append_left (f z) (flat_map f xs) y (subst (λ w. Contains (f w) y) (sym same) inside)
  | inr later ↦ Contains-append_right (f z) (flat_map f xs) y (contains-flat_map f xs x y later inside)
]

pub contains-from_flat_map : {A B : Type 0} (f : A → List B) (xs : List A) (y : B) → Contains (flat_map f xs) y → (x : A) × Contains xs x × Contains (f x) y
contains-from_flat_map f [] y there = absurd (contains_none y there)
contains-from_flat_map f (x ∷ xs) y there = elim (Contains-append_cases (f x) (flat_map f xs) y there) [
  | inl here ↦ (x, contains_here x xs, here)
  | inr later ↦ let r = contains-from_flat_map f xs y later in (r.0, contains_later x xs r.0 r.1, r.2)
]
