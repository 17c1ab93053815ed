-- What a list contains, what filters leave of it, where lists are cut, and what stands where.
use Rattle.std.proofs.Common.{◌≡◌, ℕ, zero, suc, ◌<◌, ◌⊎◌, inl, inr, Bool, true, false, cond, List, [], ◌∷◌, length, get_or, refl, ap, sym, subst, ◌∙◌, arith, Option, None, Some, Contains, drop, ◌++◌}
use Rattle.std.specs.Prelude.{replicate}
use Rattle.std.specs.List.{filter, filter_map, cons_option}
use Rattle.std.proofs.lemmas.List.{get_or_past, get_or-replicate, length-replicate}
use Rattle.std.proofs.lemmas.Bool.{cases_lt}
use mathlib.Core.Option.{some, some-ne-none, some-injective}
use lib.ListN.{get_elem?}

pub bools : (b : Bool) → (b ≡ true) ⊎ (b ≡ false)
bools true = inl refl
bools false = inr refl

pub contains_none : {A : Type 0} (x : A) → Contains [] x → ⊥
contains_none x there = absurd (omega (arith, there.1))

pub contains_here : {A : Type 0} (x : A) (xs : List A) → Contains (x ∷ xs) x
contains_here x xs = (zero, omega arith, refl)

pub contains_later : {A : Type 0} (y : A) (xs : List A) (x : A) → Contains xs x → Contains (y ∷ xs) x
contains_later y xs x there = (suc there.0, omega (arith, there.1), there.2)

at_cons : {A : Type 0} (y : A) (xs : List A) (x : A) (k : ℕ) → k < length (y ∷ xs) → get_or (y ∷ xs) k x ≡ x → (y ≡ x) ⊎ Contains xs x
at_cons y xs x zero below is = inl is
at_cons y xs x (suc k) below is = inr (k, omega (arith, below), is)

pub contains_cons : {A : Type 0} (y : A) (xs : List A) (x : A) → Contains (y ∷ xs) x → (y ≡ x) ⊎ Contains xs x
contains_cons y xs x there = at_cons y xs x there.0 there.1 there.2

module _ {A : Type 0} (p : A → Bool) where
  filter_yes : (y : A) (xs : List A) → p y ≡ true → filter p (y ∷ xs) ≡ y ∷ filter p xs
  filter_yes y xs is = ap (λ b. cond b (y ∷ filter p xs) (filter p xs)) is

  filter_no : (y : A) (xs : List A) → p y ≡ false → filter p (y ∷ xs) ≡ filter p xs
  filter_no y xs is = ap (λ b. cond b (y ∷ filter p xs) (filter p xs)) is

  pub contains_filter : (xs : List A) (x : A) → p x ≡ true → Contains xs x → Contains (filter p xs) x
  contains_filter [] x is there = absurd (contains_none x there)
  contains_filter (y ∷ xs) x is there =
      elim (contains_cons y xs x there) [
        | inl same ↦ subst (λ l. Contains l x) (sym (filter_yes y xs (ap p same ∙ is))) (subst (λ z. Contains (z ∷ filter p xs) x) (sym same) (contains_here x (filter p xs)))
        | inr later ↦ elim (bools (p y)) [
          | inl passes ↦ subst (λ l. Contains l x) (sym (filter_yes y xs passes)) (contains_later y (filter p xs) x (contains_filter xs x is later))
          | inr fails ↦ subst (λ l. Contains l x) (sym (filter_no y xs fails)) (contains_filter xs x is later)
        ]
      ]

  pub contains_from_filter : (xs : List A) (x : A) → Contains (filter p xs) x → Contains xs x
  contains_from_filter [] x there = there
  contains_from_filter (y ∷ xs) x there =
      elim (bools (p y)) [
        | inl passes ↦ elim (contains_cons y (filter p xs) x (subst (λ l. Contains l x) (filter_yes y xs passes) there)) [
          | inl same ↦ subst (λ z. Contains (z ∷ xs) x) (sym same) (contains_here x xs)
          | inr later ↦ contains_later y xs x (contains_from_filter xs x later)
        ]
        | inr fails ↦ contains_later y xs x (contains_from_filter xs x (subst (λ l. Contains l x) (filter_no y xs fails) there))
      ]

module _ {A B : Type 0} (f : A → Option B) where
  some_cons : (o : Option B) (ys : List B) (y : B) → o ≡ Some y → Contains (cons_option o ys) y
  some_cons o ys y is = subst (λ z. Contains (cons_option z ys) y) (sym is) (contains_here y ys)

  later_cons : (o : Option B) (ys : List B) (y : B) → Contains ys y → Contains (cons_option o ys) y
  later_cons None ys y there = there
  later_cons (Some z) ys y there = contains_later z ys y there

  from_cons : (o : Option B) (ys : List B) (y : B) → Contains (cons_option o ys) y → (o ≡ Some y) ⊎ Contains ys y
  from_cons None ys y there = inr there
  from_cons (Some z) ys y there = elim (contains_cons z ys y there) [
    | inl same ↦ inl (ap Some same)
    | inr later ↦ inr later
  ]

  pub contains_filter_map : (xs : List A) (x : A) (y : B) → f x ≡ Some y → Contains xs x → Contains (filter_map f xs) y
  contains_filter_map [] x y is there = absurd (contains_none x there)
  contains_filter_map (z ∷ xs) x y is there =
      elim (contains_cons z xs x there) [
        | inl same ↦ some_cons (f z) (filter_map f xs) y (ap f same ∙ is)
        | inr later ↦ later_cons (f z) (filter_map f xs) y (contains_filter_map xs x y is later)
      ]

  pub contains_from_filter_map : (xs : List A) (y : B) → Contains (filter_map f xs) y → (x : A) × Contains xs x × (f x ≡ Some y)
  contains_from_filter_map [] y there = absurd (contains_none y there)
  contains_from_filter_map (z ∷ xs) y there =
      elim (from_cons (f z) (filter_map f xs) y there) [
        | inl here ↦ (z, contains_here z xs, here)
        | inr later ↦ let r = contains_from_filter_map xs y later in (r.0, contains_later z xs r.0 r.1, r.2)
      ]

-- ---- lists that are put together

pub left_nil : {A : Type 0} (xs ys : List A) → xs ++ ys ≡ [] → xs ≡ []
left_nil [] ys e = refl
left_nil (x ∷ xs) ys e = absurd (cc e)

pub drop_front : {A : Type 0} (xs ys : List A) → drop (length xs) (xs ++ ys) ≡ ys
drop_front [] ys = refl
drop_front (x ∷ xs) ys = drop_front xs ys

-- where the last element stands in a list that is cut at an element
pub split_push : {A : Type 0} (h : List A) (x : A) (before : List A) (e : A) (later : List A) → h ++ x ∷ [] ≡ before ++ e ∷ later
    → ((h ≡ before) × (x ≡ e)) ⊎ ((between : List A) × (h ≡ before ++ e ∷ between))
split_push [] x [] e later is = inl (refl, cc is)
split_push [] x (y ∷ []) e later is = absurd (cc is)
split_push [] x (y ∷ z ∷ before) e later is = absurd (cc is)
split_push (w ∷ h) x [] e later is = inr (h, cc is)
split_push (w ∷ h) x (y ∷ before) e later is =
    elim (split_push h x before e later (cc is)) [
      | inl r ↦ inl (cc (is, r.0), r.1)
      | inr r ↦ inr (r.0, cc (is, r.1))
    ]

-- ---- what stands where

-- where an element of a list with one more behind it stood
pub at_push : {A : Type 0} (l : List A) (a b : A) (j : ℕ) → get_elem? (l ++ a ∷ []) j ≡ some b → (get_elem? l j ≡ some b) ⊎ ((j ≡ length l) × (a ≡ b))
at_push [] a b zero e = inr (refl, some-injective a b e)
at_push [] a b (suc j) e = absurd (some-ne-none b (sym e))
at_push (x ∷ xs) a b zero e = inl e
at_push (x ∷ xs) a b (suc j) e = elim (at_push xs a b j e) [
  | inl t ↦ inl t
  | inr t ↦ inr (ap suc t.0, t.1)
]

-- the elements of a list of zeros, and past its end
pub at_zeros : (n k : ℕ) → get_or {A = ℕ} (replicate n 0) k 0 ≡ 0
at_zeros n k = elim (cases_lt k n) [
  | inl few ↦ get_or-replicate {A = ℕ} n k 0 0 few
  | inr many ↦ get_or_past {X = ℕ} (replicate n 0) k 0 (let l = length-replicate {A = ℕ} n 0 in omega arith)
]
