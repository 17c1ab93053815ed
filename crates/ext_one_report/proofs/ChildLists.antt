-- Lists of children: what stands before one of them and behind it, and lists in which each stands once.
use Rattle.std.proofs.Common.{◌≡◌, ◌≢◌, ℕ, zero, suc, ◌<◌, ◌⊎◌, inl, inr, Bool, true, fold, List, [], ◌∷◌, ◌++◌, take, drop, length, refl, sym, subst, ◌∙◌, arith}
use Rattle.std.specs.Prelude.{Contains, slice_index_or}
use Rattle.std.proofs.lemmas.List.Elements.{Contains-append_left, Contains-append_right, Contains-get_or}
use Rattle.ext_history.proofs.Lists.{bools, contains_cons, contains_here, contains_later, contains_none}
use Rattle.ext_history.proofs.Once.{Once}
use Rattle.ext_one_report.proofs.NodePlaces.{both_ways}

pub apart_before : (cs : List ℕ) (i x : ℕ) → Once cs → i < length cs → Contains (take i cs) x → x ≢ slice_index_or cs i 0
apart_before [] i x once less there = absurd (omega (arith, less))
apart_before (c ∷ cs) zero x once less there = absurd (contains_none x there)
apart_before (c ∷ cs) (suc i) x once less there = elim (contains_cons c (take i cs) x there) [
  | inl same ↦ λ is. once.0 (subst (Contains cs) (sym (same ∙ is)) (Contains-get_or cs i 0 (omega (arith, less))))
  | inr later ↦ apart_before cs i x once.1 (omega (arith, less)) later
]

pub apart_behind : (cs : List ℕ) (i x : ℕ) → Once cs → i < length cs → Contains (drop (suc i) cs) x → x ≢ slice_index_or cs i 0
apart_behind [] i x once less there = absurd (omega (arith, less))
apart_behind (c ∷ cs) zero x once less there = λ is. once.0 (subst (Contains cs) is there)
apart_behind (c ∷ cs) (suc i) x once less there = apart_behind cs i x once.1 (omega (arith, less)) there

pub among_first : (cs : List ℕ) (i x : ℕ) → Contains (take i cs) x → Contains cs x
among_first cs zero x there = absurd (contains_none x there)
among_first [] (suc i) x there = there
among_first (c ∷ cs) (suc i) x there = elim (contains_cons c (take i cs) x there) [
  | inl same ↦ subst (Contains (c ∷ cs)) same (contains_here c cs)
  | inr later ↦ contains_later c cs x (among_first cs i x later)
]

pub among_later : (cs : List ℕ) (i x : ℕ) → Contains (drop i cs) x → Contains cs x
among_later cs zero x there = there
among_later [] (suc i) x there = there
among_later (c ∷ cs) (suc i) x there = contains_later c cs x (among_later cs i x there)

pub only : (c x : ℕ) → Contains (c ∷ []) x → c ≡ x
only c x there = elim (contains_cons c [] x there) [ inl same ↦ same | inr none ↦ absurd (contains_none x none) ]

pub once-left : (xs ys : List ℕ) → Once (xs ++ ys) → Once xs
once-left [] ys once = tt
once-left (x ∷ xs) ys once = ((λ there. once.0 (Contains-append_left xs ys x there)), once-left xs ys once.1)

pub once-apart : (xs ys : List ℕ) (x : ℕ) → Once (xs ++ ys) → Contains xs x → Contains ys x → ⊥
once-apart [] ys x once there also = contains_none x there
once-apart (z ∷ xs) ys x once there also = elim (contains_cons z xs x there) [
  | inl same ↦ once.0 (subst (λ k. Contains (xs ++ ys) k) (sym same) (Contains-append_right xs ys x also))
  | inr later ↦ once-apart xs ys x once.1 later also
]

pub once-right : (xs ys : List ℕ) → Once (xs ++ ys) → Once ys
once-right [] ys once = once
once-right (x ∷ xs) ys once = once-right xs ys once.1

pub fold_at : {R : Type 0} (f : R → ℕ → R) (r : R) (cs : List ℕ) (i : ℕ) → i < length cs → fold f r cs ≡ fold f (f (fold f r (take i cs)) (slice_index_or cs i 0)) (drop (suc i) cs)
fold_at f r [] i less = absurd (omega (arith, less))
fold_at f r (c ∷ cs) zero less = refl
fold_at f r (c ∷ cs) (suc i) less = fold_at f (f r c) cs i (omega (arith, less))

-- one of them passes the test, or none does
pub which : (p : ℕ → Bool) (cs : List ℕ) → ((i : ℕ) × (i < length cs) × (p (slice_index_or cs i 0) ≡ true)) ⊎ ((x : ℕ) → Contains cs x → p x ≡ true → ⊥)
which p [] = inr (λ x there is. contains_none x there)
which p (c ∷ cs) = elim (bools (p c)) [
  | inl here ↦ inl (0, omega arith, here)
  | inr not_here ↦ elim (which p cs) [
    | inl one ↦ let less = one.1 in inl (suc one.0, omega (arith, less), one.2)
    | inr none ↦ inr (λ x there is. elim (contains_cons c cs x there) [ inl same ↦ both_ways (p c) (subst (λ z. p z ≡ true) (sym same) is) not_here | inr later ↦ none x later is ])
  ]
]
