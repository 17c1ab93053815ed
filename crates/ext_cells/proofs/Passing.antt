-- Tests of numbers: those below a number that pass, and whether all do.
use Rattle.std.proofs.Common.{◌≡◌, ℕ, zero, suc, ◌<◌, ◌≤◌, ◌⊎◌, inl, inr, Bool, true, false, List, [], ◌∷◌, refl, ap, sym, subst, ◌∙◌, arith, nat_eq, Contains}
use Rattle.std.specs.Prelude.{if◌then◌else◌, nat_lt}
use Rattle.std.specs.List.{IsDistinct, AllByRecursion}
use Rattle.std.proofs.lemmas.Bool.{ne_eqb}
use Rattle.std.proofs.lemmas.Bool.Decides.{eqb_tells, Decides-ltb}
use Rattle.ext_history.proofs.Lists.{bools, contains_none, contains_here, contains_later, contains_cons}
use Rattle.ext_cells.specs.InnerMarks.{all_below}

pub not_both : {b : Bool} → b ≡ false → b ≡ true → ⊥
not_both p q = cc

pub not_behind : (cells index : ℕ) → index ≤ cells → nat_lt cells index ≡ false
not_behind cells index within = elim (bools (nat_lt cells index)) [
  | inl is ↦ let less : cells < index = (Decides-ltb cells index).0 is in absurd (omega (arith, less, within))
  | inr is ↦ is
]

pub behind : (cells index : ℕ) → nat_lt cells index ≡ true → cells < index
behind cells index is = (Decides-ltb cells index).0 is

pub in_front : (cells index : ℕ) → nat_lt cells index ≡ false → index ≤ cells
in_front cells index is = not_less (λ less. not_both is ((Decides-ltb cells index).1 less))
  where
    not_less : {a b : ℕ} → (a < b → ⊥) → b ≤ a
    not_less never = omega (arith, never)

pub to_all : (test : ℕ → Bool) (n : ℕ) → ((x : ℕ) → x < n → test x ≡ true) → all_below test n ≡ true
to_all test zero each = refl
to_all test (suc n) each = ap (λ b. if b then all_below test n else false) (each n (omega arith)) ∙ to_all test n (λ x less. each x (omega (arith, less)))

pub if_true : (b c : Bool) → (if b then c else false) ≡ true → (b ≡ true) × (c ≡ true)
if_true true c is = (refl, is)
if_true false c is = absurd (cc is)

less_or : (x n : ℕ) → x < suc n → (x ≡ n) ⊎ (x < n)
less_or x n less = elim (eqb_tells x n) [
  | inl t ↦ inl t.1
  | inr t ↦ let ne = t.1 in inr (omega (arith, less, ne))
]

pub from_all : (test : ℕ → Bool) (n x : ℕ) → all_below test n ≡ true → x < n → test x ≡ true
from_all test zero x is less = absurd (omega (arith, less))
from_all test (suc n) x is less = let both = if_true (test n) (all_below test n) is in elim (less_or x n less) [
  | inl same ↦ ap test same ∙ both.0
  | inr fewer ↦ from_all test n x both.1 fewer
]

-- ---- those that pass

-- those of the first so many numbers that pass, the last first
abbrev pub passing : (ℕ → Bool) → ℕ → List ℕ
passing test zero = []
passing test (suc n) = if test n then n ∷ passing test n else passing test n

passing_yes : (test : ℕ → Bool) (n : ℕ) → test n ≡ true → passing test (suc n) ≡ n ∷ passing test n
passing_yes test n is = ap (λ b. if b then n ∷ passing test n else passing test n) is

passing_no : (test : ℕ → Bool) (n : ℕ) → test n ≡ false → passing test (suc n) ≡ passing test n
passing_no test n is = ap (λ b. if b then n ∷ passing test n else passing test n) is

pub record Passes (test : ℕ → Bool) (n x : ℕ) : Type 0 where
  pub below : x < n
  pub passes : test x ≡ true

pub from_passing : (test : ℕ → Bool) (n x : ℕ) → Contains (passing test n) x → Passes test n x
from_passing test zero x there = absurd (contains_none x there)
from_passing test (suc n) x there = elim (bools (test n)) [
  | inl is ↦ elim (contains_cons n (passing test n) x (subst (λ l. Contains l x) (passing_yes test n is) there)) [
    | inl same ↦ subst (Passes test (suc n)) same (record { below = omega arith; passes = is })
    | inr later ↦ let p = from_passing test n x later in let b = p.below in record { below = omega (arith, b); passes = p.passes }
  ]
  | inr isnt ↦ let p = from_passing test n x (subst (λ l. Contains l x) (passing_no test n isnt) there) in let b = p.below in record { below = omega (arith, b); passes = p.passes }
]

pub to_passing : (test : ℕ → Bool) (n x : ℕ) → x < n → test x ≡ true → Contains (passing test n) x
to_passing test zero x less is = absurd (omega (arith, less))
to_passing test (suc n) x less is = elim (less_or x n less) [
  | inl same ↦ subst (λ l. Contains l x) (sym (passing_yes test n (ap test (sym same) ∙ is))) (subst (λ z. Contains (z ∷ passing test n) x) same (contains_here x (passing test n)))
  | inr fewer ↦ elim (bools (test n)) [
    | inl top ↦ subst (λ l. Contains l x) (sym (passing_yes test n top)) (contains_later n (passing test n) x (to_passing test n x fewer is))
    | inr top ↦ subst (λ l. Contains l x) (sym (passing_no test n top)) (to_passing test n x fewer is)
  ]
]

others_differ : (xs : List ℕ) (n : ℕ) → ((x : ℕ) → Contains xs x → x < n) → AllByRecursion (λ y. nat_eq n y ≡ false) xs
others_differ [] n below = tt
others_differ (x ∷ xs) n below =
    let b = below x (contains_here x xs) in
    (ne_eqb n x (λ e. absurd (omega (arith, b, e))), others_differ xs n (λ y there. below y (contains_later x xs y there)))

cons_distinct : (x : ℕ) (xs : List ℕ) → AllByRecursion (λ y. nat_eq x y ≡ false) xs → IsDistinct nat_eq xs → IsDistinct nat_eq (x ∷ xs)
unfolding IsDistinct
cons_distinct x xs all d = (all, d)

nil_distinct : IsDistinct nat_eq []
unfolding IsDistinct
nil_distinct = tt

pub passing_distinct : (test : ℕ → Bool) (n : ℕ) → IsDistinct nat_eq (passing test n)
passing_distinct test zero = nil_distinct
passing_distinct test (suc n) = elim (bools (test n)) [
  | inl is ↦ subst (IsDistinct nat_eq) (sym (passing_yes test n is)) (cons_distinct n (passing test n) (others_differ (passing test n) n (λ x there. (from_passing test n x there).below)) (passing_distinct test n))
  | inr is ↦ subst (IsDistinct nat_eq) (sym (passing_no test n is)) (passing_distinct test n)
]
