-- The remaining numbers of a closed context: they are those that the seals keep, and there is one such list.
use Rattle.std.proofs.Common.{◌≡◌, ℕ, zero, suc, ◌≤◌, ◌<◌, ◌⊎◌, inl, inr, true, false, List, [], ◌∷◌, ◌++◌, refl, ap, sym, subst, ◌∙◌, arith, eqb-true, Option, None, Some, Contains}
use Rattle.std.specs.Prelude.{nat_lt, if◌then◌else◌, ◌==◌}
use Rattle.std.proofs.lemmas.Bool.Decides.{nat_tests}
use Rattle.ext_model.specs.declared.slot.Slot.{Slot}
use Rattle.ext_model.specs.declared.slot.Slot.TheVariants.{Entry, Fault, Claim, Sealed}
use Rattle.ext_model.specs.History.{History, Limits, slots_in, IsQuiet, IsLegal}
use Rattle.ext_model.specs.Closing.{IsClosed, kept_by, put_in, put_in_kept, remaining, IsKept, IsBelow, IsFalling, IsRemaining}
use Rattle.ext_history.proofs.Lists.{bools, contains_none, contains_here, contains_later, contains_cons}
use Rattle.ext_model.proofs.Standing.{is_sealed, none_after_seal}
use Rattle.ext_model.proofs.Claims.{quiet_slot}

pub data Order (m n : ℕ) : Type 0 where
  less : m < n → Order m n
  same : m ≡ n → Order m n
  more : n < m → Order m n

order : (m n : ℕ) → Order m n
order m n = elim (bools (nat_lt m n)) [
  | inl is ↦ let p : m < n = grind (arith, nat_tests) in less p
  | inr not_less ↦ elim (bools (m == n)) [
    | inl is ↦ same (eqb-true m n is)
    | inr differs ↦ let p : n < m = grind (arith, nat_tests) in more p
  ]
]

pub put_before : (number first : ℕ) (rest : List ℕ) → first < number → put_in number (first ∷ rest) ≡ number ∷ first ∷ rest
put_before number first rest p =
    let b : nat_lt first number ≡ true = grind (arith, nat_tests) in
    ap (λ c. if c then number ∷ first ∷ rest else if first == number then first ∷ rest else first ∷ put_in number rest) b

pub put_same : (number first : ℕ) (rest : List ℕ) → first ≡ number → put_in number (first ∷ rest) ≡ first ∷ rest
put_same number first rest p =
    let b : nat_lt first number ≡ false = grind (arith, nat_tests) in
    let e : (first == number) ≡ true = grind (arith, nat_tests) in
    ap (λ c. if c then number ∷ first ∷ rest else if first == number then first ∷ rest else first ∷ put_in number rest) b
    ∙ ap (λ c. if c then first ∷ rest else first ∷ put_in number rest) e

pub put_after : (number first : ℕ) (rest : List ℕ) → number < first → put_in number (first ∷ rest) ≡ first ∷ put_in number rest
put_after number first rest p =
    let b : nat_lt first number ≡ false = grind (arith, nat_tests) in
    let e : (first == number) ≡ false = grind (arith, nat_tests) in
    ap (λ c. if c then number ∷ first ∷ rest else if first == number then first ∷ rest else first ∷ put_in number rest) b
    ∙ ap (λ c. if c then first ∷ rest else first ∷ put_in number rest) e

-- ---- the list falls

put_below : (bound number : ℕ) (xs : List ℕ) → number < bound → IsBelow bound xs → IsBelow bound (put_in number xs)
put_below bound number [] p q = p
put_below bound number (first ∷ rest) p q = elim (order first number) [
  | less l ↦ subst (IsBelow bound) (sym (put_before number first rest l)) p
  | same e ↦ subst (IsBelow bound) (sym (put_same number first rest e)) q
  | more g ↦ subst (IsBelow bound) (sym (put_after number first rest g)) q
]

pub put_falls : (number : ℕ) (xs : List ℕ) → IsFalling xs → IsFalling (put_in number xs)
put_falls number [] falls = (tt, tt)
put_falls number (first ∷ rest) falls = elim (order first number) [
  | less l ↦ subst IsFalling (sym (put_before number first rest l)) (l, falls)
  | same e ↦ subst IsFalling (sym (put_same number first rest e)) falls
  | more g ↦ subst IsFalling (sym (put_after number first rest g)) (put_below first number rest g falls.0, put_falls number rest falls.1)
]

kept_falls : (kept : Option ℕ) (xs : List ℕ) → IsFalling xs → IsFalling (put_in_kept kept xs)
kept_falls None xs falls = falls
kept_falls (Some number) xs falls = put_falls number xs falls

pub remaining_falls : (slots : ℕ → Option Slot) (keys : ℕ) → IsFalling (remaining slots keys)
remaining_falls slots zero = tt
remaining_falls slots (suc keys) = kept_falls (kept_by (slots keys)) (remaining slots keys) (remaining_falls slots keys)

-- ---- what it contains

put_new : (number : ℕ) (xs : List ℕ) → Contains (put_in number xs) number
put_new number [] = contains_here number []
put_new number (first ∷ rest) = elim (order first number) [
  | less l ↦ subst (λ z. Contains z number) (sym (put_before number first rest l)) (contains_here number (first ∷ rest))
  | same e ↦ subst (λ z. Contains z number) (sym (put_same number first rest e)) (subst (λ k. Contains (first ∷ rest) k) e (contains_here first rest))
  | more g ↦ subst (λ z. Contains z number) (sym (put_after number first rest g)) (contains_later first (put_in number rest) number (put_new number rest))
]

put_old : (number other : ℕ) (xs : List ℕ) → Contains xs other → Contains (put_in number xs) other
put_old number other [] there = absurd (contains_none other there)
put_old number other (first ∷ rest) there = elim (order first number) [
  | less l ↦ subst (λ z. Contains z other) (sym (put_before number first rest l)) (contains_later number (first ∷ rest) other there)
  | same e ↦ subst (λ z. Contains z other) (sym (put_same number first rest e)) there
  | more g ↦ subst (λ z. Contains z other) (sym (put_after number first rest g)) (elim (contains_cons first rest other there) [
    | inl is ↦ subst (λ k. Contains (first ∷ put_in number rest) k) is (contains_here first (put_in number rest))
    | inr later ↦ contains_later first (put_in number rest) other (put_old number other rest later)
  ])
]

put_cases : (number other : ℕ) (xs : List ℕ) → Contains (put_in number xs) other → (number ≡ other) ⊎ Contains xs other
put_cases number other [] there = contains_cons number [] other there
put_cases number other (first ∷ rest) there = elim (order first number) [
  | less l ↦ contains_cons number (first ∷ rest) other (subst (λ z. Contains z other) (put_before number first rest l) there)
  | same e ↦ inr (subst (λ z. Contains z other) (put_same number first rest e) there)
  | more g ↦ elim (contains_cons first (put_in number rest) other (subst (λ z. Contains z other) (put_after number first rest g) there)) [
    | inl is ↦ inr (subst (λ k. Contains (first ∷ rest) k) is (contains_here first rest))
    | inr later ↦ elim (put_cases number other rest later) [
      | inl is ↦ inl is
      | inr old ↦ inr (contains_later first rest other old)
    ]
  ]
]

kept_cases : (kept : Option ℕ) (other : ℕ) (xs : List ℕ) → Contains (put_in_kept kept xs) other → (kept ≡ Some other) ⊎ Contains xs other
kept_cases None other xs there = inr there
kept_cases (Some number) other xs there = elim (put_cases number other xs there) [
  | inl is ↦ inl (ap Some is)
  | inr old ↦ inr old
]

kept_old : (kept : Option ℕ) (other : ℕ) (xs : List ℕ) → Contains xs other → Contains (put_in_kept kept xs) other
kept_old None other xs there = there
kept_old (Some number) other xs there = put_old number other xs there

kept_new : (kept : Option ℕ) (other : ℕ) (xs : List ℕ) → kept ≡ Some other → Contains (put_in_kept kept xs) other
kept_new kept other xs is = subst (λ k. Contains (put_in_kept k xs) other) (sym is) (put_new other xs)

sealed_with : (x : Option Slot) (number : ℕ) → kept_by x ≡ Some number → x ≡ Some (Sealed (Some number))
sealed_with None number is = absurd (cc is)
sealed_with (Some (Entry n)) number is = absurd (cc is)
sealed_with (Some (Fault n)) number is = absurd (cc is)
sealed_with (Some (Claim lane)) number is = absurd (cc is)
sealed_with (Some (Sealed kept)) number is = ap (λ k. Some (Sealed k)) is

pub remaining_kept : (slots : ℕ → Option Slot) (keys number : ℕ) → Contains (remaining slots keys) number → IsKept slots keys number
remaining_kept slots zero number there = absurd (contains_none number there)
remaining_kept slots (suc keys) number there = elim (kept_cases (kept_by (slots keys)) number (remaining slots keys) there) [
  | inl is ↦ (keys, omega arith, sealed_with (slots keys) number is)
  | inr old ↦ let r = remaining_kept slots keys number old in let below = r.1 in (r.0, omega (arith, below), r.2)
]

pub kept_remains : (slots : ℕ → Option Slot) (keys number key : ℕ) → key < keys → slots key ≡ Some (Sealed (Some number)) → Contains (remaining slots keys) number
kept_remains slots zero number key below is = absurd (omega (arith, below))
kept_remains slots (suc keys) number key below is = elim (order key keys) [
  | less l ↦ kept_old (kept_by (slots keys)) number (remaining slots keys) (kept_remains slots keys number key l is)
  | same e ↦ kept_new (kept_by (slots keys)) number (remaining slots keys) (ap kept_by (subst (λ k. slots k ≡ Some (Sealed (Some number))) e is))
  | more g ↦ absurd (omega (arith, below, g))
]

pub remaining_is_so : (slots : ℕ → Option Slot) (keys : ℕ) → IsRemaining slots keys (remaining slots keys)
remaining_is_so slots keys = record {
  kept = λ number. (remaining_kept slots keys number, λ k. kept_remains slots keys number k.0 k.1 k.2);
  falling = remaining_falls slots keys;
}

-- ---- one list

below_all : (bound : ℕ) (xs : List ℕ) (n : ℕ) → IsBelow bound xs → IsFalling xs → Contains xs n → n < bound
below_all bound [] n below falls there = absurd (contains_none n there)
below_all bound (x ∷ xs) n below falls there = elim (contains_cons x xs n there) [
  | inl is ↦ let b : x < bound = below in omega (arith, is, b)
  | inr later ↦ let b : x < bound = below in let r : n < x = below_all x xs n falls.0 falls.1 later in omega (arith, b, r)
]

not_first : (x n : ℕ) (xs : List ℕ) → n < x → Contains (x ∷ xs) n → Contains xs n
not_first x n xs less_than there = elim (contains_cons x xs n there) [
  | inl is ↦ absurd (omega (arith, is, less_than))
  | inr later ↦ later
]

at_most_first : (x n : ℕ) (xs : List ℕ) → IsFalling (x ∷ xs) → Contains (x ∷ xs) n → n ≤ x
at_most_first x n xs falls there = elim (contains_cons x xs n there) [
  | inl is ↦ omega (arith, is)
  | inr later ↦ let r : n < x = below_all x xs n falls.0 falls.1 later in omega (arith, r)
]

-- falling lists with the same numbers are one
pub one_falling : (xs ys : List ℕ) → IsFalling xs → IsFalling ys → ((n : ℕ) → Contains xs n → Contains ys n) → ((n : ℕ) → Contains ys n → Contains xs n) → xs ≡ ys
one_falling [] [] fx fy to from = refl
one_falling [] (y ∷ ys) fx fy to from = absurd (contains_none y (from y (contains_here y ys)))
one_falling (x ∷ xs) [] fx fy to from = absurd (contains_none x (to x (contains_here x xs)))
one_falling (x ∷ xs) (y ∷ ys) fx fy to from =
    let a : x ≤ y = at_most_first y x ys fy (to x (contains_here x xs)) in
    let b : y ≤ x = at_most_first x y xs fx (from y (contains_here y ys)) in
    let e : x ≡ y = omega (arith, a, b) in
    let r : xs ≡ ys = one_falling xs ys fx.1 fy.1
    (λ n there. let l : n < x = below_all x xs n fx.0 fx.1 there in not_first y n ys (omega (arith, l, e)) (to n (contains_later x xs n there)))
    (λ n there. let l : n < y = below_all y ys n fy.0 fy.1 there in not_first x n xs (omega (arith, l, e)) (from n (contains_later y ys n there))) in
    λ i. e i ∷ r i

pub remaining_is_one : (slots : ℕ → Option Slot) (keys : ℕ) (numbers : List ℕ) → IsRemaining slots keys numbers → numbers ≡ remaining slots keys
remaining_is_one slots keys numbers is =
    one_falling numbers (remaining slots keys) is.falling (remaining_falls slots keys)
    (λ n there. let k = (is.kept n).0 there in kept_remains slots keys n k.0 k.1 k.2)
    (λ n there. (is.kept n).1 (remaining_kept slots keys n there))

-- ---- afterwards

pub quiet_after_close : {limits : Limits} (h rest : History) (cell_of : ℕ → ℕ) (keys : ℕ) → IsLegal limits (h ++ rest) → IsClosed (slots_in cell_of h) keys → (key : ℕ) → key < keys → IsQuiet (cell_of key) rest
quiet_after_close h rest cell_of keys legal closed key below = let k = closed key below in none_after_seal h rest (cell_of key) legal (ap is_sealed k.1)

pub stays_closed : {limits : Limits} (h rest : History) (cell_of : ℕ → ℕ) (keys : ℕ) → IsLegal limits (h ++ rest) → IsClosed (slots_in cell_of h) keys → IsClosed (slots_in cell_of (h ++ rest)) keys
stays_closed h rest cell_of keys legal closed key below =
    let k = closed key below in
    (k.0, quiet_slot h rest (cell_of key) (quiet_after_close h rest cell_of keys legal closed key below) ∙ k.1)

same_remaining : (slots slots' : ℕ → Option Slot) (keys : ℕ) → ((key : ℕ) → key < keys → slots key ≡ slots' key) → remaining slots keys ≡ remaining slots' keys
same_remaining slots slots' zero same_at = refl
same_remaining slots slots' (suc keys) same_at = λ i. put_in_kept (kept_by (same_at keys (omega arith) i)) (same_remaining slots slots' keys (λ key below. same_at key (omega (arith, below))) i)

pub remaining_stays : {limits : Limits} (h rest : History) (cell_of : ℕ → ℕ) (keys : ℕ) → IsLegal limits (h ++ rest) → IsClosed (slots_in cell_of h) keys → remaining (slots_in cell_of (h ++ rest)) keys ≡ remaining (slots_in cell_of h) keys
remaining_stays h rest cell_of keys legal closed =
    same_remaining (slots_in cell_of (h ++ rest)) (slots_in cell_of h) keys (λ key below. quiet_slot h rest (cell_of key) (quiet_after_close h rest cell_of keys legal closed key below))
