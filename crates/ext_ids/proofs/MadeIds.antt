-- `parts_fault`: parts make an id exactly where they have no fault, and an id with one part more has that part's.
use Rattle.std.proofs.Common.{◌≡◌, ◌≢◌, ℕ, ◌+◌, ◌<◌, ◌≤◌, Bool, true, false, ◌==◌, nat_le, if◌then◌else◌, List, [], ◌∷◌, ◌++◌, length, Option, Some, None, refl, ap, sym, ◌∙◌, arith}
use Rattle.std.specs.List.{AllByRecursion}
use Rattle.std.specs.Option.{option_or}
use Rattle.std.proofs.lemmas.Bool.{true≢false, leb-false, lt-leb, ne_eqb}
use Rattle.std.proofs.lemmas.Option.{none-some}
use Rattle.ext_ids.specs.Grammar.{Pair, IsFilled, IsId}
use Rattle.ext_ids.specs.Making.{fault_at, first_fault, parts_fault}
use Rattle.ext_ids.specs.declared.making.PartFault.{PartFault}
use Rattle.ext_ids.specs.declared.making.PartFault.TheVariants as faults

-- the three tests of a part, and what a part without a fault passes
abbrev tested : Bool → Bool → Bool → ℕ → Option PartFault
tested deep no_type no_value at = if deep then Some faults.TooMany else if no_type then Some (faults.NoType at) else if no_value then Some (faults.NoValue at) else None

all_pass : (deep no_type no_value : Bool) (at : ℕ) → tested deep no_type no_value at ≡ None → (deep ≡ false) × (no_type ≡ false) × (no_value ≡ false)
all_pass true no_type no_value at e = absurd (none-some _ (sym e))
all_pass false true no_value at e = absurd (none-some _ (sym e))
all_pass false false true at e = absurd (none-some _ (sym e))
all_pass false false false at e = (refl, refl, refl)

filled : (xs : List ℕ) → (length xs == 0) ≡ false → xs ≢ []
filled xs h none = true≢false (ap (λ ys. length ys == 0) (sym none) ∙ h)

not_empty : (xs : List ℕ) → xs ≢ [] → (length xs == 0) ≡ false
not_empty [] h = absurd (h refl)
not_empty (x ∷ xs) h = ne_eqb _ 0 (λ e. omega arith)

passes : (at : ℕ) (part : Pair) → fault_at at part ≡ None → (at < 16) × IsFilled part
passes at part e =
    let tests = all_pass (nat_le 16 at) (length part.0 == 0) (length part.1 == 0) at e in
    (leb-false 16 at tests.0, (filled part.0 tests.1, filled part.1 tests.2))

none_failed : (deep no_type no_value : Bool) (at : ℕ) → deep ≡ false → no_type ≡ false → no_value ≡ false → tested deep no_type no_value at ≡ None
none_failed deep no_type no_value at d t v = rw (d, t, v) refl

no_fault : (at : ℕ) (part : Pair) → at < 16 → IsFilled part → fault_at at part ≡ None
no_fault at part few h = none_failed _ _ _ at (lt-leb 16 at few) (not_empty part.0 h.0) (not_empty part.1 h.1)

-- parts of which the first would be segment `at`, and which have no fault
record Fits (at : ℕ) (parts : List Pair) : Type 0 where
  filled : AllByRecursion IsFilled parts
  few : 0 < length parts → at + length parts ≤ 16

both_none : (one two : Option PartFault) → option_or one two ≡ None → (one ≡ None) × (two ≡ None)
both_none None two e = (refl, e)
both_none (Some fault) two e = absurd (none-some _ (sym e))

few_of : (at : ℕ) (part : Pair) (others : List Pair) → at < 16 → (0 < length others → at + 1 + length others ≤ 16) → at + length (part ∷ others) ≤ 16
few_of at part [] small rest = omega arith
few_of at part (next ∷ others) small rest = let more = rest (omega arith) in omega arith

fits : (at : ℕ) (parts : List Pair) → first_fault at parts ≡ None → Fits at parts
fits at [] e = record { filled = tt; few = λ some. absurd (omega arith) }
fits at (part ∷ others) e =
    let none = both_none (fault_at at part) (first_fault (at + 1) others) e in
    let own = passes at part none.0 in
    let rest = fits (at + 1) others none.1 in
    record { filled = (own.1, rest.filled); few = λ some. few_of at part others own.0 rest.few }

unfaulted : (at : ℕ) (parts : List Pair) → AllByRecursion IsFilled parts → at + length parts ≤ 16 → first_fault at parts ≡ None
unfaulted at [] h few = refl
unfaulted at (part ∷ others) h few =
    ap (λ f. option_or f (first_fault (at + 1) others)) (no_fault at part (omega arith) h.0) ∙ unfaulted (at + 1) others h.1 (omega arith)

pub is_id : (parts : List Pair) → parts_fault parts ≡ None → IsId parts
is_id [] e = absurd (none-some _ (sym e))
is_id (part ∷ others) e =
    let f = fits 0 (part ∷ others) e in
    record { some = omega arith; few = let few = f.few (omega arith) in omega arith; filled = f.filled }

pub fault_free : (parts : List Pair) → IsId parts → parts_fault parts ≡ None
fault_free [] h = absurd (let some = h.some in omega arith)
fault_free (part ∷ others) h = unfaulted 0 (part ∷ others) h.filled (let few = h.few in omega arith)

alone : (one : Option PartFault) → option_or one None ≡ one
alone None = refl
alone (Some fault) = refl

with_last : (at : ℕ) (front : List Pair) (last : Pair) → AllByRecursion IsFilled front → at + length front ≤ 16 → first_fault at (front ++ last ∷ []) ≡ fault_at (at + length front) last
with_last at [] last h few = let none : at ≡ at + 0 = omega arith in alone (fault_at at last) ∙ ap (λ n. fault_at n last) none
with_last at (part ∷ front) last h few =
    let rest = with_last (at + 1) front last h.1 (omega arith) in
    let count : at + 1 + length front ≡ at + length (part ∷ front) = omega arith in
    ap (λ f. option_or f (first_fault (at + 1) (front ++ last ∷ []))) (no_fault at part (omega arith) h.0) ∙ rest ∙ ap (λ n. fault_at n last) count

-- the fault of an id with one part more is that part's
pub one_more : (id : List Pair) (last : Pair) → IsId id → parts_fault (id ++ last ∷ []) ≡ fault_at (length id) last
one_more [] last h = absurd (let some = h.some in omega arith)
one_more (part ∷ front) last h =
    let count : 0 + length (part ∷ front) ≡ length (part ∷ front) = omega arith in
    with_last 0 (part ∷ front) last h.filled (let few = h.few in omega arith) ∙ ap (λ n. fault_at n last) count
