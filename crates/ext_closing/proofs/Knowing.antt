-- A lane that is shown what it knows already stays as it was.
use Rattle.std.proofs.Common.{◌≡◌, ◌<◌, ℕ, zero, suc, List, [], ◌∷◌, length, get_or, refl, ap, sym, ◌∙◌, arith, Option, None, Some}
use Rattle.std.proofs.Math.ListN.{set}
use Rattle.std.specs.Prelude.{is_some, true}
use Rattle.ext_values.specs.Known.{Known, KeepsKnown, Learns, known_at}
use Rattle.ext_values.proofs.NotesLaws.{learning_tells}
use Rattle.ext_store.specs.Stores.{StoreLane}

pub is_there : {V : Type 0} (o : Option V) → is_some o ≡ true → (value : V) × (o ≡ Some value)
is_there None some = absurd (cc some)
is_there (Some value) some = (value, refl)

module _ {V : Type 0} (before after : List (Known V)) (number : ℕ) (value : V) (knows : is_some (known_at before number) ≡ true) (keeps : KeepsKnown before after) (learns : Learns before after number value) where
  knew : known_at before number ≡ Some value
  knew = let it = is_there (known_at before number) knows in it.1 ∙ sym (keeps number it.0 it.1) ∙ learns.learnt

  pub nothing_learnt : after ≡ before
  nothing_learnt = learning_tells before after before number value learns (record { slots = refl; learnt = knew; others = λ m differs. refl })

pub set_back : {A : Type 0} (xs : List A) (i : ℕ) (y d : A) → y ≡ get_or xs i d → i < length xs → set xs i y ≡ xs
set_back [] i y d same within = absurd (omega (arith, within))
set_back (x ∷ xs) zero y d same within = ap (λ z. z ∷ xs) same
set_back (x ∷ xs) (suc i) y d same within = ap (λ zs. x ∷ zs) (set_back xs i y d same (omega (arith, within)))

same_lane : {V : Type 0} (before after : StoreLane V) → after.cells ≡ before.cells → after.known ≡ before.known → after.faults ≡ before.faults → after.keys ≡ before.keys → after ≡ before
same_lane before after cells known faults keys = λ i. record { cells = cells i; known = known i; faults = faults i; keys = keys i }

-- so the lanes stay as they were where one of them is shown what it knows
pub shown_back : {V : Type 0} (lanes : List (StoreLane V)) (at : ℕ) (d after : StoreLane V) (number : ℕ) (value : V) → at < length lanes → ((lane : StoreLane V) → is_some (known_at (get_or lanes at lane).known number) ≡ true)
    → KeepsKnown (get_or lanes at d).known after.known → Learns (get_or lanes at d).known after.known number value → after.cells ≡ (get_or lanes at d).cells → after.faults ≡ (get_or lanes at d).faults → after.keys ≡ (get_or lanes at d).keys → set lanes at after ≡ lanes
shown_back lanes at d after number value within knows keeps learns cells faults keys =
    set_back lanes at after d (same_lane (get_or lanes at d) after cells (nothing_learnt (get_or lanes at d).known after.known number value (knows d) keeps learns) faults keys) within
