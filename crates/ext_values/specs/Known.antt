-- What a lane knows of the values of all numbers: for each number, in order, the name of its slot, and the value
-- there, if known. A lane knows a value once it placed it or was shown it, and never forgets it.
use Rattle.std.specs.Prelude.{ℕ, zero, suc, ◌≡◌, ◌≢◌, Bool, List, map, Option, Some, None, is_some, slice_index_or}

pub record Known (V : Type 0) : Type 0 where
  pub slot : ℕ
  pub value : Option V

abbrev pub unknown : {V : Type 0} → ℕ → Known V
unknown slot = record { slot = slot; value = None }

abbrev pub nothing_known : {V : Type 0} → List ℕ → List (Known V)
nothing_known slots = map (λ slot. unknown slot) slots

abbrev pub slots_of : {V : Type 0} → List (Known V) → List ℕ
slots_of notes = map (λ known. known.slot) notes

-- The notes are about these slots.
abbrev pub AreNotesOf : {V : Type 0} → List ℕ → List (Known V) → Type 0
AreNotesOf slots notes = slots_of notes ≡ slots

-- The value of a number, if known. There is none for 0 and for numbers past the last slot.
abbrev pub known_at : {V : Type 0} → List (Known V) → ℕ → Option V
known_at notes zero = None
known_at notes (suc index) = (slice_index_or notes index (unknown 0)).value

-- For each number in order, whether its value is known.
abbrev pub are_known : {V : Type 0} → List (Known V) → List Bool
are_known notes = map (λ known. is_some known.value) notes

-- The lane learns this number's value, and nothing else.
pub record Learns {V : Type 0} (before after : List (Known V)) (number : ℕ) (value : V) : Type 0 where
  pub slots : slots_of after ≡ slots_of before
  pub learnt : known_at after number ≡ Some value
  pub others : (m : ℕ) → m ≢ number → known_at after m ≡ known_at before m

-- The lane learns the value of this number, whichever stands in its slot, and nothing else.
abbrev pub LearnsOne : {V : Type 0} → List (Known V) → List (Known V) → ℕ → Type 0
LearnsOne {V} before after number = (value : V) × Learns before after number value

-- What was known before is known afterwards.
abbrev pub KeepsKnown : {V : Type 0} → List (Known V) → List (Known V) → Type 0
KeepsKnown {V} before after = (number : ℕ) (value : V) → known_at before number ≡ Some value
    → known_at after number ≡ Some value

-- A number that both lists know has one value in both.
abbrev pub AllAgree : {V : Type 0} → List (Known V) → List (Known V) → Type 0
AllAgree {V} notes others = (number : ℕ) (value second : V) → known_at notes number ≡ Some value
    → known_at others number ≡ Some second → value ≡ second
