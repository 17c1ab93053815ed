-- Laws of what lanes know, by which a reader may judge the definitions.
use Rattle.std.specs.Prelude.{ℕ, ◌≡◌, List, Some, None}
use Rattle.ext_values.specs.Slots.{IsNumber}
use Rattle.ext_values.specs.Known.{Known, AreNotesOf, Learns, known_at, nothing_known, slots_of}

-- A lane that starts with these slots knows them, but no value.
pub record NothingIsKnown (V : Type 0) : Type 0 where
  pub slots : (slots : List ℕ) → AreNotesOf slots (nothing_known {V = V} slots)
  pub values : (slots : List ℕ) (number : ℕ) → known_at (nothing_known {V = V} slots) number ≡ None

-- A number whose value is known has one of the slots.
abbrev pub KnownNumbersAreNumbers : Type 0 → Type 0
KnownNumbersAreNumbers V = (notes : List (Known V)) (number : ℕ) (value : V) → known_at notes number ≡ Some value
    → IsNumber (slots_of notes) number

-- Notes are determined by their slots and by what is known of each number.
abbrev pub NotesTell : Type 0 → Type 0
NotesTell V = (notes second : List (Known V)) → slots_of notes ≡ slots_of second
    → ((number : ℕ) → known_at notes number ≡ known_at second number) → notes ≡ second

-- What is known after a value was learnt is determined by what was known before.
abbrev pub LearningTells : Type 0 → Type 0
LearningTells V = (before after second : List (Known V)) (number : ℕ) (value : V) → Learns before after number value
    → Learns before second number value → after ≡ second
