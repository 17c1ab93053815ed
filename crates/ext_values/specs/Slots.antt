-- Slots for values, their numbers, and what a note of a number says. JUnit 5 keeps values in a store's map under their
-- keys (User Guide, "Keeping State in Extensions"). Here each value has a slot of its own, which is set once and which
-- any thread finds by its number, and the store has that number under the key.
use Rattle.std.specs.Prelude.{ℕ, ◌≡◌, ◌-◌, ◌<◌, ◌≤◌, List, length, Option, slice_index}

-- How many slots there may be; 0 is allowed.
abbrev pub IsCapacity : ℕ → Type 0
IsCapacity capacity = capacity ≤ 1048575

-- Numbers begin at 1. Slots are listed by their names, in the order of their numbers.
abbrev pub IsNumber : List ℕ → ℕ → Type 0
IsNumber slots number = (0 < number) × (number ≤ length slots)

-- The name of the slot with this number.
abbrev pub slot_of : List ℕ → ℕ → ℕ
slot_of slots number = slice_index slots (number - 1)

-- What a note says: a number, the name of its slot, and the value there.
pub record Shown (V : Type 0) : Type 0 where
  pub number : ℕ
  pub slot : ℕ
  pub value : Option V

-- The note is about one of these slots, and has its name right.
pub record IsNoteOf {V : Type 0} (slots : List ℕ) (note : Shown V) : Type 0 where
  pub number : IsNumber slots note.number
  pub slot : note.slot ≡ slot_of slots note.number
