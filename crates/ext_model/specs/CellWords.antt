-- A cell as one word of 64 bits: what stands there, and how many events the cell has had.
-- Bits 0 to 3 are the state: 0 empty, 1 being computed (a claim), 2 present (a value's number), 3 sealed, 4 failed (a
-- kept fault's number). Bits 4 to 23 are the number that stands there or that a seal keeps, 0 if there is none. Bits 24
-- to 63 are the version. A cell without events has word 0.
use Rattle.std.specs.Prelude.{ℕ, ◌+◌, ◌*◌, ◌^◌, Option, None, Some, unwrap_or}
use Rattle.ext_model.specs.declared.slot.Slot.{Slot}
use Rattle.ext_model.specs.declared.slot.Slot.TheVariants.{Entry, Fault, Claim, Sealed}
use Rattle.ext_model.specs.History.{History, state_after, version_of}

abbrev pub state_code : Option Slot → ℕ
state_code None = 0
state_code (Some (Claim lane)) = 1
state_code (Some (Entry number)) = 2
state_code (Some (Fault number)) = 4
state_code (Some (Sealed kept)) = 3

abbrev pub number_code : Option Slot → ℕ
number_code None = 0
number_code (Some (Claim lane)) = 0
number_code (Some (Entry number)) = number
number_code (Some (Fault number)) = number
number_code (Some (Sealed kept)) = unwrap_or kept 0

-- `number` is below 2 ^ 20 and `version` below 2 ^ 40.
abbrev pub word : ℕ → ℕ → ℕ → ℕ
word state number version = version * 2 ^ 24 + number * 16 + state

abbrev pub slot_word : Option Slot → ℕ → ℕ
slot_word slot version = word (state_code slot) (number_code slot) version

-- The cell's word after a history.
abbrev pub word_of : History → ℕ → ℕ
word_of h cell = slot_word ((state_after h).slots cell) (version_of h cell)
