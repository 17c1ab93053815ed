-- The word of a cell by its three parts, and the word after an act, read off the word alone. `CellWords` of ext_model
-- lays out the parts in the 64 bits, and gives a cell's word after a history.
use Rattle.std.specs.Prelude.{◌≡◌, ◌≢◌, ℕ, ◌+◌, ◌-◌, ◌/◌, ◌%◌, ◌^◌, ◌<◌, Bool, true, false, if◌then◌else◌, Option, Some, None, Result, Ok, Err}
use Rattle.ext_model.specs.declared.event.Act.{Act}
use Rattle.ext_model.specs.declared.event.Act.TheVariants.{Keep, Put, Remove, Claim, Fill, Fail, Abandon, Seal}
use Rattle.ext_model.specs.Events.{is_worn, is_worn_for_claim}
use Rattle.ext_model.specs.CellWords as words
use Rattle.ext_cells.specs.declared.cell_state.CellState.{CellState}
use Rattle.ext_cells.specs.declared.cell_state.CellState.TheVariants.{Empty, Computing, Present, Sealed, Failed}
use Rattle.ext_cells.specs.declared.refusal.CellRefusal.{CellRefusal}
use Rattle.ext_cells.specs.declared.refusal.CellRefusal.TheVariants.{Busy, Closed, Exhausted}

-- The state in bits 0 to 3.
abbrev pub code : CellState → ℕ
code Empty = 0
code Computing = 1
code Present = 2
code Sealed = 3
code Failed = 4

-- The word of a state, a number below 2 ^ 20 and a version below 2 ^ 40.
abbrev pub word_with : CellState → ℕ → ℕ → ℕ
word_with state number version = words.word (code state) number version

-- Bits 0 to 3 of the word are one of the five states.
abbrev pub HasState : ℕ → Type 0
HasState word = word % 16 < 5

-- Nothing stands in the cell with this word.
abbrev pub IsEmptyWord : ℕ → Type 0
IsEmptyWord word = word % 16 ≡ 0

abbrev pub version_in : ℕ → ℕ
version_in word = word / 2 ^ 24

-- ---- the word after an act

-- The number that a seal keeps of what it found. It keeps none for a fault.
abbrev pub sealed_number : CellState → ℕ → ℕ
sealed_number Empty number = number
sealed_number Computing number = number
sealed_number Present number = number
sealed_number Sealed number = number
sealed_number Failed number = 0

-- The word that an act leaves, by the state, number and version that it found. Each event raises the version by one. A
-- claim, an abandon and a remove leave no number; a put, a fill and a fail leave their own; a seal leaves the one that
-- stood, unless it was a fault's. A keep has no cell and leaves no word.
abbrev pub next_word : Act ℕ → CellState → ℕ → ℕ → ℕ
next_word (Keep drawn) state number version = 0
next_word (Put at stored) state number version = word_with Present stored (version + 1)
next_word (Remove at) state number version = word_with Empty 0 (version + 1)
next_word (Claim at) state number version = word_with Computing 0 (version + 1)
next_word (Fill at stored) state number version = word_with Present stored (version + 1)
next_word (Fail at stored) state number version = word_with Failed stored (version + 1)
next_word (Abandon at) state number version = word_with Empty 0 (version + 1)
next_word (Seal at) state number version = word_with Sealed (sealed_number state number) (version + 1)

-- A fill, a fail and an abandon end a claim.
abbrev pub ends_claim : Act ℕ → Bool
ends_claim (Keep number) = false
ends_claim (Put at number) = false
ends_claim (Remove at) = false
ends_claim (Claim at) = false
ends_claim (Fill at number) = true
ends_claim (Fail at number) = true
ends_claim (Abandon at) = true
ends_claim (Seal at) = false

-- No version is left for the act. A put and a remove must leave one for the seal, a claim two: for its end and for the
-- seal.
abbrev pub is_worn_by : Act ℕ → ℕ → Bool
is_worn_by (Keep number) version = false
is_worn_by (Put at number) version = is_worn version
is_worn_by (Remove at) version = is_worn version
is_worn_by (Claim at) version = is_worn_for_claim version
is_worn_by (Fill at number) version = false
is_worn_by (Fail at number) version = false
is_worn_by (Abandon at) version = false
is_worn_by (Seal at) version = false

abbrev pub exhausted_if : Bool → Option CellRefusal
exhausted_if true = Some Exhausted
exhausted_if false = None

-- Why the act is refused in this state at this version. A claim comes first, and only its end gets past it; then a
-- seal; then the versions.
abbrev pub refusal_in : CellState → ℕ → Act ℕ → Option CellRefusal
refusal_in Empty version act = exhausted_if (is_worn_by act version)
refusal_in Computing version act = if ends_claim act then None else Some Busy
refusal_in Present version act = exhausted_if (is_worn_by act version)
refusal_in Sealed version act = Some Closed
refusal_in Failed version act = exhausted_if (is_worn_by act version)

abbrev pub unless : Option CellRefusal → ℕ → Result ℕ CellRefusal
unless None next = Ok next
unless (Some refusal) next = Err refusal

-- The word after the act, or why it is refused.
abbrev pub after_word : Act ℕ → CellState → ℕ → ℕ → Result ℕ CellRefusal
after_word act state number version = unless (refusal_in state version act) (next_word act state number version)

-- What must hold before an act is tried on a cell in this state at this version. A fill, a fail and an abandon end a
-- claim; there is something to remove, or no seal yet; a claim finds no number; and the number and the version fit
-- their bits.
abbrev pub Suits : Act ℕ → CellState → ℕ → Type 0
Suits (Keep number) state version = ⊥
Suits (Put at number) state version = number < 2 ^ 20
Suits (Remove at) state version = state ≢ Empty
Suits (Claim at) state version = (state ≢ Present) × (state ≢ Failed)
Suits (Fill at number) state version = (state ≡ Computing) × (number < 2 ^ 20) × (version < 2 ^ 40 - 1)
Suits (Fail at number) state version = (state ≡ Computing) × (number < 2 ^ 20) × (version < 2 ^ 40 - 1)
Suits (Abandon at) state version = (state ≡ Computing) × (version < 2 ^ 40 - 1)
Suits (Seal at) state version = (state ≢ Sealed) × (version < 2 ^ 40 - 1)
