-- What a call does next, by the word that it found: what stands there and the version determine the reply of one
-- thread. No public contract cites it.
use Rattle.std.specs.Prelude.{◌≡◌, ◌≢◌, ℕ, ◌+◌, ◌==◌, ◌≤◌, ◌^◌, ◌<◌, Bool, true, false, if◌then◌else◌, Option, Some, None, Ok, Err}
use Rattle.ext_model.specs.declared.event.Act.{Act}
use Rattle.ext_model.specs.declared.event.Act.TheVariants.{Keep, Put, Remove, Claim, Fill, Fail, Abandon, Seal}
use Rattle.ext_model.specs.declared.slot.Slot.{Slot}
use Rattle.ext_model.specs.declared.slot.Slot.TheVariants as slot
use Rattle.ext_model.specs.Events as events
use Rattle.ext_model.specs.Plain.{what_stood}
use Rattle.ext_model.specs.CellWords.{number_code, slot_word}
use Rattle.ext_cells.specs.declared.cell_state.CellState.{CellState}
use Rattle.ext_cells.specs.declared.cell_state.CellState.TheVariants.{Empty, Computing, Present, Sealed, Failed}
use Rattle.ext_cells.specs.declared.decision.Decision.{Decision}
use Rattle.ext_cells.specs.declared.decision.Decision.TheVariants.{Change, Done}
use Rattle.ext_cells.specs.WordChanges.{word_with}
use Rattle.ext_cells.specs.CellCalls.{result_of}
use Rattle.ext_cells.specs.declared.stood.Stood.{Stood}
use Rattle.ext_cells.specs.declared.stood.Stood.TheVariants.{Nothing, Value, Fault}
use Rattle.ext_cells.specs.InnerSteps.{answer_to, idle_reply}

abbrev pub state_of : Option Slot → CellState
state_of None = Empty
state_of (Some (slot.Entry number)) = Present
state_of (Some (slot.Fault number)) = Failed
state_of (Some (slot.Claim lane)) = Computing
state_of (Some (slot.Sealed kept)) = Sealed

-- A number that stands is not 0, which in a word means that there is none.
abbrev pub IsNumbered : Option Slot → Type 0
IsNumbered None = Unit {0}
IsNumbered (Some (slot.Entry number)) = 1 ≤ number
IsNumbered (Some (slot.Fault number)) = 1 ≤ number
IsNumbered (Some (slot.Claim lane)) = Unit {0}
IsNumbered (Some (slot.Sealed None)) = Unit {0}
IsNumbered (Some (slot.Sealed (Some number))) = 1 ≤ number

-- The word of what stands, at a version that leaves room for a seal.
pub record IsCellWord (stands : Option Slot) (version word : ℕ) : Type 0 where
  pub is : word ≡ word_with (state_of stands) (number_code stands) version
  pub fits : number_code stands < 2 ^ 20
  pub numbered : IsNumbered stands
  pub room : state_of stands ≢ Sealed → version + 1 < 2 ^ 40

-- What stood at a cell, or what its seal keeps, by the state and the number in its word, where 0 is no number.
abbrev pub stood_in : CellState → ℕ → Stood
stood_in Empty number = Nothing
stood_in Computing number = Nothing
stood_in Present number = Value number
stood_in Sealed number = if number == 0 then Nothing else Value number
stood_in Failed number = Fault number

-- The act has nothing to do in this state: a remove finds nothing, a claim a number, or a seal another seal.
abbrev pub is_settled : Act ℕ → CellState → Bool
is_settled (Remove at) Empty = true
is_settled (Claim at) Present = true
is_settled (Claim at) Failed = true
is_settled (Seal at) Sealed = true
is_settled act state = false

-- A put of a number that fits its bits, a remove, a claim or a seal.
abbrev pub IsChange : Act ℕ → Type 0
IsChange (Keep number) = ⊥
IsChange (Put at number) = number < 2 ^ 20
IsChange (Remove at) = Unit {0}
IsChange (Claim at) = Unit {0}
IsChange (Fill at number) = ⊥
IsChange (Fail at number) = ⊥
IsChange (Abandon at) = ⊥
IsChange (Seal at) = Unit {0}

-- What one thread replies to these, by what stands and by the version. It is the reply of a store in which every cell
-- is like this one.
abbrev pub reply_on : Act ℕ → Option Slot → ℕ → events.Reply
reply_on act stands version = events.reply 0 (λ at. version) (record { slots = λ at. stands; drawn = 0 }) 0 act

-- The decision is right: the event it makes happens and leaves this word, or one thread gives this answer without an
-- event.
abbrev pub Decides : Act ℕ → Option Slot → ℕ → Decision → Type 0
Decides act stands version (Change next stood) = (reply_on act stands version ≡ events.Happens (answer_to act stood))
    × ((lane : ℕ) → next ≡ slot_word (events.slot_after lane act stands) (version + 1))
Decides act stands version (Done (Ok stood)) = reply_on act stands version ≡ idle_reply act stood
Decides act stands version (Done (Err why)) = (result_of what_stood (reply_on act stands version) ≡ Err why)

abbrev pub IsSeal : Act ℕ → Type 0
IsSeal (Keep number) = ⊥
IsSeal (Put at number) = ⊥
IsSeal (Remove at) = ⊥
IsSeal (Claim at) = ⊥
IsSeal (Fill at number) = ⊥
IsSeal (Fail at number) = ⊥
IsSeal (Abandon at) = ⊥
IsSeal (Seal at) = Unit {0}
