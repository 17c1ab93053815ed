-- When each act may be an event, act by act: `IsAllowed` of `History` as a table. `history_laws` proves that the two
-- agree; contracts of a lane's steps cite this one.
use Rattle.std.specs.Prelude.{ℕ, ◌≡◌, ◌+◌, ◌-◌, ◌^◌, ◌<◌, ◌≤◌, IsTrue, Option, None, Some}
use Rattle.ext_model.specs.declared.event.Act.{Act}
use Rattle.ext_model.specs.declared.event.Act.TheVariants.{Keep, Put, Remove, Claim, Fill, Fail, Abandon, Seal}
use Rattle.ext_model.specs.declared.slot.Slot.{Slot}
use Rattle.ext_model.specs.declared.slot.Slot.TheVariants as slot
use Rattle.ext_model.specs.History.{History, Limits, state_after, version_of}
use Rattle.ext_model.specs.CallActs.{MayStore}

-- Neither a claim nor a seal stands there.
abbrev pub IsOpen : Option Slot → Type 0
IsOpen None = Unit {0}
IsOpen (Some (slot.Entry number)) = Unit {0}
IsOpen (Some (slot.Fault number)) = Unit {0}
IsOpen (Some (slot.Claim lane)) = ⊥
IsOpen (Some (slot.Sealed kept)) = ⊥

-- The number of a value or of a kept fault stands there.
abbrev pub IsPresent : Option Slot → Type 0
IsPresent None = ⊥
IsPresent (Some (slot.Entry number)) = Unit {0}
IsPresent (Some (slot.Fault number)) = Unit {0}
IsPresent (Some (slot.Claim lane)) = ⊥
IsPresent (Some (slot.Sealed kept)) = ⊥

-- The greatest version at which a cell still takes a put or a remove. It leaves one version for the seal.
abbrev pub last_change : ℕ
last_change = 2 ^ 40 - 3

-- The greatest version at which a cell still takes a claim. It leaves one for the claim's end and one for the seal.
abbrev pub last_claim : ℕ
last_claim = 2 ^ 40 - 4

-- What stands in the store after these events lets the lane do the act next.
abbrev pub Permits : Limits → History → ℕ → Act ℕ → Type 0
Permits limits h lane (Keep number) = (number ≡ (state_after h).drawn + 1) × (number ≤ limits.numbers)
Permits limits h lane (Put at number) = (at < limits.cells) × IsOpen ((state_after h).slots at)
    × (version_of h at ≤ last_change) × MayStore lane number h
Permits limits h lane (Remove at) = (at < limits.cells) × IsPresent ((state_after h).slots at)
    × (version_of h at ≤ last_change)
Permits limits h lane (Claim at) = (at < limits.cells) × ((state_after h).slots at ≡ None)
    × (version_of h at ≤ last_claim)
Permits limits h lane (Fill at number) = (at < limits.cells) × ((state_after h).slots at ≡ Some (slot.Claim lane))
    × MayStore lane number h
Permits limits h lane (Fail at number) = (at < limits.cells) × ((state_after h).slots at ≡ Some (slot.Claim lane))
    × MayStore lane number h × IsTrue limits.keep_faults
Permits limits h lane (Abandon at) = (at < limits.cells) × ((state_after h).slots at ≡ Some (slot.Claim lane))
Permits limits h lane (Seal at) = (at < limits.cells) × IsOpen ((state_after h).slots at)

-- A lane of the store may do the act next.
abbrev pub MayHappen : Limits → History → ℕ → Act ℕ → Type 0
MayHappen limits h lane act = (lane < limits.lanes) × Permits limits h lane act
