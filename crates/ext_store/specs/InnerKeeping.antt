-- Why no number is drawn, and what becomes of a value whose number was: the last part of `keep` and of `keep_wait`. No
-- public contract cites it.
use Rattle.std.specs.Prelude.{ℕ, ◌≡◌, List, Result, Ok, Err, None, MatchResult}
use Rattle.ext_values.specs.Known.{Known, KeepsKnown, Learns, LearnsOne, known_at}
use Rattle.ext_cells.specs.declared.refusal.CellRefusal.{CellRefusal}
use Rattle.ext_cells.specs.declared.refusal.CellRefusal.TheVariants as cell
use Rattle.ext_store.specs.declared.fault.KeepFault.{KeepFault}
use Rattle.ext_store.specs.declared.fault.KeepFault.TheVariants as fault

-- Drawing a number is refused only for these.
abbrev pub IsOfCount : CellRefusal → Type 0
IsOfCount cell.NumbersFull = Unit {0}
IsOfCount cell.Contended = Unit {0}
IsOfCount cell.Busy = ⊥
IsOfCount cell.Closed = ⊥
IsOfCount cell.Exhausted = ⊥
IsOfCount cell.Memory = ⊥
IsOfCount cell.BadLimit = ⊥

-- What `keep` says then. The last five do not come.
abbrev pub keep_fault : CellRefusal → KeepFault
keep_fault cell.NumbersFull = fault.NumbersFull
keep_fault cell.Contended = fault.Contended
keep_fault cell.Busy = fault.Contended
keep_fault cell.Closed = fault.Contended
keep_fault cell.Exhausted = fault.Contended
keep_fault cell.Memory = fault.Contended
keep_fault cell.BadLimit = fault.Contended

-- The number, whose value was not known before, has this value.
pub record IsInSlot {V : Type 0} (value : V) (before after : List (Known V)) (number : ℕ) : Type 0 where
  pub learnt : Learns before after number value
  pub free : known_at before number ≡ None
  pub known : KeepsKnown before after

-- The drawn number has the value, or the value comes back. It comes back if no number was drawn, and then the lane
-- learns nothing; or if the number's slot has another value, which the lane learns.
abbrev pub SlotsDrawn : {V : Type 0} → V → Result ℕ CellRefusal → List (Known V) → List (Known V)
    → Result ℕ (V × KeepFault) → Type 0
SlotsDrawn value drawn before after (Ok number) = (drawn ≡ Ok number) × IsInSlot value before after number
SlotsDrawn value drawn before after (Err (back, why)) =
    (back ≡ value)
    × MatchResult drawn (λ number. (why ≡ fault.Unplaced) × LearnsOne before after number × KeepsKnown before after)
    (λ refused. (why ≡ keep_fault refused) × (after ≡ before))
