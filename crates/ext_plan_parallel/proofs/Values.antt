-- What a lane stored: the numbers of values by its own puts and fills, and those of faults by its own failed claims.
use Rattle.std.proofs.Common.{◌≡◌, inl, inr, ℕ, true, List, [], ◌∷◌, ◌++◌, Contains, Option, Some, None, ap, sym, subst, ◌∙◌, append-nil, nat_eq}
use Rattle.std.specs.Prelude.{find, is_some}
use Rattle.std.specs.List.{filter_map}
use Rattle.std.proofs.lemmas.List.Elements.{Contains-append_left, Contains-push, filter_map-append}
use Rattle.ext_history.proofs.Lists.{bools}
use Rattle.ext_history.specs.Histories as histories
use Rattle.ext_history.specs.Histories.{seen_by}
use Rattle.ext_history.proofs.Legal.{legal_steps}
use Rattle.ext_model.specs.declared.event.Act.{Act}
use Rattle.ext_model.specs.declared.event.Act.TheVariants.{Keep, Put, Remove, Claim, Fill, Fail, Abandon, Seal}
use Rattle.ext_model.specs.declared.event.Event.{Event}
use Rattle.ext_model.specs.declared.look.Look.TheVariants as look
use Rattle.ext_model.specs.declared.slot.Slot.{Slot}
use Rattle.ext_model.specs.declared.slot.Slot.TheVariants as slot
use Rattle.ext_model.specs.CallActs.{look_after, LaneView, events_by}
use Rattle.ext_model.specs.Events.{is_on, slot_after}
use Rattle.ext_model.specs.History.{History, Limits, IsAllowed, IsLegal, lane_of, own, slots_in, state_after}
use Rattle.ext_model.specs.State.{look_at, look_in, standing_value}
use Rattle.ext_model.proofs.Claims.{same_cell, slot_off, slot_on}

-- ---- what an act stores

-- a cell, and the value or the fault that was stored there by its number
abbrev pub Stored : Type 0
Stored = ℕ × Slot

-- what an act stores, if it stores a number
abbrev pub slot_stored : Act ℕ → Option Stored
slot_stored (Keep number) = None
slot_stored (Put cell number) = Some (cell, slot.Entry number)
slot_stored (Remove cell) = None
slot_stored (Claim cell) = None
slot_stored (Fill cell number) = Some (cell, slot.Entry number)
slot_stored (Fail cell number) = Some (cell, slot.Fault number)
slot_stored (Abandon cell) = None
slot_stored (Seal cell) = None

abbrev pub stored_in : History → List Stored
stored_in h = filter_map (λ e. slot_stored e.act) h

-- what the lane stored itself
abbrev pub own_stored : LaneView → List Stored
own_stored lane = stored_in (own lane.number (seen_by lane))

pub calls_stored : (a b : LaneView) (acts : List (Act ℕ)) → histories.Calls lane_of a b (events_by a.number acts) → own_stored b ≡ own_stored a ++ stored_in (events_by a.number acts)
calls_stored a b acts calls =
    let number : b.number ≡ a.number = ap (λ (l : LaneView). l.number) calls.fronts in
    ap (λ n. stored_in (own n (seen_by b))) number ∙ (ap stored_in calls.own_events ∙ filter_map-append (λ (e : Event ℕ). slot_stored e.act) (own a.number (seen_by a)) (events_by a.number acts))

-- acts that store none
pub calls_quiet : (a b : LaneView) (acts : List (Act ℕ)) → histories.Calls lane_of a b (events_by a.number acts) → stored_in (events_by a.number acts) ≡ [] → own_stored b ≡ own_stored a
calls_quiet a b acts calls none = calls_stored a b acts calls ∙ (ap (λ l. own_stored a ++ l) none ∙ append-nil (own_stored a))

-- ---- what stands was stored

-- a number stands so
abbrev pub IsNumber : Slot → Type 0
IsNumber (slot.Entry number) = Unit {0}
IsNumber (slot.Fault number) = Unit {0}
IsNumber (slot.Claim lane) = ⊥
IsNumber (slot.Sealed kept) = ⊥

-- an event of the history stored this in the cell
pub record WasStored (h : History) (cell : ℕ) (s : Slot) : Type 0 where
  pub event : Event ℕ
  pub among : Contains h event
  pub stores : slot_stored event.act ≡ Some (cell, s)

at_cell : (at cell : ℕ) (one other : Slot) → nat_eq at cell ≡ true → Some one ≡ Some other → ◌≡◌ {A = Option Stored} (Some (at, one)) (Some (cell, other))
at_cell at cell one other on is = let e : one ≡ other = cc is in ap (λ (x : Stored). Some x) (λ i. (same_cell at cell on i, e i))

left_by : (lane cell : ℕ) (s : Slot) (act : Act ℕ) (old : Option Slot) → IsNumber s → is_on nat_eq cell act ≡ true → slot_after lane act old ≡ Some s → slot_stored act ≡ Some (cell, s)
left_by lane cell s (Keep number) old some on is = absurd (cc on)
left_by lane cell s (Put at number) old some on is = at_cell at cell (slot.Entry number) s on is
left_by lane cell s (Remove at) old some on is = absurd (cc is)
left_by lane cell s (Claim at) old some on is = absurd (let e : slot.Claim lane ≡ s = cc is in subst IsNumber (sym e) some)
left_by lane cell s (Fill at number) old some on is = at_cell at cell (slot.Entry number) s on is
left_by lane cell s (Fail at number) old some on is = at_cell at cell (slot.Fault number) s on is
left_by lane cell s (Abandon at) old some on is = absurd (cc is)
left_by lane cell s (Seal at) old some on is = absurd (let e : slot.Sealed (standing_value old) ≡ s = cc is in subst IsNumber (sym e) some)

abbrev AllStored : History → Type 0
AllStored h = (cell : ℕ) (s : Slot) → IsNumber s → (state_after h).slots cell ≡ Some s → WasStored h cell s

stored_step : {limits : Limits} (before : History) (e : Event ℕ) → IsAllowed limits before e → AllStored before → AllStored (before ++ e ∷ [])
stored_step before e allowed old cell s some is = elim (bools (is_on nat_eq cell e.act)) [
  | inl on ↦ record { event = e; among = Contains-push before e; stores = left_by e.lane cell s e.act ((state_after before).slots cell) some on (sym (slot_on before e cell on) ∙ is) }
  | inr off ↦
      let was = old cell s some (sym (slot_off before e cell off) ∙ is) in
      record { event = was.event; among = Contains-append_left before (e ∷ []) was.event was.among; stores = was.stores }
]

pub was_stored : {limits : Limits} (h : History) (cell : ℕ) (s : Slot) → IsNumber s → IsLegal limits h → (state_after h).slots cell ≡ Some s → WasStored h cell s
was_stored h cell s some legal is = legal_steps AllStored stored_step [] h legal (λ c n any none. absurd (cc none)) cell s some is

-- a value that a look-up finds stands in the context that is named
found_in : (context : ℕ) (x : Option Slot) (at number : ℕ) → look_in context x ≡ look.Found at number → (context ≡ at) × (x ≡ Some (slot.Entry number))
found_in context None at number is = absurd (cc is)
found_in context (Some (slot.Entry n)) at number is = (cc is, cc is)
found_in context (Some (slot.Fault n)) at number is = absurd (cc is)
found_in context (Some (slot.Claim lane)) at number is = absurd (cc is)
found_in context (Some (slot.Sealed kept)) at number is = absurd (cc is)

found_at : (slots : ℕ → Option Slot) (o : Option ℕ) (at number : ℕ) → look_at slots o ≡ look.Found at number → slots at ≡ Some (slot.Entry number)
found_at slots None at number is = absurd (cc is)
found_at slots (Some context) at number is = let f = found_in context (slots context) at number is in subst (λ c. slots c ≡ Some (slot.Entry number)) f.0 f.1

pub found_stands : (cell_of : ℕ → ℕ) (path : List ℕ) (h : History) (at number : ℕ) → look_after cell_of path h ≡ look.Found at number → (state_after h).slots (cell_of at) ≡ Some (slot.Entry number)
found_stands cell_of path h at number is = found_at (slots_in cell_of h) (find (λ c. is_some (slots_in cell_of h c)) path) at number is

-- and so does a kept fault
met_in : (context : ℕ) (x : Option Slot) (at number : ℕ) → look_in context x ≡ look.Fault at number → (context ≡ at) × (x ≡ Some (slot.Fault number))
met_in context None at number is = absurd (cc is)
met_in context (Some (slot.Entry n)) at number is = absurd (cc is)
met_in context (Some (slot.Fault n)) at number is = (cc is, cc is)
met_in context (Some (slot.Claim lane)) at number is = absurd (cc is)
met_in context (Some (slot.Sealed kept)) at number is = absurd (cc is)

met_at : (slots : ℕ → Option Slot) (o : Option ℕ) (at number : ℕ) → look_at slots o ≡ look.Fault at number → slots at ≡ Some (slot.Fault number)
met_at slots None at number is = absurd (cc is)
met_at slots (Some context) at number is = let f = met_in context (slots context) at number is in subst (λ c. slots c ≡ Some (slot.Fault number)) f.0 f.1

pub met_stands : (cell_of : ℕ → ℕ) (path : List ℕ) (h : History) (at number : ℕ) → look_after cell_of path h ≡ look.Fault at number → (state_after h).slots (cell_of at) ≡ Some (slot.Fault number)
met_stands cell_of path h at number is = met_at (slots_in cell_of h) (find (λ c. is_some (slots_in cell_of h c)) path) at number is
