-- Where the events of a legal history store numbers, and where these stand.
use Rattle.std.proofs.Common.{◌≡◌, ◌⊎◌, inl, inr, ℕ, Bool, true, [], ◌∷◌, ◌++◌, Contains, Option, Some, None, nat_eq, ap, sym, subst, ◌∙◌, arith, IfSome}
use Rattle.std.specs.Prelude.{if◌then◌else◌}
use Rattle.std.proofs.lemmas.Bool.Decides.{nat_tests}
use Rattle.std.proofs.lemmas.List.Elements.{Contains-append_left, Contains-append_right}
use Rattle.ext_history.proofs.Legal.{legal_steps}
use Rattle.ext_history.proofs.Lists.{bools, contains_filter_map, contains_here}
use Rattle.ext_model.specs.declared.event.Act.{Act}
use Rattle.ext_model.specs.declared.event.Act.TheVariants.{Abandon, Claim, Fail, Fill, Keep, Put, Remove, Seal}
use Rattle.ext_model.specs.declared.event.Event.{Event}
use Rattle.ext_model.specs.declared.slot.Slot.{Slot}
use Rattle.ext_model.specs.declared.slot.Slot.TheVariants as slot
use Rattle.ext_model.specs.Events.{is_at, is_on, place_of, slot_after}
use Rattle.ext_model.specs.History.{History, IsAllowed, IsLegal, Limits, state_after, stored, stored_number}
use Rattle.ext_model.specs.State.{standing_value}
use Rattle.ext_model.proofs.Words.{slots-push}
use Rattle.ext_one_report.proofs.StoredWords.{number_in}

-- ---- what one act leaves

value_in : (old : Option Slot) (n : ℕ) → standing_value old ≡ Some n → number_in old ≡ Some n
value_in None n is = absurd (cc is)
value_in (Some (slot.Entry number)) n is = is
value_in (Some (slot.Fault number)) n is = absurd (cc is)
value_in (Some (slot.Claim lane)) n is = absurd (cc is)
value_in (Some (slot.Sealed kept)) n is = absurd (cc is)

-- a number that is in the cell after an act was stored by it, or was there before
left_number : (lane : ℕ) (act : Act ℕ) (old : Option Slot) (n : ℕ) → number_in (slot_after lane act old) ≡ Some n → (stored_number act ≡ Some n) ⊎ (number_in old ≡ Some n)
left_number lane (Keep number) old n is = inr is
left_number lane (Put at number) old n is = inl is
left_number lane (Remove at) old n is = absurd (cc is)
left_number lane (Claim at) old n is = absurd (cc is)
left_number lane (Fill at number) old n is = inl is
left_number lane (Fail at number) old n is = inl is
left_number lane (Abandon at) old n is = absurd (cc is)
left_number lane (Seal at) old n is = inr (value_in old n is)

on_place : (cell : ℕ) (place : Option ℕ) → is_at nat_eq cell place ≡ true → place ≡ Some cell
on_place cell None on = absurd (cc on)
on_place cell (Some at) on = let e : at ≡ cell = grind (arith, nat_tests) in ap Some e

-- ---- what stands

-- the number is in the cell after these events
abbrev pub IsIn : History → ℕ → ℕ → Type 0
IsIn h cell number = number_in ((state_after h).slots cell) ≡ Some number

-- one of these events stored the number in the cell
pub record WasStored (h : History) (cell number : ℕ) : Type 0 where
  pub event : Event ℕ
  pub among : Contains h event
  pub on : place_of event.act ≡ Some cell
  pub stores : stored_number event.act ≡ Some number

-- each number that is in a cell was stored there, and is in no other
pub record AreStored (h : History) : Type 0 where
  pub was : (cell number : ℕ) → IsIn h cell number → WasStored h cell number
  pub one : (cell other number : ℕ) → IsIn h cell number → IsIn h other number → cell ≡ other

module _ {limits : Limits} (before : History) (e : Event ℕ) (a : IsAllowed limits before e) (are : AreStored before) where
  abbrev now : History
  now = before ++ e ∷ []

  -- the event stores the number in the cell
  abbrev Stores : ℕ → ℕ → Type 0
  Stores cell number = (place_of e.act ≡ Some cell) × (stored_number e.act ≡ Some number)

  stood : (cell number : ℕ) → IsIn now cell number → Stores cell number ⊎ IsIn before cell number
  stood cell number is =
      let old = (state_after before).slots cell in
      let new = slot_after e.lane e.act old in
      let chosen : number_in (if is_on nat_eq cell e.act then new else old) ≡ Some number = ap number_in (sym (slots-push before e cell)) ∙ is in
      elim (bools (is_on nat_eq cell e.act)) [
        | inl on ↦ elim (left_number e.lane e.act old number (subst (λ (b : Bool). number_in (if b then new else old) ≡ Some number) on chosen)) [
          | inl stores ↦ inl (on_place cell (place_of e.act) on, stores)
          | inr there ↦ inr there
        ]
        | inr off ↦ inr (subst (λ (b : Bool). number_in (if b then new else old) ≡ Some number) off chosen)
      ]

  never_before : (cell number : ℕ) → stored_number e.act ≡ Some number → IsIn before cell number → ⊥
  never_before cell number is there =
      let w = are.was cell number there in
      let fresh : ¬ Contains (stored before) number = subst (λ o. IfSome o (λ n. ¬ Contains (stored before) n)) is a.fresh in
      fresh (contains_filter_map (λ (x : Event ℕ). stored_number x.act) before w.event number w.stores w.among)

  same_cell : (cell other : ℕ) → place_of e.act ≡ Some cell → place_of e.act ≡ Some other → cell ≡ other
  same_cell cell other is is' = let both : Some cell ≡ Some other = sym is ∙ is' in cc both

  stored_step : AreStored now
  stored_step = record {
    was = λ cell number is. elim (stood cell number is) [
      | inl stores ↦ record { event = e; among = Contains-append_right before (e ∷ []) e (contains_here e []); on = stores.0; stores = stores.1 }
      | inr there ↦
          let w = are.was cell number there in
          record { event = w.event; among = Contains-append_left before (e ∷ []) w.event w.among; on = w.on; stores = w.stores }
    ];
    one = λ cell other number is is'. elim (stood cell number is) [
      | inl stores ↦ elim (stood other number is') [
        | inl stores' ↦ same_cell cell other stores.0 stores'.0
        | inr there' ↦ absurd (never_before other number stores.1 there')
      ]
      | inr there ↦ elim (stood other number is') [
        | inl stores' ↦ absurd (never_before cell number stores'.1 there)
        | inr there' ↦ are.one cell other number there there'
      ]
    ];
  }

pub are_stored : {limits : Limits} (h : History) → IsLegal limits h → AreStored h
are_stored h legal = legal_steps AreStored stored_step [] h legal (record { was = λ cell number is. absurd (cc is); one = λ cell other number is is'. absurd (cc is) })
