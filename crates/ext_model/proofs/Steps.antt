-- What an act does to the places that it is on, and to those that it is not on.
use Rattle.std.proofs.Common.{◌≡◌, ◌≢◌, ℕ, true, false, refl, ap, sym, ◌∙◌, ne_eqb, eq-eqb, Option, None, Some}
use Rattle.std.specs.Prelude.{if◌then◌else◌}
use Rattle.ext_model.specs.declared.event.Act.{Act}
use Rattle.ext_model.specs.declared.event.Act.TheVariants.{Keep, Put, Remove, Claim, Fill, Fail, Abandon, Seal}
use Rattle.ext_model.specs.declared.event.Event.{Event}
use Rattle.ext_model.specs.declared.slot.Slot.{Slot}
use Rattle.ext_model.specs.declared.slot.Slot.TheVariants as slot
use Rattle.ext_model.specs.State.{State, standing_value}
use Rattle.ext_model.specs.Events.{Reply, Happens, Answers, Refuses, Barred, put_reply, remove_reply, claim_reply, end_reply, seal_reply, slot_after, is_on}
use Rattle.ext_model.specs.Plain.{Place, same_place, with_slot, state_by, plain_reply, next_state}
use Rattle.ext_model.proofs.Changes.{same_place_is, here, slot_set, set_and_cleared}

by_reply : (r : Reply) (s : State Place) (e : Event Place) (place : Place) → is_on same_place place e.act ≡ false → (state_by r s e).slots place ≡ s.slots place
by_reply (Happens answer) s e place off = ap (λ b. if b then slot_after e.lane e.act (s.slots place) else s.slots place) off
by_reply (Answers answer) s e place off = refl
by_reply (Refuses refusal) s e place off = refl

pub others_stay : (numbers : ℕ) (s : State Place) (lane : ℕ) (act : Act Place) (place : Place) → is_on same_place place act ≡ false → (next_state numbers s lane act).slots place ≡ s.slots place
others_stay numbers s lane act place off = by_reply (plain_reply numbers s lane act) s (record { lane = lane; act = act }) place off

-- the same stands at two places that are one
at_same : (s : State Place) (at place : Place) (x : Option Slot) → same_place at place ≡ true → s.slots place ≡ x → s.slots at ≡ x
at_same s at place x same is = ap s.slots (same_place_is at place same) ∙ is

-- no act on a sealed place is an event
nothing_sealed : (numbers : ℕ) (s : State Place) (lane : ℕ) (act : Act Place) (place : Place) (kept : Option ℕ) → is_on same_place place act ≡ true → s.slots place ≡ Some (slot.Sealed kept) → next_state numbers s lane act ≡ s
nothing_sealed numbers s lane (Keep number) place kept on is = absurd (cc on)
nothing_sealed numbers s lane (Put at number) place kept on is = ap (λ x. state_by (put_reply false x) s (record { lane = lane; act = Put at number })) (at_same s at place _ on is)
nothing_sealed numbers s lane (Remove at) place kept on is = ap (λ x. state_by (remove_reply false x) s (record { lane = lane; act = Remove at })) (at_same s at place _ on is)
nothing_sealed numbers s lane (Claim at) place kept on is = ap (λ x. state_by (claim_reply false x) s (record { lane = lane; act = Claim at })) (at_same s at place _ on is)
nothing_sealed numbers s lane (Fill at number) place kept on is = ap (λ x. state_by (end_reply lane x) s (record { lane = lane; act = Fill at number })) (at_same s at place _ on is)
nothing_sealed numbers s lane (Fail at number) place kept on is = ap (λ x. state_by (end_reply lane x) s (record { lane = lane; act = Fail at number })) (at_same s at place _ on is)
nothing_sealed numbers s lane (Abandon at) place kept on is = ap (λ x. state_by (end_reply lane x) s (record { lane = lane; act = Abandon at })) (at_same s at place _ on is)
nothing_sealed numbers s lane (Seal at) place kept on is = ap (λ x. state_by (seal_reply x) s (record { lane = lane; act = Seal at })) (at_same s at place _ on is)

-- a seal on a place where a fault is kept leaves no number
pub seal_passes_fault : (numbers : ℕ) (s : State Place) (lane : ℕ) (place : Place) (number : ℕ) → s.slots place ≡ Some (slot.Fault number) → (next_state numbers s lane (Seal place)).slots place ≡ Some (slot.Sealed None)
seal_passes_fault numbers s lane place number is =
    let e : Event Place = record { lane = lane; act = Seal place } in
    ap (λ x. (state_by (seal_reply x) s e).slots place) is
    ∙ (ap (λ b. if b then Some (slot.Sealed (standing_value (s.slots place))) else s.slots place) (here place) ∙ ap (λ x. Some (slot.Sealed (standing_value x))) is)

pub seals_stay : (numbers : ℕ) (s : State Place) (lane : ℕ) (act : Act Place) (place : Place) (kept : Option ℕ) → s.slots place ≡ Some (slot.Sealed kept) → (next_state numbers s lane act).slots place ≡ Some (slot.Sealed kept)
seals_stay numbers s lane act place kept is =
    elim (is_on same_place place act) as (λ b. is_on same_place place act ≡ b → (next_state numbers s lane act).slots place ≡ Some (slot.Sealed kept)) [
      | true ↦ λ on. ap (λ (t : State Place). t.slots place) (nothing_sealed numbers s lane act place kept on is) ∙ is
      | false ↦ λ off. others_stay numbers s lane act place off ∙ is
    ] refl

barred : (lane by : ℕ) → lane ≢ by → end_reply lane (Some (slot.Claim by)) ≡ Refuses Barred
barred lane by other = ap (λ b. if b then Happens None else Refuses Barred) (ne_eqb by lane (λ same. other (sym same)))

-- no act of another lane on a claimed place is an event
nothing_claimed : (numbers : ℕ) (s : State Place) (lane : ℕ) (act : Act Place) (place : Place) (by : ℕ) → is_on same_place place act ≡ true → s.slots place ≡ Some (slot.Claim by) → lane ≢ by → next_state numbers s lane act ≡ s
nothing_claimed numbers s lane (Keep number) place by on is other = absurd (cc on)
nothing_claimed numbers s lane (Put at number) place by on is other = ap (λ x. state_by (put_reply false x) s (record { lane = lane; act = Put at number })) (at_same s at place _ on is)
nothing_claimed numbers s lane (Remove at) place by on is other = ap (λ x. state_by (remove_reply false x) s (record { lane = lane; act = Remove at })) (at_same s at place _ on is)
nothing_claimed numbers s lane (Claim at) place by on is other = ap (λ x. state_by (claim_reply false x) s (record { lane = lane; act = Claim at })) (at_same s at place _ on is)
nothing_claimed numbers s lane (Fill at number) place by on is other =
    ap (λ r. state_by r s (record { lane = lane; act = Fill at number })) (ap (end_reply lane) (at_same s at place _ on is) ∙ barred lane by other)
nothing_claimed numbers s lane (Fail at number) place by on is other =
    ap (λ r. state_by r s (record { lane = lane; act = Fail at number })) (ap (end_reply lane) (at_same s at place _ on is) ∙ barred lane by other)
nothing_claimed numbers s lane (Abandon at) place by on is other =
    ap (λ r. state_by r s (record { lane = lane; act = Abandon at })) (ap (end_reply lane) (at_same s at place _ on is) ∙ barred lane by other)
nothing_claimed numbers s lane (Seal at) place by on is other = ap (λ x. state_by (seal_reply x) s (record { lane = lane; act = Seal at })) (at_same s at place _ on is)

pub claims_stay : (numbers : ℕ) (s : State Place) (lane : ℕ) (act : Act Place) (place : Place) (by : ℕ) → s.slots place ≡ Some (slot.Claim by) → lane ≢ by → (next_state numbers s lane act).slots place ≡ Some (slot.Claim by)
claims_stay numbers s lane act place by is other =
    elim (is_on same_place place act) as (λ b. is_on same_place place act ≡ b → (next_state numbers s lane act).slots place ≡ Some (slot.Claim by)) [
      | true ↦ λ on. ap (λ (t : State Place). t.slots place) (nothing_claimed numbers s lane act place by on is other) ∙ is
      | false ↦ λ off. others_stay numbers s lane act place off ∙ is
    ] refl

-- an empty place is claimed
claim_next : (numbers : ℕ) (s : State Place) (lane : ℕ) (place : Place) → s.slots place ≡ None → next_state numbers s lane (Claim place) ≡ with_slot s place (Some (slot.Claim lane))
claim_next numbers s lane place none = ap (λ x. state_by (claim_reply false x) s (record { lane = lane; act = Claim place })) none

own_claim : (lane : ℕ) → end_reply lane (Some (slot.Claim lane)) ≡ Happens None
own_claim lane = ap (λ b. if b then Happens None else Refuses Barred) (eq-eqb lane lane refl)

-- the lane's own claim is abandoned
abandon_next : (numbers : ℕ) (s : State Place) (lane : ℕ) (place : Place) → s.slots place ≡ Some (slot.Claim lane) → next_state numbers s lane (Abandon place) ≡ with_slot s place None
abandon_next numbers s lane place is = ap (λ r. state_by r s (record { lane = lane; act = Abandon place })) (ap (end_reply lane) is ∙ own_claim lane)

pub abandon_undoes_claim : (numbers : ℕ) (s : State Place) (lane : ℕ) (place : Place) → s.slots place ≡ None → next_state numbers (next_state numbers s lane (Claim place)) lane (Abandon place) ≡ s
abandon_undoes_claim numbers s lane place none =
    let t : State Place = next_state numbers s lane (Claim place) in
    let claimed : t ≡ with_slot s place (Some (slot.Claim lane)) = claim_next numbers s lane place none in
    let stands : t.slots place ≡ Some (slot.Claim lane) = slot_set s t place _ claimed in
    set_and_cleared s t _ place _ none claimed (abandon_next numbers t lane place stands)
