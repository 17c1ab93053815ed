-- What the plain store's changes do to the state.
use Rattle.std.proofs.Common.{◌≡◌, ℕ, Bool, true, false, refl, ap, sym, subst, ◌∙◌, nat_cmp, Ordering, Less, Equal, Greater, Option, None, Some, arith}
use Rattle.std.specs.Prelude.{if◌then◌else◌, ◌↔◌}
use Rattle.std.proofs.lemmas.Bool.Decides.{nat_tests}
use Rattle.std.proofs.lemmas.Map.Lookups.{exact_pairs, exact_unsigned}
use Rattle.std.specs.Ordering.{is_eq}
use Rattle.ext_model.specs.declared.event.Act.TheVariants.{Seal}
use Rattle.ext_model.specs.declared.slot.Slot.{Slot}
use Rattle.ext_model.specs.declared.slot.Slot.TheVariants as slot
use Rattle.ext_model.specs.State.{State, standing_value}
use Rattle.ext_model.specs.Events.{Happens, seal_reply, apply}
use Rattle.ext_model.specs.Plain.{Place, place_cmp, same_place, Plain, state_of, under, with_slot, state_by, any_lane, next_state}

-- states with the same slots and the same count are one
pub same_state : {P : Type 0} (s t : State P) → ((place : P) → s.slots place ≡ t.slots place) → s.drawn ≡ t.drawn → s ≡ t
same_state s t slots drawn = λ i. record { slots = λ place. slots place i; drawn = drawn i }

equal : (o : Ordering) → is_eq o ≡ true → o ≡ Equal
equal Less e = absurd (cc e)
equal Equal e = refl
equal Greater e = absurd (cc e)

-- the order of places tells all places apart
pub same_place_is : (p q : Place) → same_place p q ≡ true → p ≡ q
same_place_is p q e = exact_pairs nat_cmp nat_cmp exact_unsigned exact_unsigned p q (equal (place_cmp p q) e)

either_same : (b : Bool) (x y : Option Slot) → (b ≡ true → y ≡ x) → y ≡ (if b then x else y)
either_same true x y is = is refl
either_same false x y is = refl

-- to set what stands there already changes nothing
pub slot_kept : (s : State Place) (at : Place) (slot : Option Slot) → s.slots at ≡ slot → s ≡ with_slot s at slot
slot_kept s at slot is = same_state _ _ (λ q. either_same (same_place at q) slot (s.slots q) (λ here. subst (λ k. s.slots k ≡ slot) (same_place_is at q here) is)) refl

either_sealed : (b : Bool) (x y : Option Slot) (stood : Option ℕ) → (b ≡ true → standing_value x ≡ stood) → (if b then Some (slot.Sealed stood) else y) ≡ (if b then Some (slot.Sealed (standing_value x)) else y)
either_sealed true x y stood is = ap (λ k. Some (slot.Sealed k)) (sym (is refl))
either_sealed false x y stood is = refl

sealed : (s : State Place) (place : Place) (stood : Option ℕ) → standing_value (s.slots place) ≡ stood → with_slot s place (Some (slot.Sealed stood)) ≡ apply same_place s (record { lane = any_lane; act = Seal place })
sealed s place stood is =
    same_state _ _
    (λ q. either_sealed (same_place place q) (s.slots q) (s.slots q) stood (λ here. subst (λ k. standing_value (s.slots k) ≡ stood) (same_place_is place q here) is))
    refl

-- what a seal answers where it happens is what stands there
seal_stands : (x : Option Slot) (kept : Option ℕ) → seal_reply x ≡ Happens kept → standing_value x ≡ kept
seal_stands None kept happens = cc
seal_stands (Some (slot.Entry number)) kept happens = cc
seal_stands (Some (slot.Fault number)) kept happens = cc
seal_stands (Some (slot.Claim lane)) kept happens = absurd (cc happens)
seal_stands (Some (slot.Sealed stood)) kept happens = absurd (cc happens)

-- where a seal happens, the place is sealed with what it answers,
pub seal_happens : (old : Plain) (at key : ℕ) (kept : Option ℕ) → seal_reply (under (state_of old) key at) ≡ Happens kept
    → with_slot (state_of old) (at, key) (Some (slot.Sealed kept)) ≡ next_state old.numbers (state_of old) any_lane (Seal (at, key))
seal_happens old at key kept happens =
    sealed (state_of old) (at, key) kept (seal_stands _ kept happens) ∙ sym (ap (λ r. state_by r (state_of old) (record { lane = any_lane; act = Seal (at, key) })) happens)

-- and a sealed place stays as it is
pub seal_again : (old : Plain) (at key : ℕ) (kept : Option ℕ) → under (state_of old) key at ≡ Some (slot.Sealed kept) → state_of old ≡ with_slot (state_of old) (at, key) (Some (slot.Sealed kept))
seal_again old at key kept is = slot_kept (state_of old) (at, key) _ is

pub here : (place : Place) → same_place place place ≡ true
here place = grind (arith, nat_tests)

pub places_are_told : (p q : Place) → (same_place p q ≡ true) ↔ (p ≡ q)
places_are_told p q = (same_place_is p q, λ is. subst (λ r. same_place p r ≡ true) is (here p))

-- what was set stands there
pub slot_set : (s t : State Place) (at : Place) (slot : Option Slot) → t ≡ with_slot s at slot → t.slots at ≡ slot
slot_set s t at slot is = ap (λ (u : State Place). u.slots at) is ∙ ap (λ b. if b then slot else s.slots at) (here at)

either_back : (b : Bool) (x y : Option Slot) → (b ≡ true → y ≡ None) → (if b then None else (if b then x else y)) ≡ y
either_back true x y is = sym (is refl)
either_back false x y is = refl

-- to set an empty place and then empty it changes nothing
pub set_and_cleared : (s t u : State Place) (at : Place) (slot : Option Slot) → s.slots at ≡ None → t ≡ with_slot s at slot → u ≡ with_slot t at None → u ≡ s
set_and_cleared s t u at slot none set clear =
    clear ∙ ap (λ v. with_slot v at None) set
    ∙ same_state _ _ (λ q. either_back (same_place at q) slot (s.slots q) (λ is. subst (λ k. s.slots k ≡ None) (same_place_is at q is) none)) refl
