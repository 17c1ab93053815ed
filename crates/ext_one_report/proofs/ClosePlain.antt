-- The end of a context in a plain run.
use Rattle.std.proofs.Common.{◌≡◌, ◌≢◌, ◌<◌, ◌≤◌, ℕ, zero, suc, false, inl, inr, Option, None, Some, refl, ap, sym, subst, ◌∙◌, arith}
use Rattle.std.specs.Prelude.{if◌then◌else◌}
use Rattle.std.proofs.lemmas.Bool.{cases_order}
use Rattle.ext_history.proofs.Lists.{bools}
use Rattle.ext_model.specs.declared.event.Act.TheVariants.{Seal}
use Rattle.ext_model.specs.declared.slot.Slot.{Slot}
use Rattle.ext_model.specs.declared.slot.Slot.TheVariants as slot
use Rattle.ext_model.specs.State.{State, standing_value}
use Rattle.ext_model.specs.Events.{Reply, Happens, Answers, Refuses, seal_reply}
use Rattle.ext_model.specs.Plain.{Place, any_lane, same_place, state_by}
use Rattle.ext_model.proofs.Changes.{here, same_place_is}
use Rattle.ext_plan_plain.specs.ValueStates.{ValueState, after_act}
use Rattle.ext_plan_plain.specs.ContextEnds.{seal_keys}
use Rattle.ext_plan_plain.proofs.LimitsStay.{seals-limits}
use Rattle.ext_one_report.proofs.Closes.{PlainSealsPlaces, seal_of}

-- ---- one seal

apart : (a b m n : ℕ) → (a ≡ b → m ≡ n → ⊥) → same_place (a, m) (b, n) ≡ false
apart a b m n differ = elim (bools (same_place (a, m) (b, n))) [
  | inl same ↦
      let one : (a, m) ≡ (b, n) = same_place_is (a, m) (b, n) same in
      absurd (differ (ap (λ (p : Place). p.0) one) (ap (λ (p : Place). p.1) one))
  | inr other ↦ other
]

module _ (s : State Place) (at : Place) where
  -- by what stood there
  sealed_by : (x : Option Slot) → s.slots at ≡ x → (state_by (seal_reply x) s (record { lane = any_lane; act = Seal at })).slots at ≡ seal_of x
  sealed_by None is = ap (λ b. if b then Some (slot.Sealed (standing_value (s.slots at))) else s.slots at) (here at) ∙ ap (λ x. Some (slot.Sealed (standing_value x))) is
  sealed_by (Some (slot.Entry number)) is = ap (λ b. if b then Some (slot.Sealed (standing_value (s.slots at))) else s.slots at) (here at) ∙ ap (λ x. Some (slot.Sealed (standing_value x))) is
  sealed_by (Some (slot.Fault number)) is = ap (λ b. if b then Some (slot.Sealed (standing_value (s.slots at))) else s.slots at) (here at) ∙ ap (λ x. Some (slot.Sealed (standing_value x))) is
  sealed_by (Some (slot.Claim lane)) is = is
  sealed_by (Some (slot.Sealed kept)) is = is

  else_by : (r : Reply) (place : Place) → same_place at place ≡ false → (state_by r s (record { lane = any_lane; act = Seal at })).slots place ≡ s.slots place
  else_by (Happens answer) place off = ap (λ b. if b then Some (slot.Sealed (standing_value (s.slots place))) else s.slots place) off
  else_by (Answers answer) place off = refl
  else_by (Refuses why) place off = refl

  drawn_by : (r : Reply) → (state_by r s (record { lane = any_lane; act = Seal at })).drawn ≡ s.drawn
  drawn_by (Happens answer) = refl
  drawn_by (Answers answer) = refl
  drawn_by (Refuses why) = refl

sealed_there : (at : Place) (s : ValueState) → (after_act (Seal at) s).store.slots at ≡ seal_of (s.store.slots at)
sealed_there at s = sealed_by s.store at (s.store.slots at) refl

sealed_else : (at place : Place) (s : ValueState) → same_place at place ≡ false → (after_act (Seal at) s).store.slots place ≡ s.store.slots place
sealed_else at place s off = else_by s.store at (seal_reply (s.store.slots at)) place off

-- ---- all keys

module _ (node : ℕ) where
  not_yet : (n key : ℕ) (s : ValueState) → n ≤ key → (seal_keys n node s).store.slots (node, key) ≡ s.store.slots (node, key)
  unfolding seal_keys
  not_yet zero key s past = refl
  not_yet (suc n) key s past =
      sealed_else (node, n) (node, key) (seal_keys n node s) (apart node node n key (λ same e. omega (arith, e, past))) ∙ not_yet n key s (omega (arith, past))

  sealed_below : (n key : ℕ) (s : ValueState) → key < n → (seal_keys n node s).store.slots (node, key) ≡ seal_of (s.store.slots (node, key))
  unfolding seal_keys
  sealed_below zero key s less = absurd (omega (arith, less))
  sealed_below (suc n) key s less = elim (cases_order key n) [
    | inl same ↦
        subst (λ k. (after_act (Seal (node, n)) (seal_keys n node s)).store.slots (node, k) ≡ seal_of (s.store.slots (node, k))) (sym same)
        (sealed_there (node, n) (seal_keys n node s) ∙ ap seal_of (not_yet n n s (omega arith)))
    | inr (inl below) ↦ sealed_else (node, n) (node, key) (seal_keys n node s) (apart node node n key (λ same e. omega (arith, e, below))) ∙ sealed_below n key s below
    | inr (inr above) ↦ absurd (omega (arith, less, above))
  ]

  not_here : (n context key : ℕ) (s : ValueState) → context ≢ node → (seal_keys n node s).store.slots (context, key) ≡ s.store.slots (context, key)
  unfolding seal_keys
  not_here zero context key s other = refl
  not_here (suc n) context key s other =
      sealed_else (node, n) (context, key) (seal_keys n node s) (apart node context n key (λ same e. other (sym same))) ∙ not_here n context key s other

  drawn_stays : (n : ℕ) (s : ValueState) → (seal_keys n node s).store.drawn ≡ s.store.drawn
  unfolding seal_keys
  drawn_stays zero s = refl
  drawn_stays (suc n) s =
      let t = seal_keys n node s in
      drawn_by t.store (node, n) (seal_reply (t.store.slots (node, n))) ∙ drawn_stays n s

  keys_stay : (n : ℕ) (s : ValueState) → (seal_keys n node s).keys ≡ s.keys
  unfolding seal_keys
  keys_stay zero s = refl
  keys_stay (suc n) s = keys_stay n s

  values_stay : (n : ℕ) (s : ValueState) → (seal_keys n node s).values ≡ s.values
  unfolding seal_keys
  values_stay zero s = refl
  values_stay (suc n) s = values_stay n s

  memory_stays : (n : ℕ) (s : ValueState) → (seal_keys n node s).memory ≡ s.memory
  unfolding seal_keys
  memory_stays zero s = refl
  memory_stays (suc n) s = memory_stays n s

  faults_stay : (n : ℕ) (s : ValueState) → (seal_keys n node s).keep_faults ≡ s.keep_faults
  unfolding seal_keys
  faults_stay zero s = refl
  faults_stay (suc n) s = faults_stay n s

pub plain_seals_places : PlainSealsPlaces
plain_seals_places node s = record {
  sealed = λ key less. sealed_below node s.places key s less;
  others = λ context key other. not_here node s.places context key s other;
  drawn = drawn_stays node s.places s;
  places = (seals-limits s.places node s).places;
  numbers = (seals-limits s.places node s).numbers;
  keys = keys_stay node s.places s;
  values = values_stay node s.places s;
  memory = memory_stays node s.places s;
  keeps = faults_stay node s.places s;
}
