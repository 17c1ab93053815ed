-- The end of a context whose unused places are sealed at once: the others are sealed one after another, and the same is left as by seals of all.
use Rattle.std.proofs.Common.{◌≡◌, ◌≢◌, ◌⊎◌, inl, inr, ℕ, zero, suc, ◌+◌, ◌-◌, ◌<◌, ◌≤◌, Bool, true, false, List, [], Option, Some, None, refl, ap, sym, subst, ◌∙◌, arith, add-one, ⊎_elim}
use Rattle.std.specs.Prelude.{if◌then◌else◌, Result, Ok, Err, OnOk}
use Rattle.std.proofs.lemmas.Bool.{cases_lt}
use Rattle.ext_model.specs.declared.event.Act.TheVariants.{Seal}
use Rattle.ext_model.specs.declared.event.Event.{Event}
use Rattle.ext_model.specs.declared.slot.Slot.{Slot}
use Rattle.ext_model.specs.declared.slot.Slot.TheVariants as slot
use Rattle.ext_model.specs.State.{State, standing_value}
use Rattle.ext_model.specs.Events.{Reply, Happens, Answers, Refuses, seal_reply}
use Rattle.ext_model.specs.Plain.{Place, same_place, any_lane, state_by, under, next_state}
use Rattle.ext_model.specs.Closing.{kept_by, put_in_kept, remaining}
use Rattle.ext_model.proofs.Changes.{same_state, same_place_is, here}
use Rattle.ext_model.proofs.Steps.{others_stay, seals_stay}
use Rattle.ext_tree.specs.Keys.{KeyValue}
use Rattle.ext_plan.specs.Values.{ValueText}
use Rattle.ext_plan_plain.specs.declared.place_store.PlaceStore.{PlaceStore}
use Rattle.ext_plan_plain.specs.InnerPlaces.{numbers_in, shown, HasEnded, HasLimitsOf}
use Rattle.ext_plan_plain.specs.ValueStates.{ValueState, after_act}
use Rattle.ext_plan_plain.specs.ContextEnds.{seal_keys, numbers_left}

-- ---- places that are sealed already

sealed_again : (s : ValueState) (at key : ℕ) (kept : Option ℕ) → under s.store key at ≡ Some (slot.Sealed kept) → after_act (Seal (at, key)) s ≡ s
sealed_again s at key kept is =
    ap (λ (t : State Place). record s { store = t })
    (ap (λ x. state_by (seal_reply x) s.store (record { lane = any_lane; act = Seal (at, key) })) is)

seals-keep : (n at key : ℕ) (s : ValueState) (kept : Option ℕ) → under s.store key at ≡ Some (slot.Sealed kept) → under (seal_keys n at s).store key at ≡ Some (slot.Sealed kept)
unfolding seal_keys
seals-keep zero at key s kept is = is
seals-keep (suc last) at key s kept is = let before = seal_keys last at s in seals_stay before.numbers before.store any_lane (Seal (at, last)) (at, key) kept (seals-keep last at key s kept is)

-- seals of the keys from one to a later one, which are sealed already, change nothing
pub seals_over : (from key at : ℕ) (s : ValueState) → from ≤ key → ((other : ℕ) → from ≤ other → other < key → under s.store other at ≡ Some (slot.Sealed None)) → seal_keys key at s ≡ seal_keys from at s
unfolding seal_keys
seals_over from zero at s least sealed = let is : zero ≡ from = omega (arith, least) in ap (λ n. seal_keys n at s) is
seals_over from (suc key) at s least sealed =
    ⊎_elim
    (λ below.
    let before : from ≤ key = omega (arith, below) in
    sealed_again (seal_keys key at s) at key None (seals-keep key at key s None (sealed key before (omega arith)))
    ∙ seals_over from key at s before (λ other after less. sealed other after (omega (arith, less))))
    (λ past. let is : suc key ≡ from = omega (arith, past, least) in ap (λ n. seal_keys n at s) is)
    (cases_lt from (suc key))

-- and they keep no number
pub numbers_over : (from key at : ℕ) (s : ValueState) → from ≤ key → ((other : ℕ) → from ≤ other → other < key → under s.store other at ≡ Some (slot.Sealed None)) → numbers_left key at s ≡ numbers_left from at s
numbers_over from zero at s least sealed = let is : zero ≡ from = omega (arith, least) in ap (λ n. numbers_left n at s) is
numbers_over from (suc key) at s least sealed =
    ⊎_elim
    (λ below.
    let before : from ≤ key = omega (arith, below) in
    ap (λ x. put_in_kept (kept_by x) (numbers_left key at s)) (sealed key before (omega arith))
    ∙ numbers_over from key at s before (λ other after less. sealed other after (omega (arith, less))))
    (λ past. let is : suc key ≡ from = omega (arith, past, least) in ap (λ n. numbers_left n at s) is)
    (cases_lt from (suc key))

-- what was sealed still is after other seals
pub still_sealed : (n key at : ℕ) (s t : ValueState) → t ≡ seal_keys n at s → under s.store key at ≡ Some (slot.Sealed None) → under t.store key at ≡ Some (slot.Sealed None)
still_sealed n key at s t is sealed = ap (λ (u : ValueState). under u.store key at) is ∙ seals-keep n at key s None sealed

pub places_stay : (n at : ℕ) (s : ValueState) → (seal_keys n at s).places ≡ s.places
unfolding seal_keys
places_stay zero at s = refl
places_stay (suc key) at s = places_stay key at s

-- ---- places that are sealed beforehand

-- the seals of the first keys of a context, on the state alone
unfoldable seals : ℕ → ℕ → ℕ → State Place → State Place
seals numbers zero at s = s
seals numbers (suc key) at s = next_state numbers (seals numbers key at s) any_lane (Seal (at, key))

as_seals : (n at : ℕ) (s : ValueState) → seal_keys n at s ≡ record s { store = seals s.numbers n at s.store }
unfolding seal_keys seals
as_seals zero at s = refl
as_seals (suc key) at s = ap (after_act (Seal (at, key))) (as_seals key at s)

-- what a seal leaves
abbrev sealed_slot : Option Slot → Option Slot
sealed_slot None = Some (slot.Sealed None)
sealed_slot (Some (slot.Entry number)) = Some (slot.Sealed (Some number))
sealed_slot (Some (slot.Fault number)) = Some (slot.Sealed None)
sealed_slot (Some (slot.Claim lane)) = Some (slot.Claim lane)
sealed_slot (Some (slot.Sealed kept)) = Some (slot.Sealed kept)

leaves : (s : State Place) (place : Place) (x : Option Slot) → s.slots place ≡ x
    → (if same_place place place then Some (slot.Sealed (standing_value (s.slots place))) else s.slots place) ≡ Some (slot.Sealed (standing_value x))
leaves s place x is = ap (λ b. if b then Some (slot.Sealed (standing_value (s.slots place))) else s.slots place) (here place) ∙ ap (λ y. Some (slot.Sealed (standing_value y))) is

seal_leaves : (s : State Place) (place : Place) (x : Option Slot) → s.slots place ≡ x → (state_by (seal_reply x) s (record { lane = any_lane; act = Seal place })).slots place ≡ sealed_slot x
seal_leaves s place None is = leaves s place None is
seal_leaves s place (Some (slot.Entry number)) is = leaves s place (Some (slot.Entry number)) is
seal_leaves s place (Some (slot.Fault number)) is = leaves s place (Some (slot.Fault number)) is
seal_leaves s place (Some (slot.Claim lane)) is = is
seal_leaves s place (Some (slot.Sealed kept)) is = is

same_drawn : (r : Reply) (s : State Place) (place : Place) → (state_by r s (record { lane = any_lane; act = Seal place })).drawn ≡ s.drawn
same_drawn (Happens answer) s place = refl
same_drawn (Answers answer) s place = refl
same_drawn (Refuses why) s place = refl

-- the place has no seal yet in one state, and one without a number in the other
pub record IsAhead (first at places : ℕ) (m s : State Place) (place : Place) : Type 0 where
  pub context : place.0 ≡ at
  pub from : first ≤ place.1
  pub key : place.1 < places
  pub empty : s.slots place ≡ None
  pub sealed : m.slots place ≡ Some (slot.Sealed None)

-- the states differ at most there
pub record AreAhead (from at places : ℕ) (m s : State Place) : Type 0 where
  pub drawn : m.drawn ≡ s.drawn
  pub each : (place : Place) → (m.slots place ≡ s.slots place) ⊎ IsAhead from at places m s place

same_sealed : (from at places : ℕ) (m s : State Place) (place : Place) → (m.slots place ≡ s.slots place) ⊎ IsAhead from at places m s place → sealed_slot (m.slots place) ≡ sealed_slot (s.slots place)
same_sealed from at places m s place (inl same) = ap sealed_slot same
same_sealed from at places m s place (inr ahead) = ap sealed_slot ahead.sealed ∙ sym (ap sealed_slot ahead.empty)

not_that : (at from : ℕ) (q : Place) → q.0 ≡ at → same_place (at, from) q ≡ false → q.1 ≢ from
not_that at from q context other same =
    absurd (cc (sym (here (at, from)) ∙ ap (same_place (at, from)) (λ i. (sym context i, sym same i)) ∙ other))

-- one seal more in both
one_more : (numbers from at places : ℕ) (m s : State Place) → AreAhead from at places m s → AreAhead (suc from) at places (next_state numbers m any_lane (Seal (at, from))) (next_state numbers s any_lane (Seal (at, from)))
one_more numbers from at places m s ahead = record {
  drawn = same_drawn (seal_reply (m.slots (at, from))) m (at, from) ∙ ahead.drawn ∙ sym (same_drawn (seal_reply (s.slots (at, from))) s (at, from));
  each = λ q.
      let m' = next_state numbers m any_lane (Seal (at, from)) in
      let s' = next_state numbers s any_lane (Seal (at, from)) in
      elim (same_place (at, from) q) as (λ b. same_place (at, from) q ≡ b → (m'.slots q ≡ s'.slots q) ⊎ IsAhead (suc from) at places m' s' q) [
        | true ↦ λ is. inl (subst (λ p. m'.slots p ≡ s'.slots p) (same_place_is (at, from) q is)
            (seal_leaves m (at, from) _ refl ∙ same_sealed from at places m s (at, from) (ahead.each (at, from)) ∙ sym (seal_leaves s (at, from) _ refl)))
        | false ↦ λ other.
            let stays = λ (t : State Place). others_stay numbers t any_lane (Seal (at, from)) q other in
            elim (ahead.each q) [
              | inl same ↦ inl (stays m ∙ same ∙ sym (stays s))
              | inr a ↦ let differs : q.1 ≢ from = not_that at from q a.context other in let least : from ≤ q.1 = a.from in inr (record {
                context = a.context;
                from = omega (arith, least, differs);
                key = a.key;
                empty = stays s ∙ a.empty;
                sealed = stays m ∙ a.sealed;
              })
            ]
      ] refl;
}

stay_ahead : (n numbers at places : ℕ) (m s : State Place) → AreAhead 0 at places m s → AreAhead n at places (seals numbers n at m) (seals numbers n at s)
unfolding seals
stay_ahead zero numbers at places m s ahead = ahead
stay_ahead (suc n) numbers at places m s ahead = one_more numbers n at places (seals numbers n at m) (seals numbers n at s) (stay_ahead n numbers at places m s ahead)

all_same : (at places : ℕ) (m s : State Place) → AreAhead places at places m s → m ≡ s
all_same at places m s ahead =
    same_state m s
    (λ q. elim (ahead.each q) [
      | inl same ↦ same
      | inr a ↦ let least : places ≤ q.1 = a.from in let below : q.1 < places = a.key in absurd (omega (arith, least, below))
    ])
    ahead.drawn

-- seals of all keys leave the same where some empty places were sealed beforehand
pub ahead_sealed : (at : ℕ) (s : ValueState) (m : State Place) → AreAhead 0 at s.places m s.store → seal_keys s.places at (record s { store = m }) ≡ seal_keys s.places at s
ahead_sealed at s m ahead =
    as_seals s.places at (record s { store = m })
    ∙ ap (λ (t : State Place). record s { store = t }) (all_same at s.places _ _ (stay_ahead s.places s.numbers at s.places m s.store ahead))
    ∙ sym (as_seals s.places at s)

-- the same of a store of which a context has ended
pub ended_sealed : (at : ℕ) (keep_faults : Bool) (keys : List KeyValue) (values : List ValueText) (old new : PlaceStore) → HasLimitsOf old new → HasEnded at old new
    → (let view : PlaceStore → ValueState = λ s. record { keep_faults = keep_faults; places = s.places; numbers = numbers_in s; store = shown s; keys = keys; values = values; memory = [] } in
    seal_keys new.places at (view new) ≡ seal_keys old.places at (view old))
ended_sealed at keep_faults keys values old new limits ended =
    let view : ℕ → ℕ → ValueState = λ places numbers. record { keep_faults = keep_faults; places = places; numbers = numbers; store = shown new; keys = keys; values = values; memory = [] } in
    let before : ValueState = record { keep_faults = keep_faults; places = old.places; numbers = numbers_in old; store = shown old; keys = keys; values = values; memory = [] } in
    ap (λ n. seal_keys n at (view n (numbers_in new))) limits.places
    ∙ ap (λ n. seal_keys old.places at (view old.places n)) limits.numbers
    ∙ ahead_sealed at before (shown new) (record {
      drawn = ended.drawn;
      each = λ q. elim (ended.each q) [
        | inl same ↦ inl same
        | inr e ↦ inr (record { context = e.context; from = omega arith; key = e.key; empty = e.empty; sealed = e.sealed })
      ];
    })

pub on_ok : {A E : Type 0} {P Q : Type 0} (r : Result A E) → (P → Q) → OnOk r P → OnOk r Q
on_ok (Ok x) f p = f p
on_ok (Err e) f p = p
