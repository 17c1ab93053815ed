-- What single acts of a plain run keep: each number stands in one place at most, and a value whose close fails stands where a step of the plan may leave it.
use Rattle.std.proofs.Common.{◌≡◌, ℕ, zero, suc, ◌<◌, ◌≤◌, ◌⊎◌, inl, inr, Bool, true, false, List, [], ◌∷◌, ◌++◌, length, length-append, Option, Some, None, refl, ap, sym, subst, ◌∙◌, arith, ⊎_elim}
use Rattle.std.specs.Prelude.{codes, slice_get, if◌then◌else◌}
use mathlib.Core.List.{IsPrefix}
use base.Growing.{prefix_trans}
use Rattle.ext_model.specs.declared.event.Act.{Act}
use Rattle.ext_model.specs.declared.event.Act.TheVariants.{Put, Remove, Claim, Fill, Fail, Abandon, Seal}
use Rattle.ext_model.specs.declared.event.Event.{Event}
use Rattle.ext_model.specs.declared.slot.Slot.{Slot}
use Rattle.ext_model.specs.declared.slot.Slot.TheVariants as slot
use Rattle.ext_model.specs.State.{State, standing_value}
use Rattle.ext_model.specs.Events.{Reply, Happens, Answers, Refuses, drawn_after, is_on, slot_after}
use Rattle.ext_model.specs.Plain.{Place, any_lane, same_place, state_by}
use Rattle.ext_model.proofs.Changes.{same_place_is}
use Rattle.ext_model.proofs.Steps.{others_stay}
use Rattle.ext_tree.specs.Keys.{KeyValue}
use Rattle.ext_plan.specs.Values.{ValueText, begins_with}
use Rattle.ext_plan_plain.specs.ValueStates.{ValueState, reply_to, after_act, why_refused, next_number, keep_value, value_of, with_number}
use Rattle.ext_plan_plain.specs.PlainRunLaws.{HasValues}
use Rattle.ext_plan_plain.proofs.Values.{act-values, keep-drawn, last_value}
use Rattle.ext_one_report.proofs.StoredWords.{number_in}
use Rattle.ext_one_report.proofs.OfPlan.{IsLeftBy, Leaving, OpensOfPlan, value_in}

-- ---- one place, before an act and after it

-- what stands there stood there before
pub record IsLess (x y : Option Slot) : Type 0 where
  pub number : (n : ℕ) → number_in y ≡ Some n → number_in x ≡ Some n
  pub value : (n : ℕ) → value_in y ≡ Some n → value_in x ≡ Some n

less_same : (x y : Option Slot) → y ≡ x → IsLess x y
less_same x y same = record { number = λ n is. ap number_in (sym same) ∙ is; value = λ n is. ap value_in (sym same) ∙ is }

pub less_none : (x : Option Slot) → IsLess x None
less_none x = record { number = λ n is. absurd cc; value = λ n is. absurd cc }

pub less_claim : (x : Option Slot) (lane : ℕ) → IsLess x (Some (slot.Claim lane))
less_claim x lane = record { number = λ n is. absurd cc; value = λ n is. absurd cc }

-- a seal keeps the number of a value alone
kept_stood : (x : Option Slot) (n : ℕ) → standing_value x ≡ Some n → number_in x ≡ Some n
kept_stood None n is = absurd cc
kept_stood (Some (slot.Entry number)) n is = is
kept_stood (Some (slot.Fault number)) n is = absurd cc
kept_stood (Some (slot.Claim lane)) n is = absurd cc
kept_stood (Some (slot.Sealed kept)) n is = absurd cc

pub value_stood : (x : Option Slot) (n : ℕ) → standing_value x ≡ Some n → value_in x ≡ Some n
value_stood None n is = absurd cc
value_stood (Some (slot.Entry number)) n is = is
value_stood (Some (slot.Fault number)) n is = absurd cc
value_stood (Some (slot.Claim lane)) n is = absurd cc
value_stood (Some (slot.Sealed kept)) n is = absurd cc

less_sealed : (x : Option Slot) → IsLess x (Some (slot.Sealed (standing_value x)))
less_sealed x = record { number = kept_stood x; value = value_stood x }

-- the number of a value is a number
pub value_number : (x : Option Slot) (n : ℕ) → value_in x ≡ Some n → number_in x ≡ Some n
value_number None n is = is
value_number (Some (slot.Entry number)) n is = is
value_number (Some (slot.Fault number)) n is = absurd cc
value_number (Some (slot.Claim lane)) n is = is
value_number (Some (slot.Sealed kept)) n is = is

-- or it is this number, in this place
pub record IsStored (at : Place) (new : ℕ) (place : Place) (x y : Option Slot) : Type 0 where
  pub number : (n : ℕ) → number_in y ≡ Some n → (number_in x ≡ Some n) ⊎ ((at ≡ place) × (n ≡ new))
  pub value : (n : ℕ) → value_in y ≡ Some n → (value_in x ≡ Some n) ⊎ ((at ≡ place) × (n ≡ new))

stored_same : (at : Place) (new : ℕ) (place : Place) (x y : Option Slot) → y ≡ x → IsStored at new place x y
stored_same at new place x y same = record { number = λ n is. inl (ap number_in (sym same) ∙ is); value = λ n is. inl (ap value_in (sym same) ∙ is) }

pub stored_entry : (at : Place) (new : ℕ) (place : Place) (x : Option Slot) → at ≡ place → IsStored at new place x (Some (slot.Entry new))
stored_entry at new place x here = record { number = λ n is. inr (here, let e : n ≡ new = cc in e); value = λ n is. inr (here, let e : n ≡ new = cc in e) }

pub stored_fault : (at : Place) (new : ℕ) (place : Place) (x : Option Slot) → at ≡ place → IsStored at new place x (Some (slot.Fault new))
stored_fault at new place x here = record { number = λ n is. inr (here, let e : n ≡ new = cc in e); value = λ n is. absurd cc }

-- ---- all places, before an act and after it

either_less : (b : Bool) (x y z : Option Slot) → IsLess x y → IsLess x z → IsLess x (if b then y else z)
either_less true x y z p q = p
either_less false x y z p q = q

pub less_by : (r : Reply) (s : State Place) (e : Event Place) (place : Place) → IsLess (s.slots place) (slot_after e.lane e.act (s.slots place)) → IsLess (s.slots place) ((state_by r s e).slots place)
less_by (Happens answer) s e place new = either_less (is_on same_place place e.act) (s.slots place) _ _ new (less_same _ _ refl)
less_by (Answers answer) s e place new = less_same _ _ refl
less_by (Refuses why) s e place new = less_same _ _ refl

either_stored : (b : Bool) (at : Place) (new : ℕ) (place : Place) (x y z : Option Slot) → (b ≡ true → IsStored at new place x y) → IsStored at new place x z → IsStored at new place x (if b then y else z)
either_stored true at new place x y z p q = p refl
either_stored false at new place x y z p q = q

pub stored_by : (r : Reply) (s : State Place) (e : Event Place) (at : Place) (new : ℕ) (place : Place) → (is_on same_place place e.act ≡ true → IsStored at new place (s.slots place) (slot_after e.lane e.act (s.slots place)))
    → IsStored at new place (s.slots place) ((state_by r s e).slots place)
stored_by (Happens answer) s e at new place stored = either_stored (is_on same_place place e.act) at new place (s.slots place) _ _ stored (stored_same at new place _ _ refl)
stored_by (Answers answer) s e at new place stored = stored_same at new place _ _ refl
stored_by (Refuses why) s e at new place stored = stored_same at new place _ _ refl

-- ---- values keep their numbers

value_stays : (values more : List ValueText) (n : ℕ) → n < length values → slice_get (values ++ more) n ≡ slice_get values n
value_stays [] more n less = absurd (omega (arith, less))
value_stays (v ∷ values) more zero less = refl
value_stays (v ∷ values) more (suc n) less = value_stays values more n (omega (arith, less))

pub values_stay : (values more : List ValueText) (number : ℕ) → 0 < number → number ≤ length values → value_of (values ++ more) number ≡ value_of values number
values_stay values more zero some few = absurd (omega (arith, some))
values_stay values more (suc n) some few = value_stays values more n (omega (arith, few))

same_value : (found : Option ValueText) (v w : ValueText) → found ≡ Some v → found ≡ Some w → v ≡ w
same_value found v w a b = let e : Some v ≡ Some w = sym a ∙ b in cc

-- ---- states

-- where this value stands in a context, a step of the plan may have left it there
abbrev pub IsLeft : Leaving → ℕ → ValueText → Type 0
IsLeft leaving context value = value.closeable ≡ true → begins_with (codes "bad") value.text ≡ true → (key number : ℕ) → leaving.since < number → leaving.may (context, key) number value.text

-- a value that isn't closeable may stand anywhere
pub not_closed : (leaving : Leaving) (context : ℕ) (text : List ℕ) → IsLeft leaving context (record { text = text; closeable = false })
not_closed leaving context text = λ closes bad. absurd cc

-- the number that was drawn last is that of this value, and stands nowhere yet
pub record IsDrawn (leaving : Leaving) (value : ValueText) (s : ValueState) : Type 0 where
  pub of : IsLeftBy leaving s
  pub some : 0 < s.store.drawn
  pub new : leaving.since < s.store.drawn
  pub fresh : (place : Place) → number_in (s.store.slots place) ≡ Some s.store.drawn → ⊥
  pub is : value_of s.values s.store.drawn ≡ Some value

module _ (leaving : Leaving) where
  pub of_numbered : (key : KeyValue) (s : ValueState) → IsLeftBy leaving s → IsLeftBy leaving (with_number key s)
  of_numbered key s h = record { once = h.once; drawn = h.drawn; values = h.values; since = h.since; keys = prefix_trans leaving.keys s.keys (s.keys ++ key ∷ []) h.keys (key ∷ [], refl); from = h.from }

  pub drawn_numbered : (key : KeyValue) (value : ValueText) (s : ValueState) → IsDrawn leaving value s → IsDrawn leaving value (with_number key s)
  drawn_numbered key value s h = record { of = of_numbered key s h.of; some = h.some; new = h.new; fresh = h.fresh; is = h.is }

  -- an act that stores nothing
  of_less : (act : Act Place) (s : ValueState) → drawn_after act s.store.drawn ≡ s.store.drawn → ((x : Option Slot) → IsLess x (slot_after any_lane act x)) → IsLeftBy leaving s → IsLeftBy leaving (after_act act s)
  of_less act s same less h =
      let t = after_act act s in
      let values : HasValues t = act-values act s same h.values in
      let count : t.store.drawn ≡ s.store.drawn = sym values ∙ h.values in
      let each : (place : Place) → IsLess (s.store.slots place) (t.store.slots place) = λ place. less_by (reply_to act s) s.store (record { lane = any_lane; act = act }) place (less (s.store.slots place)) in
      record {
        once = λ place other number a b. h.once place other number ((each place).number number a) ((each other).number number b);
        drawn = λ place number a. (let d = h.drawn place number ((each place).number number a) in (d.0, omega (arith, d.1, count)));
        values = values;
        since = (let low = h.since in omega (arith, low, count));
        keys = h.keys;
        from = λ context key number value stands is closes bad. h.from context key number value ((each (context, key)).value number stands) is closes bad;
      }

  pub of_removed : (place : Place) (s : ValueState) → IsLeftBy leaving s → IsLeftBy leaving (after_act (Remove place) s)
  of_removed place s h = of_less (Remove place) s refl less_none h

  pub of_claimed : (place : Place) (s : ValueState) → IsLeftBy leaving s → IsLeftBy leaving (after_act (Claim place) s)
  of_claimed place s h = of_less (Claim place) s refl (λ x. less_claim x any_lane) h

  pub of_abandoned : (place : Place) (s : ValueState) → IsLeftBy leaving s → IsLeftBy leaving (after_act (Abandon place) s)
  of_abandoned place s h = of_less (Abandon place) s refl less_none h

  pub of_sealed : (place : Place) (s : ValueState) → IsLeftBy leaving s → IsLeftBy leaving (after_act (Seal place) s)
  of_sealed place s h = of_less (Seal place) s refl less_sealed h

  -- a value is kept
  kept_from : (value : ValueText) (s : ValueState) → IsLeftBy leaving s → (context key number : ℕ) (v : ValueText) → value_in (s.store.slots (context, key)) ≡ Some number → value_of (s.values ++ value ∷ []) number ≡ Some v → v.closeable ≡ true
      → begins_with (codes "bad") v.text ≡ true → leaving.may (context, key) number v.text
  kept_from value s h context key number v stands is closes bad =
      let d = h.drawn (context, key) number (value_number (s.store.slots (context, key)) number stands) in
      let few : number ≤ length s.values = omega (arith, d.1, h.values) in
      h.from context key number v stands (sym (values_stay s.values (value ∷ []) number d.0 few) ∙ is) closes bad

  pub of_kept : (value : ValueText) (s : ValueState) → why_refused (next_number s) s ≡ None → IsLeftBy leaving s → IsDrawn leaving value (keep_value value s)
  of_kept value s room h =
      let t = keep_value value s in
      let count : t.store.drawn ≡ suc s.store.drawn = keep-drawn value s room in
      let same : (place : Place) → t.store.slots place ≡ s.store.slots place = λ place. others_stay s.numbers s.store any_lane (next_number s) place refl in
      let stood : (place : Place) (number : ℕ) → number_in (t.store.slots place) ≡ Some number → number_in (s.store.slots place) ≡ Some number = λ place number is. ap number_in (sym (same place)) ∙ is in
      record {
        of = record {
          once = λ place other number a b. h.once place other number (stood place number a) (stood other number b);
          drawn = λ place number a. (let d = h.drawn place number (stood place number a) in (d.0, omega (arith, d.1, count)));
          values = (let longer = length-append s.values (value ∷ []) in omega (arith, longer, count, h.values));
          since = (let low = h.since in omega (arith, low, count));
          keys = h.keys;
          from = λ context key number v stands is closes bad. kept_from value s h context key number v (ap value_in (sym (same (context, key))) ∙ stands) is closes bad;
        };
        some = omega (arith, count);
        new = (let low = h.since in omega (arith, low, count));
        fresh = λ place is. (let d = h.drawn place t.store.drawn (stood place t.store.drawn is) in absurd (omega (arith, d.1, count)));
        is = ap (value_of (s.values ++ value ∷ [])) (count ∙ ap suc (sym h.values)) ∙ last_value s.values value;
      }

  -- its number is stored
  module _ (at : Place) (value : ValueText) (s t : ValueState) (h : IsDrawn leaving value s) (each : (place : Place) → IsStored at s.store.drawn place (s.store.slots place) (t.store.slots place)) where
    stored_once : (place other : Place) (number : ℕ) → number_in (t.store.slots place) ≡ Some number → number_in (t.store.slots other) ≡ Some number → place ≡ other
    stored_once place other number a b =
        ⊎_elim
        (λ old. ⊎_elim (λ old'. h.of.once place other number old old') (λ new'. absurd (h.fresh place (old ∙ ap (λ n. Some n) new'.1))) ((each other).number number b))
        (λ new. ⊎_elim (λ old'. absurd (h.fresh other (old' ∙ ap (λ n. Some n) new.1))) (λ new'. sym new.0 ∙ new'.0) ((each other).number number b))
        ((each place).number number a)

    stored_drawn : t.store.drawn ≡ s.store.drawn → (place : Place) (number : ℕ) → number_in (t.store.slots place) ≡ Some number → (0 < number) × (number ≤ t.store.drawn)
    stored_drawn count place number a =
        let some = h.some in
        ⊎_elim
        (λ old. (let d = h.of.drawn place number old in (d.0, omega (arith, d.1, count))))
        (λ new. (omega (arith, new.1, some), omega (arith, new.1, count)))
        ((each place).number number a)

    stored_from : t.values ≡ s.values → IsLeft leaving at.0 value → (context key number : ℕ) (v : ValueText) → value_in (t.store.slots (context, key)) ≡ Some number → value_of t.values number ≡ Some v → v.closeable ≡ true
        → begins_with (codes "bad") v.text ≡ true → leaving.may (context, key) number v.text
    stored_from same left context key number v stands is closes bad =
        let was : value_of s.values number ≡ Some v = ap (λ vs. value_of vs number) (sym same) ∙ is in
        ⊎_elim
        (λ old. h.of.from context key number v old was closes bad)
        (λ new.
        let one : value ≡ v = same_value (value_of s.values s.store.drawn) value v h.is (ap (value_of s.values) (sym new.1) ∙ was) in
        let late = h.new in
        let past : leaving.since < number = omega (arith, late, new.1) in
        subst (λ (p : Place). leaving.may p number v.text) new.0 (subst (IsLeft leaving at.0) one left closes bad at.1 number past))
        ((each (context, key)).value number stands)

    of_stored : t.values ≡ s.values → t.keys ≡ s.keys → HasValues t → IsLeft leaving at.0 value → IsLeftBy leaving t
    of_stored same kept values left =
        let count : t.store.drawn ≡ s.store.drawn = sym values ∙ (ap length same ∙ h.of.values) in
        record { once = stored_once; drawn = stored_drawn count; values = values; since = (let low = h.of.since in omega (arith, low, count)); keys = subst (IsPrefix leaving.keys) (sym kept) h.of.keys; from = stored_from same left }

  -- an act that stores it
  of_act : (act : Act Place) (at : Place) (value : ValueText) (s : ValueState) → drawn_after act s.store.drawn ≡ s.store.drawn
      → ((place : Place) (x : Option Slot) → is_on same_place place act ≡ true → IsStored at s.store.drawn place x (slot_after any_lane act x)) → IsDrawn leaving value s → IsLeft leaving at.0 value → IsLeftBy leaving (after_act act s)
  of_act act at value s same stored h left =
      of_stored at value s (after_act act s) h
      (λ place. stored_by (reply_to act s) s.store (record { lane = any_lane; act = act }) at s.store.drawn place (stored place (s.store.slots place)))
      refl refl (act-values act s same h.of.values) left

  pub of_put : (at : Place) (value : ValueText) (s : ValueState) → IsDrawn leaving value s → IsLeft leaving at.0 value → IsLeftBy leaving (after_act (Put at s.store.drawn) s)
  of_put at value s h left = of_act (Put at s.store.drawn) at value s refl (λ place x on. stored_entry at s.store.drawn place x (same_place_is at place on)) h left

  pub of_filled : (at : Place) (value : ValueText) (s : ValueState) → IsDrawn leaving value s → IsLeft leaving at.0 value → IsLeftBy leaving (after_act (Fill at s.store.drawn) s)
  of_filled at value s h left = of_act (Fill at s.store.drawn) at value s refl (λ place x on. stored_entry at s.store.drawn place x (same_place_is at place on)) h left

  pub of_failed : (at : Place) (value : ValueText) (s : ValueState) → IsDrawn leaving value s → IsLeft leaving at.0 value → IsLeftBy leaving (after_act (Fail at s.store.drawn) s)
  of_failed at value s h left = of_act (Fail at s.store.drawn) at value s refl (λ place x on. stored_fault at s.store.drawn place x (same_place_is at place on)) h left

-- ---- before the first node

pub opens_of_plan : OpensOfPlan
opens_of_plan plan keeps places numbers = record {
  once = λ place other number first second. absurd cc;
  drawn = λ place number is. absurd cc;
  values = refl;
  since = omega arith;
  keys = ([], refl);
  from = λ context key number value stands is closes bad. absurd cc;
}
