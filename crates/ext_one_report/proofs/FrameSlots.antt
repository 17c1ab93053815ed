-- What a part of a plain run leaves as it was, put together of what its acts leave.
use Rattle.std.proofs.Common.{◌≡◌, ◌≤◌, inl, inr, ℕ, ◌+◌, Bool, true, false, true≢false, List, [], ◌∷◌, ◌++◌, length, length-append, Some, None, Contains, refl, ap, sym, subst, ◌∙◌, arith}
use Rattle.std.specs.Prelude.{if◌then◌else◌}
use Rattle.std.proofs.lemmas.List.Elements.{Contains-append_cases}
use Rattle.ext_history.proofs.Lists.{bools, contains_cons}
use Rattle.ext_model.specs.declared.event.Act.{Act}
use Rattle.ext_model.specs.declared.event.Act.TheVariants.{Keep, Put, Remove, Claim, Fill, Fail, Abandon, Seal}
use Rattle.ext_model.specs.State.{State}
use Rattle.ext_model.specs.Events.{Reply, Happens, Answers, Refuses, drawn_after, is_at, place_of}
use Rattle.ext_model.specs.Plain.{Place, any_lane, plain_reply, same_place, state_by}
use Rattle.ext_model.proofs.Changes.{same_place_is}
use Rattle.ext_model.proofs.Steps.{others_stay}
use Rattle.ext_tree.specs.Keys.{KeyValue}
use Rattle.ext_plan.specs.StoreKeys.{is_there, number_of_key}
use Rattle.ext_plan.specs.Values.{ValueText}
use Rattle.ext_plan.proofs.KeyLists.{is_contained, not_contained, key_number_last, key_number_within}
use Rattle.ext_plan_plain.specs.ValueStates.{ValueState, after_act, keep_value, next_number, reply_to, value_of, with_number}
use Rattle.ext_one_report.proofs.MatchingWords.{Places, plain_slot}
use Rattle.ext_one_report.proofs.Matching.{draw_slots, one_of_place, place_stays, plain_none, plain_there, there_more, values_known}
use Rattle.ext_one_report.proofs.PlainFrames.{IsOpen, LeavesElse}

-- what is not so is false
pub not_so : (b : Bool) → (b ≡ true → ⊥) → b ≡ false
not_so true h = absurd (h refl)
not_so false h = refl

-- what is false of more is false
fewer : (a b : Bool) → (a ≡ true → b ≡ true) → b ≡ false → a ≡ false
fewer a b more none = not_so a (λ is. true≢false (sym (more is) ∙ none))

-- ---- one part after another

pub leaves_itself : (changes : Places) (closes : ℕ → Bool) (s : ValueState) → LeavesElse changes closes s s
leaves_itself changes closes s = record {
  slots = λ context key none still clear. refl;
  values = λ number value is. is;
  drawn = omega arith;
  stays_open = λ context still clear. clear;
  keeps = refl;
  memory = λ none. none;
}

pub leaves_then : (changes : Places) (closes : ℕ → Bool) (s t u : ValueState) → LeavesElse changes closes s t → LeavesElse changes closes t u → LeavesElse changes closes s u
leaves_then changes closes s t u first second = record {
  slots = λ context key none still clear. second.slots context key none still (first.stays_open context still clear) ∙ first.slots context key none still clear;
  values = λ number value is. second.values number value (first.values number value is);
  drawn = let a = first.drawn in let b = second.drawn in omega (arith, a, b);
  stays_open = λ context still clear. second.stays_open context still (first.stays_open context still clear);
  keeps = second.keeps ∙ first.keeps;
  memory = λ none. second.memory (first.memory none);
}

pub leaves_more : (changes more : Places) (closes closes_more : ℕ → Bool) (s t : ValueState)
    → ((context : ℕ) (key : KeyValue) → changes context key ≡ true → more context key ≡ true) → ((context : ℕ) → closes context ≡ true → closes_more context ≡ true)
    → LeavesElse changes closes s t → LeavesElse more closes_more s t
leaves_more changes more closes closes_more s t wider longer leaves = record {
  slots = λ context key none still clear. leaves.slots context key (fewer (changes context key) (more context key) (wider context key) none) (fewer (closes context) (closes_more context) (longer context) still) clear;
  values = leaves.values;
  drawn = leaves.drawn;
  stays_open = λ context still clear. leaves.stays_open context (fewer (closes context) (closes_more context) (longer context) still) clear;
  keeps = leaves.keeps;
  memory = leaves.memory;
}

-- ---- a key gets its number

contains_fewer : (keys : List KeyValue) (key last : KeyValue) → Contains (keys ++ last ∷ []) key → (Contains keys key → ⊥) → last ≡ key
contains_fewer keys key last there new =
    elim (Contains-append_cases keys (last ∷ []) key there) [
      | inl before ↦ absurd (new before)
      | inr now ↦ elim (contains_cons last [] key now) [
        | inl is ↦ is
        | inr none ↦ absurd (omega (arith, none.1))
      ]
    ]

slot_named : (s : ValueState) (first : KeyValue) (context : ℕ) (key : KeyValue) → is_there s.keys first ≡ false → IsOpen context s → plain_slot (with_number first s) context key ≡ plain_slot s context key
slot_named s first context key new clear =
    elim (bools (is_there s.keys key)) [
      | inl there ↦ plain_there (with_number first s) context key (there_more s.keys key first there)
          ∙ (ap (λ n. s.store.slots (context, n)) (place_stays s.keys (first ∷ []) key there) ∙ sym (plain_there s context key there))
      | inr none ↦ elim (bools (is_there (s.keys ++ first ∷ []) key)) [
        | inl now ↦
            let same : first ≡ key = contains_fewer s.keys key first (is_contained (s.keys ++ first ∷ []) key now) (not_contained s.keys key none) in
            let last : number_of_key (s.keys ++ first ∷ []) key ≡ length s.keys = subst (λ k. number_of_key (s.keys ++ first ∷ []) k ≡ length s.keys) same (key_number_last s.keys first new) in
            plain_there (with_number first s) context key now ∙ (ap (λ n. s.store.slots (context, n)) last ∙ (clear (length s.keys) (omega arith) ∙ sym (plain_none s context key none)))
        | inr still ↦ plain_none (with_number first s) context key still ∙ sym (plain_none s context key none)
      ]
    ]

shorter : (keys : List KeyValue) (key : KeyValue) (number : ℕ) → length (keys ++ key ∷ []) ≤ number → length keys ≤ number
shorter keys key number past = let more = length-append keys (key ∷ []) in omega (arith, past, more)

pub leaves_named : (changes : Places) (closes : ℕ → Bool) (key : KeyValue) (s : ValueState) → is_there s.keys key ≡ false → LeavesElse changes closes s (with_number key s)
leaves_named changes closes first s new = record {
  slots = λ context key none still clear. slot_named s first context key new clear;
  values = λ number value is. is;
  drawn = omega arith;
  stays_open = λ context still clear. λ number past. clear number (shorter s.keys first number past);
  keeps = refl;
  memory = λ none. none;
}

-- ---- acts

-- the later state comes of acts at this place, and of values that are kept
pub record ActsAt (place : Place) (s t : ValueState) : Type 0 where
  pub slots : (other : Place) → same_place place other ≡ false → t.store.slots other ≡ s.store.slots other
  pub keys : t.keys ≡ s.keys
  pub values : (number : ℕ) (value : ValueText) → value_of s.values number ≡ Some value → value_of t.values number ≡ Some value
  pub drawn : s.store.drawn ≤ t.store.drawn
  pub keeps : t.keep_faults ≡ s.keep_faults
  pub memory : t.memory ≡ s.memory

pub acts_itself : (place : Place) (s : ValueState) → ActsAt place s s
acts_itself place s = record {
  slots = λ other apart. refl;
  keys = refl;
  values = λ number value is. is;
  drawn = omega arith;
  keeps = refl;
  memory = refl;
}

more_drawn : (act : Act Place) (drawn : ℕ) → drawn ≤ drawn_after act drawn
more_drawn (Keep number) drawn = omega arith
more_drawn (Put at number) drawn = omega arith
more_drawn (Remove at) drawn = omega arith
more_drawn (Claim at) drawn = omega arith
more_drawn (Fill at number) drawn = omega arith
more_drawn (Fail at number) drawn = omega arith
more_drawn (Abandon at) drawn = omega arith
more_drawn (Seal at) drawn = omega arith

pub reply_drawn : (r : Reply) (s : State Place) (act : Act Place) → s.drawn ≤ (state_by r s (record { lane = any_lane; act = act })).drawn
reply_drawn (Happens answer) s act = more_drawn act s.drawn
reply_drawn (Answers answer) s act = omega arith
reply_drawn (Refuses why) s act = omega arith

pub acts_more : (place : Place) (act : Act Place) (s t : ValueState) → place_of act ≡ Some place → ActsAt place s t → ActsAt place s (after_act act t)
acts_more place act s t at acts = record {
  slots = λ other apart. others_stay t.numbers t.store any_lane act other (ap (is_at same_place other) at ∙ apart) ∙ acts.slots other apart;
  keys = acts.keys;
  values = acts.values;
  drawn = let before = acts.drawn in let now = reply_drawn (reply_to act t) t.store act in omega (arith, before, now);
  keeps = acts.keeps;
  memory = acts.memory;
}

pub acts_kept : (place : Place) (value : ValueText) (s t : ValueState) → ActsAt place s t → ActsAt place s (keep_value value t)
acts_kept place value s t acts = record {
  slots = λ other apart. draw_slots (plain_reply t.numbers t.store any_lane (next_number t)) t.store any_lane (t.store.drawn + 1) other ∙ acts.slots other apart;
  keys = acts.keys;
  values = λ number v is. (values_known t.values (value ∷ [])).values number v (acts.values number v is);
  drawn = let before = acts.drawn in let now = reply_drawn (reply_to (next_number t) t) t.store (next_number t) in omega (arith, before, now);
  keeps = acts.keeps;
  memory = acts.memory;
}

-- ---- what acts leave

-- of two states whose keys and slots agree there
slot_same : (s t : ValueState) (context : ℕ) (key : KeyValue) → t.keys ≡ s.keys → (is_there s.keys key ≡ true → t.store.slots (context, number_of_key s.keys key) ≡ s.store.slots (context, number_of_key s.keys key))
    → plain_slot t context key ≡ plain_slot s context key
slot_same s t context key keys same =
    ap (λ ks. if is_there ks key then t.store.slots (context, number_of_key ks key) else None) keys
    ∙ elim (bools (is_there s.keys key)) [
      | inl there ↦ ap (λ b. if b then t.store.slots (context, number_of_key s.keys key) else None) there ∙ (same there ∙ sym (plain_there s context key there))
      | inr none ↦ ap (λ b. if b then t.store.slots (context, number_of_key s.keys key) else None) none ∙ sym (plain_none s context key none)
    ]

same_length : (keys others : List KeyValue) (number : ℕ) → others ≡ keys → length others ≤ number → length keys ≤ number
same_length keys others number is past = subst (λ ks. length ks ≤ number) is past

-- acts at the place of a key that has its number
pub leaves_acts : (changes : Places) (closes : ℕ → Bool) (at number : ℕ) (key : KeyValue) (s t : ValueState) → is_there s.keys key ≡ true → number ≡ number_of_key s.keys key → changes at key ≡ true
    → ActsAt (at, number) s t → LeavesElse changes closes s t
leaves_acts changes closes at number key s t there is may acts = record {
  slots = λ context other none still clear. slot_same s t context other acts.keys
      (λ also. acts.slots (context, number_of_key s.keys other) (not_so (same_place (at, number) (context, number_of_key s.keys other)) (λ same.
      let one = same_place_is (at, number) (context, number_of_key s.keys other) same in
      let k : key ≡ other = one_of_place s.keys key other there also (sym is ∙ ap (λ (p : Place). p.1) one) in
      true≢false (sym may ∙ (ap (λ c. changes c key) (ap (λ (p : Place). p.0) one) ∙ (ap (changes context) k ∙ none))))));
  values = acts.values;
  drawn = acts.drawn;
  stays_open = λ context still clear. λ past_it past.
      let past_all = same_length s.keys t.keys past_it acts.keys past in
      acts.slots (context, past_it) (not_so (same_place (at, number) (context, past_it)) (λ same.
      let one : number ≡ past_it = ap (λ (p : Place). p.1) (same_place_is (at, number) (context, past_it) same) in
      let within = key_number_within s.keys key there in
      absurd (omega (arith, one, within, is, past_all))))
      ∙ clear past_it past_all;
  keeps = acts.keeps;
  memory = λ none. acts.memory ∙ none;
}

-- acts in a context that is closed
pub leaves_closed : (node number : ℕ) (s t : ValueState) → ActsAt (node, number) s t → (changes : Places) (closes : ℕ → Bool) → closes node ≡ true → LeavesElse changes closes s t
leaves_closed node number s t acts changes closes closed = record {
  slots = λ context other none still clear. slot_same s t context other acts.keys
      (λ also. acts.slots (context, number_of_key s.keys other) (elsewhere context (number_of_key s.keys other) still));
  values = acts.values;
  drawn = acts.drawn;
  stays_open = λ context still clear. λ past_it past. acts.slots (context, past_it) (elsewhere context past_it still) ∙ clear past_it (same_length s.keys t.keys past_it acts.keys past);
  keeps = acts.keeps;
  memory = λ none. acts.memory ∙ none;
}
  where
    elsewhere : (context other : ℕ) → closes context ≡ false → same_place (node, number) (context, other) ≡ false
    elsewhere context other still = not_so (same_place (node, number) (context, other)) (λ same.
        let one = same_place_is (node, number) (context, other) same in
        true≢false (sym closed ∙ (ap (λ (p : Place). closes p.0) one ∙ still)))

-- a value that is kept
pub leaves_kept : (changes : Places) (closes : ℕ → Bool) (value : ValueText) (s : ValueState) → LeavesElse changes closes s (keep_value value s)
leaves_kept changes closes value s =
    let drawn : (place : Place) → (keep_value value s).store.slots place ≡ s.store.slots place =
    draw_slots (plain_reply s.numbers s.store any_lane (next_number s)) s.store any_lane (s.store.drawn + 1) in record {
      slots = λ context key none still clear. slot_same s (keep_value value s) context key refl (λ there. drawn (context, number_of_key s.keys key));
      values = λ number v is. (values_known s.values (value ∷ [])).values number v is;
      drawn = reply_drawn (reply_to (next_number s) s) s.store (next_number s);
      stays_open = λ context still clear. λ number past. drawn (context, number) ∙ clear number past;
      keeps = refl;
      memory = λ none. none;
    }
