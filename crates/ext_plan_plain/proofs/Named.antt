-- The numbers of keys in a plain run: each key has one at most, and keeps it; a step whose key gets none changes nothing.
use Rattle.std.proofs.Common.{◌≡◌, ℕ, Bool, true, false, List, [], ◌∷◌, length, length-append, Option, Some, None, inl, inr, refl, ap, sym, ◌∙◌, arith, true≢false}
use Rattle.std.specs.Prelude.{◌&&◌, if◌then◌else◌}
use Rattle.std.proofs.lemmas.Bool.{ltb-true}
use Rattle.ext_tree.specs.Keys.{KeyValue, HasNumber}
use Rattle.ext_tree.proofs.Numbers.{different_with}
use Rattle.ext_plan.specs.declared.word.Word.{Word}
use Rattle.ext_plan.specs.Plans.{KeyText, StepKeyText, StepText, keyed, fail, abort}
use Rattle.ext_plan.specs.StoreKeys.{is_there, key_of_step}
use Rattle.ext_plan.specs.Steps.{step_key}
use Rattle.ext_plan.proofs.KeyLists.{not_contained}
use Rattle.ext_plan.specs.declared.reason.Reason.{Reason}
use Rattle.ext_plan.specs.declared.reason.Reason.TheVariants as reasons
use Rattle.ext_plan.specs.StepWords.{word_text}
use Rattle.ext_plan.specs.StepCalls.{call_of, is_made}
use Rattle.ext_plan.specs.Values.{ValueText}
use Rattle.ext_plan.specs.Verdicts.{refused}
use Rattle.ext_plan_plain.specs.ValueStates.{Memory, enough, no_key, no_value, no_number, no_place, no_words, ValueState, why_refused, next_number, keep_value, Numbering, known, next, full, numbering_of, with_number}
use Rattle.ext_plan_plain.specs.StepRuns.{StepEnd, ended, no_memory, said_by, lacks_key, lacks_number, lacks_value, number_by, numbered_by, kept_or_refused, acts_by, call_by, first_kept, step_by, value_first}
use Rattle.ext_plan_plain.specs.PlainRunLaws.{IsUnchangedButKept, KeepsNumber, NumbersKeys, NumbersOnce, kept_first}
use Rattle.ext_plan_plain.proofs.Kept.{IsKept, IsKeptNumbered, acts-kept, node-kept, step-kept, steps-kept}
use Rattle.ext_plan_plain.proofs.Numberings.{known_is, next_is, number_stays, there_then}

-- ---- no act on the store changes the keys that have numbers

abbrev pub OfKeys : (List KeyValue → Type 0) → ValueState → Type 0
OfKeys Q s = Q s.keys

pub of-keys : (Q : List KeyValue → Type 0) → IsKept (OfKeys Q)
of-keys Q = record {
  finds = λ memory s h. h;
  puts = λ place number s h. h;
  removes = λ place s h. h;
  seals = λ place s h. h;
  keeps = λ value s room h. h;
  abandons = λ place s won h. h;
  fills = λ place value s won room h. h;
  fails = λ place value s keeps won room h. h;
}

-- ---- each key has one number at most

keys_kept : IsKept NumbersKeys
keys_kept = record {
  finds = λ memory s h. record { different = h.different; few = h.few };
  puts = λ place number s h. record { different = h.different; few = h.few };
  removes = λ place s h. record { different = h.different; few = h.few };
  seals = λ place s h. record { different = h.different; few = h.few };
  keeps = λ value s room h. record { different = h.different; few = h.few };
  abandons = λ place s won h. record { different = h.different; few = h.few };
  fills = λ place value s won room h. record { different = h.different; few = h.few };
  fails = λ place value s keeps won room h. record { different = h.different; few = h.few };
}

one-more : (key : KeyValue) (number : ℕ) (s : ValueState) → numbering_of s.places s.keys key ≡ next number → NumbersKeys s → NumbersKeys (with_number key s)
one-more key number s is h =
    let new = next_is s.places s.keys key number is in
    let room = ltb-true (length s.keys) s.places new.room in
    let longer = length-append s.keys (key ∷ []) in
    record { different = different_with s.keys key h.different (not_contained s.keys key new.there); few = omega (arith, room, longer) }

keys_numbered : IsKeptNumbered NumbersKeys
keys_numbered = record { numbers = one-more }

pub numbers-once : NumbersOnce
numbers-once = record {
  step = λ keys found path step s h. step-kept NumbersKeys keys_kept keys_numbered keys found path step s h;
  steps = λ keys path steps s h. steps-kept NumbersKeys keys_kept keys_numbered keys path steps s h;
  node = λ plan levels path run h. node-kept NumbersKeys keys_kept keys_numbered plan levels path run h;
}

-- ---- a number stays

module _ (key : KeyValue) (number : ℕ) where
  abbrev Has : List KeyValue → Type 0
  Has keys = HasNumber keys key number

  has-numbered : IsKeptNumbered (OfKeys Has)
  has-numbered = record { numbers = λ other n s is h. number_stays s.keys (other ∷ []) key number h }

  pub number-kept : KeepsNumber key number
  number-kept = record {
    step = λ keys found path step s h. step-kept (OfKeys Has) (of-keys Has) has-numbered keys found path step s h;
    steps = λ keys path steps s h. steps-kept (OfKeys Has) (of-keys Has) has-numbered keys path steps s h;
    node = λ plan levels path run h. node-kept (OfKeys Has) (of-keys Has) has-numbered plan levels path run h;
  }

-- ---- a step whose key gets no number

module _ (key : KeyValue) where
  abbrev There : List KeyValue → Type 0
  There keys = is_there keys key ≡ true

  abbrev Absent : List KeyValue → Type 0
  Absent keys = is_there keys key ≡ false

  said-state : (P : ValueState → Type 0) (found : Memory) (end : StepEnd) → P end.state → P (said_by found end).state
  said-state P enough end h = h
  said-state P no_key end h = h
  said-state P no_value end h = h
  said-state P no_number end h = h
  said-state P no_place end h = h
  said-state P no_words end h = h

  either-state : (P : ValueState → Type 0) (b : Bool) (x y : StepEnd) → (Absent x.state.keys → P x.state) → (Absent y.state.keys → P y.state) → Absent (if b then x else y).state.keys → P (if b then x else y).state
  either-state P true x y p q = p
  either-state P false x y p q = q

  -- the step went on, and the key has its number
  goes-there : (P : ValueState → Type 0) (end : StepEnd) → There end.state.keys → Absent end.state.keys → P end.state
  goes-there P end there absent = absurd (true≢false (sym there ∙ absent))

  number-absent : (P : ValueState → Type 0) (found : Memory) (name label : List ℕ) (goes_on : ℕ → ValueState → StepEnd) (s : ValueState) (numbering : Numbering) → numbering_of s.places s.keys key ≡ numbering
      → ((number : ℕ) (t : ValueState) → There t.keys → There (goes_on number t).state.keys) → P s → Absent (number_by found name label key goes_on s numbering).state.keys → P (number_by found name label key goes_on s numbering).state
  number-absent P found name label goes_on s (known number) is each h = goes-there P (goes_on number s) (each number s (known_is s.places s.keys key number is).there)
  number-absent P found name label goes_on s (next number) is each h =
      either-state P (lacks_number found) (ended no_memory s) (goes_on number (with_number key s)) (λ absent. h)
      (goes-there P (goes_on number (with_number key s)) (each number (with_number key s) (there_then s.keys key (next_is s.places s.keys key number is).there)))
  number-absent P found name label goes_on s full is each h = λ absent. said-state P found (ended (refused name label reasons.DirectoryFull) s) h

  kept_or_refused-absent : (P : ValueState → Type 0) (found : Memory) (name label : List ℕ) (why : Option Reason) (s : ValueState) (goes_on : StepEnd) → P s → (Absent goes_on.state.keys → P goes_on.state)
      → Absent (kept_or_refused found name label why s goes_on).state.keys → P (kept_or_refused found name label why s goes_on).state
  kept_or_refused-absent P found name label None s goes_on h go = go
  kept_or_refused-absent P found name label (Some why) s goes_on h go = λ absent. said-state P found (ended (refused name label why) s) h

  first-absent : (found : Memory) (name label : List ℕ) (value : Option ValueText) (goes_on : ValueState → StepEnd) (old : ValueState)
      → ((P : ValueState → Type 0) (t : ValueState) → P t → Absent (goes_on t).state.keys → P (goes_on t).state) → Absent (first_kept found name label value goes_on old).state.keys
      → IsUnchangedButKept value old (first_kept found name label value goes_on old).state
  first-absent found name label None goes_on old each = each (λ t. t ≡ old) old refl
  first-absent found name label (Some value) goes_on old each =
      let P : ValueState → Type 0 = IsUnchangedButKept (Some value) old in
      let why = why_refused (next_number old) old in
      let stored = goes_on (keep_value value old) in
      either-state P (lacks_value found) (ended no_memory old) (kept_or_refused found name label why old stored) (λ absent. inl refl)
      (kept_or_refused-absent P found name label why old stored (inl refl) (each P (keep_value value old) (inr refl)))

module _ (keys : List KeyText) (found : Memory) (path : List ℕ) where
  unchanged : (value : Option ValueText) (s : ValueState) → IsUnchangedButKept value s s
  unchanged None s = refl
  unchanged (Some value) s = inl refl

  keyed-absent : (word : Word) (own : StepKeyText) (text : List ℕ) (up : ℕ) (s : ValueState) → is_there (step_by keys found path (keyed word own text up) s).state.keys (key_of_step keys own) ≡ false
      → IsUnchangedButKept (value_first word text) s (step_by keys found path (keyed word own text up) s).state
  keyed-absent word own text up s =
      let k = key_of_step keys own in
      let call = call_of keys path (word_text word) own up in
      let value = value_first word text in
      let acts : ℕ → ValueState → StepEnd = acts_by found word call text in
      either-state k (IsUnchangedButKept value s) (lacks_key found && is_made keys own) (ended no_memory s) (call_by found word call text s) (λ absent. unchanged value s)
      (first-absent k found call.name call.label value (numbered_by found call.name call.label call.key acts) s
      (λ P t h. number-absent k P found call.name call.label acts t (numbering_of t.places t.keys k) refl (acts-kept (OfKeys (There k)) (of-keys (There k)) found word call text) h))

  -- the key that the step names is the one that is spoken of
  by_own : (own key : StepKeyText) (step : StepText) (s : ValueState) → own ≡ key → is_there (step_by keys found path step s).state.keys (key_of_step keys key) ≡ false
      → is_there (step_by keys found path step s).state.keys (key_of_step keys own) ≡ false
  by_own own key step s is absent = ap (λ k. is_there (step_by keys found path step s).state.keys (key_of_step keys k)) is ∙ absent

  step-absent : (step : StepText) (key : StepKeyText) (s : ValueState) → step_key step ≡ Some key → is_there (step_by keys found path step s).state.keys (key_of_step keys key) ≡ false
      → IsUnchangedButKept (kept_first step) s (step_by keys found path step s).state
  step-absent (keyed word own text up) key s is absent = keyed-absent word own text up s (by_own own key (keyed word own text up) s (let e : own ≡ key = cc in e) absent)
  step-absent (fail text) key s is absent = absurd cc
  step-absent (abort text) key s is absent = absurd cc

pub unnumbered : (keys : List KeyText) (found : Memory) (path : List ℕ) (step : StepText) (key : StepKeyText) (s : ValueState) → step_key step ≡ Some key
    → is_there (step_by keys found path step s).state.keys (key_of_step keys key) ≡ false → IsUnchangedButKept (kept_first step) s (step_by keys found path step s).state
unnumbered keys found path step key s is absent = step-absent keys found path step key s is absent
