-- What the steps after it find of memory goes through each step of a plain run, and through the end of a context.
use Rattle.std.proofs.Common.{◌≡◌, ℕ, zero, suc, Bool, true, false, List, [], ◌∷◌, Option, Some, None, refl, ap, ◌∙◌}
use Rattle.std.specs.Prelude.{◌&&◌, if◌then◌else◌}
use Rattle.ext_model.specs.declared.event.Act.TheVariants.{Seal, Abandon, Claim, Fail}
use Rattle.ext_model.specs.declared.look.Look.{Look}
use Rattle.ext_model.specs.declared.look.Look.TheVariants as look
use Rattle.ext_model.specs.declared.slot.Slot.{Slot}
use Rattle.ext_model.specs.Plain.{Place}
use Rattle.ext_lifecycle.specs.declared.outcome.Outcome.{Outcome}
use Rattle.ext_lifecycle.specs.Endings.{successful, aborted, failed}
use Rattle.ext_plan.specs.declared.word.Word.{Word}
use Rattle.ext_plan.specs.declared.word.Word.TheVariants as words
use Rattle.ext_plan.specs.Plans.{KeyText, StepText, keyed, fail, abort}
use Rattle.ext_plan.specs.declared.reason.Reason.{Reason}
use Rattle.ext_plan.specs.Values.{ValueText}
use Rattle.ext_plan.specs.StepWords.{word_text}
use Rattle.ext_plan.specs.StepCalls.{CallText, call_of, is_made, start_of}
use Rattle.ext_tree.specs.Keys.{KeyValue}
use Rattle.ext_plan_plain.specs.ValueStates.{Memory, enough, no_key, no_value, no_number, no_place, no_words, ValueState, with_memory, after_act, why_refused, next_number, keep_value, Numbering, known, next, full, numbering_of, with_number}
use Rattle.ext_plan_plain.specs.StepRuns.{StepEnd, ended, no_memory, said_by, lacks_key, lacks_value, lacks_number, lacks_place, made_by, number_by, numbered_by, or_refused, kept_or_refused, put_kept, put_in, factory_gave, factory_failed, if_empty, if_absent, claim_and, compute_looked, compute_by, computefail_looked, computefail_by, found_along, step_by, next_step, acts_by, call_by, first_kept, value_first}
use Rattle.ext_plan_plain.specs.ContextEnds.{seal_keys}
use Rattle.ext_plan_plain.specs.InnerSteps.{step_end}

abbrev pub end_with : List Memory → StepEnd → StepEnd
end_with memory end = record { state = with_memory memory end.state; verdict = end.verdict; computed = end.computed; found = end.found }

module _ (m : List Memory) where
  or_refused-with : (name label : List ℕ) (why : Option Reason) (s : ValueState) (goes_on : StepEnd) → end_with m (or_refused name label why s goes_on) ≡ or_refused name label why (with_memory m s) (end_with m goes_on)
  or_refused-with name label None s goes_on = refl
  or_refused-with name label (Some why) s goes_on = refl

  said_by-with : (found : Memory) (end : StepEnd) → end_with m (said_by found end) ≡ said_by found (end_with m end)
  said_by-with enough end = refl
  said_by-with no_key end = refl
  said_by-with no_value end = refl
  said_by-with no_number end = refl
  said_by-with no_place end = refl
  said_by-with no_words end = refl

  if_empty-with : (stands : Option Slot) (empty other : StepEnd) → end_with m (if_empty stands empty other) ≡ if_empty stands (end_with m empty) (end_with m other)
  if_empty-with None empty other = refl
  if_empty-with (Some slot) empty other = refl

  if_absent-with : (found : Look) (absent other : StepEnd) → end_with m (if_absent found absent other) ≡ if_absent found (end_with m absent) (end_with m other)
  if_absent-with (look.Found at number) absent other = refl
  if_absent-with (look.Fault at number) absent other = refl
  if_absent-with look.Absent absent other = refl
  if_absent-with (look.Busy at) absent other = refl
  if_absent-with (look.Closed at) absent other = refl

  -- ---- each step

  if-with : (b : Bool) (x y : StepEnd) → end_with m (if b then x else y) ≡ (if b then end_with m x else end_with m y)
  if-with true x y = refl
  if-with false x y = refl

  made_by-with : (found : Memory) (made : Bool) (s : ValueState) (goes_on : StepEnd) → end_with m (made_by found made s goes_on) ≡ made_by found made (with_memory m s) (end_with m goes_on)
  made_by-with found made s goes_on = if-with (lacks_key found && made) (ended no_memory s) goes_on

  number_by-with : (found : Memory) (name label : List ℕ) (key : KeyValue) (goes_on : ℕ → ValueState → StepEnd) (s : ValueState) (numbering : Numbering) → ((number : ℕ) (t : ValueState) → end_with m (goes_on number t) ≡ goes_on number (with_memory m t))
      → end_with m (number_by found name label key goes_on s numbering) ≡ number_by found name label key goes_on (with_memory m s) numbering
  number_by-with found name label key goes_on s (known number) each = each number s
  number_by-with found name label key goes_on s (next number) each =
      if-with (lacks_number found) (ended no_memory s) (goes_on number (with_number key s))
      ∙ ap (λ e. if lacks_number found then ended no_memory (with_memory m s) else e) (each number (with_number key s))
  number_by-with found name label key goes_on s full each = said_by-with found _

  numbered_by-with : (found : Memory) (name label : List ℕ) (key : KeyValue) (goes_on : ℕ → ValueState → StepEnd) (s : ValueState) → ((number : ℕ) (t : ValueState) → end_with m (goes_on number t) ≡ goes_on number (with_memory m t))
      → end_with m (numbered_by found name label key goes_on s) ≡ numbered_by found name label key goes_on (with_memory m s)
  numbered_by-with found name label key goes_on s each = number_by-with found name label key goes_on s (numbering_of s.places s.keys key) each

  put_in-with : (found : Memory) (name label : List ℕ) (place : Place) (kept : ValueState) → end_with m (put_in found name label place kept) ≡ put_in found name label place (with_memory m kept)
  put_in-with found name label place kept =
      let lacks = ended no_memory kept in
      let stored = put_kept name label place kept in
      said_by-with found (if lacks_place found then if_empty (kept.store.slots place) lacks stored else stored)
      ∙ ap (said_by found) (if-with (lacks_place found) (if_empty (kept.store.slots place) lacks stored) stored ∙ ap (λ e. if lacks_place found then e else end_with m stored) (if_empty-with (kept.store.slots place) lacks stored))

  kept_or_refused-with : (found : Memory) (name label : List ℕ) (why : Option Reason) (s : ValueState) (goes_on : StepEnd)
      → end_with m (kept_or_refused found name label why s goes_on) ≡ kept_or_refused found name label why (with_memory m s) (end_with m goes_on)
  kept_or_refused-with found name label None s goes_on = refl
  kept_or_refused-with found name label (Some why) s goes_on = said_by-with found _

  first-with : (found : Memory) (name label : List ℕ) (value : Option ValueText) (goes_on : ValueState → StepEnd) (s : ValueState) → ((t : ValueState) → end_with m (goes_on t) ≡ goes_on (with_memory m t))
      → end_with m (first_kept found name label value goes_on s) ≡ first_kept found name label value goes_on (with_memory m s)
  first-with found name label None goes_on s each = each s
  first-with found name label (Some value) goes_on s each =
      let why = why_refused (next_number s) s in
      let stored = goes_on (keep_value value s) in
      if-with (lacks_value found) (ended no_memory s) (kept_or_refused found name label why s stored)
      ∙ ap (λ e. if lacks_value found then ended no_memory (with_memory m s) else e) (
      kept_or_refused-with found name label why s stored ∙ ap (kept_or_refused found name label why (with_memory m s)) (each (keep_value value s))
      )

  claim_and-with : (name label : List ℕ) (place : Place) (factory : ValueState → StepEnd) (s : ValueState) → end_with m (factory (after_act (Claim place) s)) ≡ factory (after_act (Claim place) (with_memory m s))
      → end_with m (claim_and name label place factory s) ≡ claim_and name label place factory (with_memory m s)
  claim_and-with name label place factory s is = or_refused-with name label (why_refused (Claim place) s) s (factory (after_act (Claim place) s)) ∙ ap (or_refused name label (why_refused (Claim place) s) (with_memory m s)) is

  factory_gave-with : (name label : List ℕ) (place : Place) (value : ValueText) (s : ValueState) → end_with m (factory_gave name label place value s) ≡ factory_gave name label place value (with_memory m s)
  factory_gave-with name label place value s = or_refused-with name label (why_refused (next_number s) s) (after_act (Abandon place) s) _

  compute_looked-with : (name label : List ℕ) (place : Place) (value : ValueText) (s : ValueState) (found : Look) → end_with m (compute_looked name label place value s found) ≡ compute_looked name label place value (with_memory m s) found
  compute_looked-with name label place value s (look.Found at number) = refl
  compute_looked-with name label place value s (look.Fault at number) = refl
  compute_looked-with name label place value s look.Absent = claim_and-with name label place (factory_gave name label place value) s (factory_gave-with name label place value (after_act (Claim place) s))
  compute_looked-with name label place value s (look.Busy at) = refl
  compute_looked-with name label place value s (look.Closed at) = refl

  compute_by-with : (memory : Memory) (name label : List ℕ) (place : Place) (value : ValueText) (s : ValueState) (found : Look)
      → end_with m (compute_by memory name label place value s found) ≡ compute_by memory name label place value (with_memory m s) found
  compute_by-with enough name label place value s found = compute_looked-with name label place value s found
  compute_by-with no_key name label place value s found = compute_looked-with name label place value s found
  compute_by-with no_number name label place value s found = compute_looked-with name label place value s found
  compute_by-with no_value name label place value s found =
      let gone : ValueState → StepEnd = λ claimed. ended no_memory (after_act (Abandon place) claimed) in
      if_absent-with found (claim_and name label place gone s) (compute_looked name label place value s found)
      ∙ ap (λ e. if_absent found e (end_with m (compute_looked name label place value s found))) (claim_and-with name label place gone s refl)
      ∙ ap (if_absent found (claim_and name label place gone (with_memory m s))) (compute_looked-with name label place value s found)
  compute_by-with no_place name label place value s found =
      if_absent-with found (or_refused name label (why_refused (Claim place) s) s (ended no_memory s)) (compute_looked name label place value s found)
      ∙ ap (λ e. if_absent found e (end_with m (compute_looked name label place value s found))) (or_refused-with name label (why_refused (Claim place) s) s (ended no_memory s))
      ∙ ap (if_absent found (or_refused name label (why_refused (Claim place) s) (with_memory m s) (ended no_memory (with_memory m s)))) (compute_looked-with name label place value s found)
  compute_by-with no_words name label place value s found = said_by-with no_words (compute_looked name label place value s found) ∙ ap (said_by no_words) (compute_looked-with name label place value s found)

  factory_failed-with : (name label : List ℕ) (place : Place) (text : List ℕ) (s : ValueState) → end_with m (factory_failed name label place text s) ≡ factory_failed name label place text (with_memory m s)
  factory_failed-with name label place text s =
      let kept = keep_value (record { text = text; closeable = false }) s in
      let stored : StepEnd = ended successful (after_act (Fail place kept.store.drawn) kept) in
      let gone = after_act (Abandon place) s in
      if-with s.keep_faults (or_refused name label (why_refused (next_number s) s) gone stored) (ended successful gone)
      ∙ ap (λ e. if s.keep_faults then e else end_with m (ended successful gone)) (or_refused-with name label (why_refused (next_number s) s) gone stored)

  computefail_looked-with : (name label : List ℕ) (place : Place) (text : List ℕ) (s : ValueState) (found : Look)
      → end_with m (computefail_looked name label place text s found) ≡ computefail_looked name label place text (with_memory m s) found
  computefail_looked-with name label place text s (look.Found at number) = refl
  computefail_looked-with name label place text s (look.Fault at number) = refl
  computefail_looked-with name label place text s look.Absent = claim_and-with name label place (factory_failed name label place text) s (factory_failed-with name label place text (after_act (Claim place) s))
  computefail_looked-with name label place text s (look.Busy at) = refl
  computefail_looked-with name label place text s (look.Closed at) = refl

  computefail_by-with : (memory : Memory) (name label : List ℕ) (place : Place) (text : List ℕ) (s : ValueState) (found : Look)
      → end_with m (computefail_by memory name label place text s found) ≡ computefail_by memory name label place text (with_memory m s) found
  computefail_by-with enough name label place text s found = computefail_looked-with name label place text s found
  computefail_by-with no_key name label place text s found = computefail_looked-with name label place text s found
  computefail_by-with no_number name label place text s found = computefail_looked-with name label place text s found
  computefail_by-with no_value name label place text s found =
      let gone : ValueState → StepEnd = λ claimed. ended no_memory (after_act (Abandon place) claimed) in
      let whole = computefail_looked name label place text s found in
      let lost = if_absent found (claim_and name label place gone (with_memory m s)) (computefail_looked name label place text (with_memory m s) found) in
      if-with s.keep_faults (if_absent found (claim_and name label place gone s) whole) whole
      ∙ ap (λ e. if s.keep_faults then e else end_with m whole) (
      if_absent-with found (claim_and name label place gone s) whole
      ∙ ap (λ e. if_absent found e (end_with m whole)) (claim_and-with name label place gone s refl)
      ∙ ap (if_absent found (claim_and name label place gone (with_memory m s))) (computefail_looked-with name label place text s found))
      ∙ ap (λ e. if s.keep_faults then lost else e) (computefail_looked-with name label place text s found)
  computefail_by-with no_place name label place text s found =
      if_absent-with found (or_refused name label (why_refused (Claim place) s) s (ended no_memory s)) (computefail_looked name label place text s found)
      ∙ ap (λ e. if_absent found e (end_with m (computefail_looked name label place text s found))) (or_refused-with name label (why_refused (Claim place) s) s (ended no_memory s))
      ∙ ap (if_absent found (or_refused name label (why_refused (Claim place) s) (with_memory m s) (ended no_memory (with_memory m s)))) (computefail_looked-with name label place text s found)
  computefail_by-with no_words name label place text s found = said_by-with no_words (computefail_looked name label place text s found) ∙ ap (said_by no_words) (computefail_looked-with name label place text s found)

  acts-with : (found : Memory) (word : Word) (call : CallText) (text : List ℕ) (number : ℕ) (s : ValueState) → end_with m (acts_by found word call text number s) ≡ acts_by found word call text number (with_memory m s)
  acts-with found words.Put call text number s = put_in-with found call.name call.label (start_of call.path, number) s
  acts-with found words.PutCloseable call text number s = put_in-with found call.name call.label (start_of call.path, number) s
  acts-with found words.Want call text number s = said_by-with found _
  acts-with found words.None call text number s = said_by-with found _
  acts-with found words.Remove call text number s = said_by-with found _
  acts-with found words.Compute call text number s = compute_by-with found call.name call.label (start_of call.path, number) (record { text = text; closeable = false }) s (found_along number call.path s)
  acts-with found words.ComputeCloseable call text number s = compute_by-with found call.name call.label (start_of call.path, number) (record { text = text; closeable = true }) s (found_along number call.path s)
  acts-with found words.ComputeFail call text number s = computefail_by-with found call.name call.label (start_of call.path, number) text s (found_along number call.path s)

  pub step_by-with : (keys : List KeyText) (found : Memory) (path : List ℕ) (step : StepText) (s : ValueState) → end_with m (step_by keys found path step s) ≡ step_by keys found path step (with_memory m s)
  step_by-with keys found path (keyed word key text up) s =
      let call = call_of keys path (word_text word) key up in
      let goes_on : ValueState → StepEnd = numbered_by found call.name call.label call.key (acts_by found word call text) in
      made_by-with found (is_made keys key) s (call_by found word call text s)
      ∙ ap (made_by found (is_made keys key) (with_memory m s))
      (first-with found call.name call.label (value_first word text) goes_on s (λ t. numbered_by-with found call.name call.label call.key (acts_by found word call text) t (acts-with found word call text)))
  step_by-with keys found path (fail text) s = said_by-with found (ended (failed text) s)
  step_by-with keys found path (abort text) s = said_by-with found (ended (aborted text) s)

  -- ---- the end of a context

  pub seal_keys-with : (keys at : ℕ) (s : ValueState) → with_memory m (seal_keys keys at s) ≡ seal_keys keys at (with_memory m s)
  unfolding seal_keys
  seal_keys-with zero at s = refl
  seal_keys-with (suc key) at s = ap (after_act (Seal (at, key))) (seal_keys-with key at s)

-- a list for the next step, where it finds this and those after it find that: one that says nothing where all find enough
pub first_found : Memory → List Memory → List Memory
first_found enough [] = []
first_found enough (other ∷ later) = enough ∷ other ∷ later
first_found no_key later = no_key ∷ later
first_found no_value later = no_value ∷ later
first_found no_number later = no_number ∷ later
first_found no_place later = no_place ∷ later
first_found no_words later = no_words ∷ later

pub first_found-nothing : (found : Memory) (later : List Memory) → found ≡ enough → later ≡ [] → first_found found later ≡ []
unfolding first_found
first_found-nothing found later all none = ap (λ f. first_found f later) all ∙ ap (first_found enough) none

first_found-next : (keys : List KeyText) (path : List ℕ) (step : StepText) (found : Memory) (later : List Memory) (s : ValueState)
    → step_by keys found path step (with_memory later s) ≡ next_step keys path step (with_memory (first_found found later) s)
unfolding first_found
first_found-next keys path step enough [] s = refl
first_found-next keys path step enough (other ∷ later) s = refl
first_found-next keys path step no_key later s = refl
first_found-next keys path step no_value later s = refl
first_found-next keys path step no_number later s = refl
first_found-next keys path step no_place later s = refl
first_found-next keys path step no_words later s = refl

-- the next step that is made, where it finds this and those after it find that
pub next_step-is : (keys : List KeyText) (path : List ℕ) (step : StepText) (found : Memory) (later : List Memory) (old new : ValueState) (o : Outcome) → step_end new o ≡ step_by keys found path step old
    → step_end (with_memory later new) o ≡ next_step keys path step (with_memory (first_found found later) old)
next_step-is keys path step found later old new o is = ap (end_with later) is ∙ step_by-with later keys found path step old ∙ first_found-next keys path step found later old
