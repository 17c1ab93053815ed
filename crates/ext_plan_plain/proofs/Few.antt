-- A step computes one value at most, and finds one at most.
use Rattle.std.proofs.Common.{ℕ, ◌≤◌, Bool, true, false, List, Option, Some, None, arith}
use Rattle.std.specs.Prelude.{◌&&◌, if◌then◌else◌}
use Rattle.ext_model.specs.declared.event.Act.TheVariants.{Abandon, Claim, Fail}
use Rattle.ext_model.specs.declared.look.Look.{Look}
use Rattle.ext_model.specs.declared.look.Look.TheVariants as look
use Rattle.ext_model.specs.declared.slot.Slot.{Slot}
use Rattle.ext_model.specs.Plain.{Place}
use Rattle.ext_lifecycle.specs.Endings.{successful, aborted, failed}
use Rattle.ext_lifecycle.specs.FaultTexts.{VerdictText}
use Rattle.ext_plan.specs.declared.word.Word.{Word}
use Rattle.ext_plan.specs.declared.word.Word.TheVariants as words
use Rattle.ext_plan.specs.Plans.{KeyText, StepText, keyed, fail, abort}
use Rattle.ext_plan.specs.declared.reason.Reason.{Reason}
use Rattle.ext_plan.specs.Values.{ValueText}
use Rattle.ext_plan.specs.StepWords.{word_text}
use Rattle.ext_plan.specs.StepCalls.{CallText, call_of, is_made, start_of}
use Rattle.ext_tree.specs.Keys.{KeyValue}
use Rattle.ext_plan_plain.specs.ValueStates.{Memory, enough, no_key, no_value, no_number, no_place, no_words, ValueState, after_act, why_refused, next_number, keep_value, Numbering, known, next, full, numbering_of, with_number}
use Rattle.ext_plan_plain.specs.StepRuns.{StepEnd, ended, no_memory, said_by, lacks_key, lacks_value, lacks_number, lacks_place, made_by, number_by, numbered_by, or_refused, kept_or_refused, put_kept, put_in, factory_gave, factory_failed, if_empty, if_absent, claim_and, compute_looked, compute_by, computefail_looked, computefail_by, found_along, acts_by, first_kept, step_by, value_first}

pub record IsFew (end : StepEnd) : Type 0 where
  pub computed : end.computed ≤ 1
  pub found : end.found ≤ 1

ended-few : (verdict : VerdictText) (s : ValueState) → IsFew (ended verdict s)
ended-few verdict s = record { computed = omega arith; found = omega arith }

said-few : (found : Memory) (end : StepEnd) → IsFew end → IsFew (said_by found end)
said-few enough end few = few
said-few no_key end few = few
said-few no_value end few = few
said-few no_number end few = few
said-few no_place end few = few
said-few no_words end few = record { computed = few.computed; found = few.found }

refused-few : (name label : List ℕ) (why : Option Reason) (s : ValueState) (goes_on : StepEnd) → IsFew goes_on → IsFew (or_refused name label why s goes_on)
refused-few name label None s goes_on few = few
refused-few name label (Some why) s goes_on few = ended-few _ s

empty-few : (stands : Option Slot) (empty other : StepEnd) → IsFew empty → IsFew other → IsFew (if_empty stands empty other)
empty-few None empty other few more = few
empty-few (Some slot) empty other few more = more

if-few : (b : Bool) (x y : StepEnd) → IsFew x → IsFew y → IsFew (if b then x else y)
if-few true x y few more = few
if-few false x y few more = more

made-few : (found : Memory) (made : Bool) (s : ValueState) (goes_on : StepEnd) → IsFew goes_on → IsFew (made_by found made s goes_on)
made-few found made s goes_on few = if-few (lacks_key found && made) (ended no_memory s) goes_on (ended-few no_memory s) few

number-few : (found : Memory) (name label : List ℕ) (key : KeyValue) (goes_on : ℕ → ValueState → StepEnd) (s : ValueState) (numbering : Numbering) → ((number : ℕ) (t : ValueState) → IsFew (goes_on number t))
    → IsFew (number_by found name label key goes_on s numbering)
number-few found name label key goes_on s (known number) each = each number s
number-few found name label key goes_on s (next number) each = if-few (lacks_number found) (ended no_memory s) (goes_on number (with_number key s)) (ended-few no_memory s) (each number (with_number key s))
number-few found name label key goes_on s full each = said-few found _ (ended-few _ s)

put_in-few : (found : Memory) (name label : List ℕ) (place : Place) (kept : ValueState) → IsFew (put_in found name label place kept)
put_in-few found name label place kept =
    let lacks = ended no_memory kept in
    let stored = put_kept name label place kept in
    said-few found (if lacks_place found then if_empty (kept.store.slots place) lacks stored else stored)
    (if-few (lacks_place found) (if_empty (kept.store.slots place) lacks stored) stored (empty-few (kept.store.slots place) lacks stored (ended-few _ _) (ended-few _ _)) (ended-few _ _))

kept-few : (found : Memory) (name label : List ℕ) (why : Option Reason) (s : ValueState) (goes_on : StepEnd) → IsFew goes_on → IsFew (kept_or_refused found name label why s goes_on)
kept-few found name label None s goes_on few = few
kept-few found name label (Some why) s goes_on few = said-few found _ (ended-few _ s)

first-few : (found : Memory) (name label : List ℕ) (value : Option ValueText) (goes_on : ValueState → StepEnd) (s : ValueState) → ((t : ValueState) → IsFew (goes_on t)) → IsFew (first_kept found name label value goes_on s)
first-few found name label None goes_on s each = each s
first-few found name label (Some value) goes_on s each =
    let why = why_refused (next_number s) s in
    let stored = goes_on (keep_value value s) in
    if-few (lacks_value found) (ended no_memory s) (kept_or_refused found name label why s stored) (ended-few no_memory s) (kept-few found name label why s stored (each (keep_value value s)))

gave-few : (name label : List ℕ) (place : Place) (value : ValueText) (s : ValueState) → IsFew (factory_gave name label place value s)
gave-few name label place value s = refused-few name label (why_refused (next_number s) s) (after_act (Abandon place) s) _ (record { computed = omega arith; found = omega arith })

looked-few : (name label : List ℕ) (place : Place) (value : ValueText) (s : ValueState) (found : Look) → IsFew (compute_looked name label place value s found)
looked-few name label place value s (look.Found at number) = record { computed = omega arith; found = omega arith }
looked-few name label place value s (look.Fault at number) = ended-few _ s
looked-few name label place value s look.Absent =
    refused-few name label (why_refused (Claim place) s) s (factory_gave name label place value (after_act (Claim place) s)) (gave-few name label place value (after_act (Claim place) s))
looked-few name label place value s (look.Busy at) = ended-few _ s
looked-few name label place value s (look.Closed at) = ended-few _ s

compute-few : (memory : Memory) (name label : List ℕ) (place : Place) (value : ValueText) (s : ValueState) (found : Look) → IsFew (compute_by memory name label place value s found)
compute-few enough name label place value s found = looked-few name label place value s found
compute-few no_key name label place value s found = looked-few name label place value s found
compute-few no_number name label place value s found = looked-few name label place value s found
compute-few no_value name label place value s look.Absent =
    refused-few name label (why_refused (Claim place) s) s (ended no_memory (after_act (Abandon place) (after_act (Claim place) s))) (ended-few _ _)
compute-few no_value name label place value s (look.Fault at number) = ended-few _ s
compute-few no_value name label place value s (look.Found at number) = looked-few name label place value s (look.Found at number)
compute-few no_value name label place value s (look.Busy at) = ended-few _ s
compute-few no_value name label place value s (look.Closed at) = ended-few _ s
compute-few no_place name label place value s look.Absent = refused-few name label (why_refused (Claim place) s) s (ended no_memory s) (ended-few _ s)
compute-few no_place name label place value s (look.Fault at number) = ended-few _ s
compute-few no_place name label place value s (look.Found at number) = looked-few name label place value s (look.Found at number)
compute-few no_place name label place value s (look.Busy at) = ended-few _ s
compute-few no_place name label place value s (look.Closed at) = ended-few _ s
compute-few no_words name label place value s found = said-few no_words (compute_looked name label place value s found) (looked-few name label place value s found)

absent-few : (found : Look) (absent other : StepEnd) → IsFew absent → IsFew other → IsFew (if_absent found absent other)
absent-few (look.Found at number) absent other few more = more
absent-few (look.Fault at number) absent other few more = more
absent-few look.Absent absent other few more = few
absent-few (look.Busy at) absent other few more = more
absent-few (look.Closed at) absent other few more = more

failed-few : (name label : List ℕ) (place : Place) (text : List ℕ) (s : ValueState) → IsFew (factory_failed name label place text s)
failed-few name label place text s =
    let kept = keep_value (record { text = text; closeable = false }) s in
    let stored : StepEnd = ended successful (after_act (Fail place kept.store.drawn) kept) in
    let gone = after_act (Abandon place) s in
    if-few s.keep_faults (or_refused name label (why_refused (next_number s) s) gone stored) (ended successful gone) (refused-few name label (why_refused (next_number s) s) gone stored (ended-few _ _)) (ended-few _ _)

fail_looked-few : (name label : List ℕ) (place : Place) (text : List ℕ) (s : ValueState) (found : Look) → IsFew (computefail_looked name label place text s found)
fail_looked-few name label place text s (look.Found at number) = record { computed = omega arith; found = omega arith }
fail_looked-few name label place text s (look.Fault at number) = ended-few _ s
fail_looked-few name label place text s look.Absent =
    refused-few name label (why_refused (Claim place) s) s (factory_failed name label place text (after_act (Claim place) s)) (failed-few name label place text (after_act (Claim place) s))
fail_looked-few name label place text s (look.Busy at) = ended-few _ s
fail_looked-few name label place text s (look.Closed at) = ended-few _ s

computefail-few : (memory : Memory) (name label : List ℕ) (place : Place) (text : List ℕ) (s : ValueState) (found : Look) → IsFew (computefail_by memory name label place text s found)
computefail-few enough name label place text s found = fail_looked-few name label place text s found
computefail-few no_key name label place text s found = fail_looked-few name label place text s found
computefail-few no_number name label place text s found = fail_looked-few name label place text s found
computefail-few no_value name label place text s found =
    let whole = computefail_looked name label place text s found in
    let lost = claim_and name label place (λ claimed. ended no_memory (after_act (Abandon place) claimed)) s in
    let few = fail_looked-few name label place text s found in
    if-few s.keep_faults (if_absent found lost whole) whole
    (absent-few found lost whole (refused-few name label (why_refused (Claim place) s) s (ended no_memory (after_act (Abandon place) (after_act (Claim place) s))) (ended-few _ _)) few)
    few
computefail-few no_place name label place text s found =
    absent-few found (or_refused name label (why_refused (Claim place) s) s (ended no_memory s)) (computefail_looked name label place text s found)
    (refused-few name label (why_refused (Claim place) s) s (ended no_memory s) (ended-few _ s)) (fail_looked-few name label place text s found)
computefail-few no_words name label place text s found = said-few no_words (computefail_looked name label place text s found) (fail_looked-few name label place text s found)

acts-few : (found : Memory) (word : Word) (call : CallText) (text : List ℕ) (number : ℕ) (s : ValueState) → IsFew (acts_by found word call text number s)
acts-few found words.Put call text number s = put_in-few found call.name call.label (start_of call.path, number) s
acts-few found words.PutCloseable call text number s = put_in-few found call.name call.label (start_of call.path, number) s
acts-few found words.Want call text number s = said-few found _ (ended-few _ s)
acts-few found words.None call text number s = said-few found _ (ended-few _ s)
acts-few found words.Remove call text number s = said-few found _ (ended-few _ _)
acts-few found words.Compute call text number s = compute-few found call.name call.label (start_of call.path, number) (record { text = text; closeable = false }) s (found_along number call.path s)
acts-few found words.ComputeCloseable call text number s = compute-few found call.name call.label (start_of call.path, number) (record { text = text; closeable = true }) s (found_along number call.path s)
acts-few found words.ComputeFail call text number s = computefail-few found call.name call.label (start_of call.path, number) text s (found_along number call.path s)

pub step-few : (keys : List KeyText) (found : Memory) (path : List ℕ) (step : StepText) (s : ValueState) → IsFew (step_by keys found path step s)
step-few keys found path (keyed word key text up) s =
    let call = call_of keys path (word_text word) key up in
    let acts : ℕ → ValueState → StepEnd = acts_by found word call text in
    made-few found (is_made keys key) s _
    (first-few found call.name call.label (value_first word text) (numbered_by found call.name call.label call.key acts) s
    (λ t. number-few found call.name call.label call.key acts t (numbering_of t.places t.keys call.key) (acts-few found word call text)))
step-few keys found path (fail text) s = said-few found (ended (failed text) s) (ended-few _ s)
step-few keys found path (abort text) s = said-few found (ended (aborted text) s) (ended-few _ s)
