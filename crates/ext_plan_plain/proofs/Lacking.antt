-- A step that finds no memory does what it does where it finds enough, or says so.
use Rattle.std.proofs.Common.{◌≡◌, ℕ, Bool, true, false, List, Option, Some, None, refl, inl, inr, ◌⊎◌}
use Rattle.std.specs.Prelude.{◌&&◌, if◌then◌else◌}
use Rattle.ext_model.specs.declared.event.Act.TheVariants.{Abandon, Claim}
use Rattle.ext_model.specs.declared.look.Look.{Look}
use Rattle.ext_model.specs.declared.look.Look.TheVariants as look
use Rattle.ext_model.specs.declared.slot.Slot.{Slot}
use Rattle.ext_model.specs.Plain.{Place}
use Rattle.ext_plan.specs.declared.word.Word.{Word}
use Rattle.ext_plan.specs.declared.word.Word.TheVariants as words
use Rattle.ext_plan.specs.Plans.{KeyText, StepText, keyed, fail, abort}
use Rattle.ext_lifecycle.specs.Endings.{successful, aborted, failed}
use Rattle.ext_lifecycle.specs.FaultTexts.{VerdictText}
use Rattle.ext_plan.specs.declared.reason.Reason.{Reason}
use Rattle.ext_plan.specs.Values.{ValueText}
use Rattle.ext_plan.specs.StepWords.{word_text}
use Rattle.ext_plan.specs.StepCalls.{CallText, call_of, is_made, start_of}
use Rattle.ext_tree.specs.Keys.{KeyValue}
use Rattle.ext_plan_plain.specs.ValueStates.{Memory, enough, no_key, no_value, no_number, no_place, no_words, ValueState, after_act, why_refused, next_number, keep_value, Numbering, known, next, full, numbering_of, with_number}
use Rattle.ext_plan_plain.specs.StepRuns.{StepEnd, ended, no_memory, without_words, said_by, lacks_key, lacks_value, lacks_number, made_by, number_by, numbered_by, or_refused, kept_or_refused, put_kept, put_in, factory_gave, factory_failed, if_empty, if_absent, claim_and, compute_looked, compute_by, computefail_looked, computefail_by, found_along, step_by, step_run, acts_by, first_kept, value_first}

abbrev Either : StepEnd → StepEnd → Type 0
Either end whole = (end ≡ whole) ⊎ (end.verdict ≡ no_memory)

unsaid-by : (v : VerdictText) (end : StepEnd) → end.verdict ≡ v → Either (record { state = end.state; verdict = without_words v; computed = end.computed; found = end.found }) (record { state = end.state; verdict = v; computed = end.computed; found = end.found })
unsaid-by successful end is = inl refl
unsaid-by (aborted text) end is = inr refl
unsaid-by (failed text) end is = inr refl

unsaid : (end : StepEnd) → Either (said_by no_words end) end
unsaid end = unsaid-by end.verdict end refl

said : (found : Memory) (end : StepEnd) → Either (said_by found end) end
said enough end = inl refl
said no_key end = inl refl
said no_value end = inl refl
said no_number end = inl refl
said no_place end = inl refl
said no_words end = unsaid end

-- a refusal comes first, and is the same in both
refused-or : (name label : List ℕ) (why : Option Reason) (s : ValueState) (lacks goes_on : StepEnd) → lacks.verdict ≡ no_memory → Either (or_refused name label why s lacks) (or_refused name label why s goes_on)
refused-or name label None s lacks goes_on is = inr is
refused-or name label (Some why) s lacks goes_on is = inl refl

empty-either : (stands : Option Slot) (empty other : StepEnd) → empty.verdict ≡ no_memory → Either (if_empty stands empty other) other
empty-either None empty other is = inr is
empty-either (Some slot) empty other is = inl refl

if-either : (b : Bool) (end whole : StepEnd) → Either end whole → Either (if b then end else whole) whole
if-either true end whole is = is
if-either false end whole is = inl refl

lacks-either : (b : Bool) (lacks end whole : StepEnd) → lacks.verdict ≡ no_memory → Either end whole → Either (if b then lacks else end) whole
lacks-either true lacks end whole is other = inr is
lacks-either false lacks end whole is other = other

-- a key that is made, and one that gets its number
made-either : (found : Memory) (made : Bool) (s : ValueState) (end whole : StepEnd) → Either end whole → Either (made_by found made s end) (made_by enough made s whole)
made-either found made s end whole is = lacks-either (lacks_key found && made) (ended no_memory s) end whole refl is

number-either : (found : Memory) (name label : List ℕ) (key : KeyValue) (lacks goes_on : ℕ → ValueState → StepEnd) (s : ValueState) (numbering : Numbering) → ((number : ℕ) (t : ValueState) → Either (lacks number t) (goes_on number t))
    → Either (number_by found name label key lacks s numbering) (number_by enough name label key goes_on s numbering)
number-either found name label key lacks goes_on s (known number) each = each number s
number-either found name label key lacks goes_on s (next number) each = lacks-either (lacks_number found) (ended no_memory s) (lacks number (with_number key s)) (goes_on number (with_number key s)) refl (each number (with_number key s))
number-either found name label key lacks goes_on s full each = said found _

-- ---- a step that puts

put_in-either : (found : Memory) (name label : List ℕ) (place : Place) (kept : ValueState) → Either (put_in found name label place kept) (put_in enough name label place kept)
put_in-either enough name label place kept = inl refl
put_in-either no_key name label place kept = inl refl
put_in-either no_value name label place kept = inl refl
put_in-either no_number name label place kept = inl refl
put_in-either no_place name label place kept = empty-either (kept.store.slots place) (ended no_memory kept) (put_kept name label place kept) refl
put_in-either no_words name label place kept = unsaid (put_kept name label place kept)

kept-either : (found : Memory) (name label : List ℕ) (why : Option Reason) (s : ValueState) (end whole : StepEnd) → Either end whole → Either (kept_or_refused found name label why s end) (kept_or_refused enough name label why s whole)
kept-either found name label None s end whole is = is
kept-either found name label (Some why) s end whole is = said found _

first-either : (found : Memory) (name label : List ℕ) (value : Option ValueText) (lacks goes_on : ValueState → StepEnd) (s : ValueState) → ((t : ValueState) → Either (lacks t) (goes_on t))
    → Either (first_kept found name label value lacks s) (first_kept enough name label value goes_on s)
first-either found name label None lacks goes_on s each = each s
first-either found name label (Some value) lacks goes_on s each =
    let why = why_refused (next_number s) s in
    let kept = keep_value value s in
    lacks-either (lacks_value found) (ended no_memory s) (kept_or_refused found name label why s (lacks kept)) (kept_or_refused enough name label why s (goes_on kept)) refl
    (kept-either found name label why s (lacks kept) (goes_on kept) (each kept))

-- ---- a step that computes

compute-either : (memory : Memory) (name label : List ℕ) (place : Place) (value : ValueText) (s : ValueState) (found : Look) → Either (compute_by memory name label place value s found) (compute_looked name label place value s found)
compute-either enough name label place value s found = inl refl
compute-either no_key name label place value s found = inl refl
compute-either no_number name label place value s found = inl refl
compute-either no_value name label place value s (look.Found at number) = inl refl
compute-either no_value name label place value s (look.Fault at number) = inl refl
compute-either no_value name label place value s look.Absent =
    refused-or name label (why_refused (Claim place) s) s (ended no_memory (after_act (Abandon place) (after_act (Claim place) s))) (factory_gave name label place value (after_act (Claim place) s)) refl
compute-either no_value name label place value s (look.Busy at) = inl refl
compute-either no_value name label place value s (look.Closed at) = inl refl
compute-either no_place name label place value s (look.Found at number) = inl refl
compute-either no_place name label place value s (look.Fault at number) = inl refl
compute-either no_place name label place value s look.Absent = refused-or name label (why_refused (Claim place) s) s (ended no_memory s) (factory_gave name label place value (after_act (Claim place) s)) refl
compute-either no_place name label place value s (look.Busy at) = inl refl
compute-either no_place name label place value s (look.Closed at) = inl refl
compute-either no_words name label place value s found = unsaid (compute_looked name label place value s found)

fail-lacks : (name label : List ℕ) (place : Place) (text : List ℕ) (s : ValueState) (found : Look)
    → Either (if_absent found (claim_and name label place (λ claimed. ended no_memory (after_act (Abandon place) claimed)) s) (computefail_looked name label place text s found)) (computefail_looked name label place text s found)
fail-lacks name label place text s (look.Found at number) = inl refl
fail-lacks name label place text s (look.Fault at number) = inl refl
fail-lacks name label place text s look.Absent =
    refused-or name label (why_refused (Claim place) s) s (ended no_memory (after_act (Abandon place) (after_act (Claim place) s))) (factory_failed name label place text (after_act (Claim place) s)) refl
fail-lacks name label place text s (look.Busy at) = inl refl
fail-lacks name label place text s (look.Closed at) = inl refl

computefail-either : (memory : Memory) (name label : List ℕ) (place : Place) (text : List ℕ) (s : ValueState) (found : Look) → Either (computefail_by memory name label place text s found) (computefail_looked name label place text s found)
computefail-either enough name label place text s found = inl refl
computefail-either no_key name label place text s found = inl refl
computefail-either no_number name label place text s found = inl refl
computefail-either no_value name label place text s found =
    let lost = claim_and name label place (λ claimed. ended no_memory (after_act (Abandon place) claimed)) s in
    if-either s.keep_faults (if_absent found lost (computefail_looked name label place text s found)) (computefail_looked name label place text s found) (fail-lacks name label place text s found)
computefail-either no_place name label place text s (look.Found at number) = inl refl
computefail-either no_place name label place text s (look.Fault at number) = inl refl
computefail-either no_place name label place text s look.Absent = refused-or name label (why_refused (Claim place) s) s (ended no_memory s) (factory_failed name label place text (after_act (Claim place) s)) refl
computefail-either no_place name label place text s (look.Busy at) = inl refl
computefail-either no_place name label place text s (look.Closed at) = inl refl
computefail-either no_words name label place text s found = unsaid (computefail_looked name label place text s found)

-- ---- each step

acts-either : (found : Memory) (word : Word) (call : CallText) (text : List ℕ) (number : ℕ) (s : ValueState) → Either (acts_by found word call text number s) (acts_by enough word call text number s)
acts-either found words.Put call text number s = put_in-either found call.name call.label (start_of call.path, number) s
acts-either found words.PutCloseable call text number s = put_in-either found call.name call.label (start_of call.path, number) s
acts-either found words.Want call text number s = said found _
acts-either found words.None call text number s = said found _
acts-either found words.Remove call text number s = said found _
acts-either found words.Compute call text number s = compute-either found call.name call.label (start_of call.path, number) (record { text = text; closeable = false }) s (found_along number call.path s)
acts-either found words.ComputeCloseable call text number s = compute-either found call.name call.label (start_of call.path, number) (record { text = text; closeable = true }) s (found_along number call.path s)
acts-either found words.ComputeFail call text number s = computefail-either found call.name call.label (start_of call.path, number) text s (found_along number call.path s)

pub does_or_lacks : (keys : List KeyText) (found : Memory) (path : List ℕ) (step : StepText) (s : ValueState)
    → (step_by keys found path step s ≡ step_run keys path step s) ⊎ ((step_by keys found path step s).verdict ≡ no_memory)
does_or_lacks keys found path (keyed word key text up) s =
    let call = call_of keys path (word_text word) key up in
    let lacks : ℕ → ValueState → StepEnd = acts_by found word call text in
    let acts : ℕ → ValueState → StepEnd = acts_by enough word call text in
    made-either found (is_made keys key) s _ _
    (first-either found call.name call.label (value_first word text) (numbered_by found call.name call.label call.key lacks) (numbered_by enough call.name call.label call.key acts) s
    (λ t. number-either found call.name call.label call.key lacks acts t (numbering_of t.places t.keys call.key) (acts-either found word call text)))
does_or_lacks keys found path (fail text) s = said found (ended (failed text) s)
does_or_lacks keys found path (abort text) s = said found (ended (aborted text) s)
