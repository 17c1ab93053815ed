-- What the steps of a test or a callback do to the store of one thread, and how each of them ends (JUnit 5 User Guide,
-- "Keeping State in Extensions"; Javadoc `ExtensionContext.Store`, `put`, `get`, `remove` and `getOrComputeIfAbsent`).
-- A step acts on the first context of the path that it is given, and looks up along it. First its key is made, unless
-- that has a label. Then a step that puts keeps its value. Then the key gets its number, unless it has one. Steps,
-- their texts and the numbers of keys are not from JUnit.
use Rattle.std.specs.Prelude.{ℕ, ◌+◌, ◌&&◌, codes, Bool, true, false, if◌then◌else◌, List, [], ◌∷◌, Option, Some, None}
use Rattle.ext_model.specs.declared.event.Act.{Act}
use Rattle.ext_model.specs.declared.event.Act.TheVariants.{Put, Remove, Claim, Fill, Fail, Abandon}
use Rattle.ext_model.specs.declared.look.Look.{Look}
use Rattle.ext_model.specs.declared.look.Look.TheVariants as look
use Rattle.ext_model.specs.declared.slot.Slot.{Slot}
use Rattle.ext_model.specs.State.{lookup}
use Rattle.ext_model.specs.Plain.{Place, under}
use Rattle.ext_tree.specs.Keys.{KeyValue}
use Rattle.ext_plan.specs.declared.word.Word.{Word}
use Rattle.ext_plan.specs.declared.word.Word.TheVariants as words
use Rattle.ext_plan.specs.Plans.{KeyText, StepText, keyed, fail, abort}
use Rattle.ext_lifecycle.specs.Endings.{successful, aborted, failed}
use Rattle.ext_lifecycle.specs.FaultTexts.{VerdictText}
use Rattle.ext_plan.specs.declared.reason.Reason.{Reason}
use Rattle.ext_plan.specs.declared.reason.Reason.TheVariants as reasons
use Rattle.ext_plan.specs.StepCalls.{CallText, call_of, is_made, start_of}
use Rattle.ext_plan.specs.StepWords.{word_text}
use Rattle.ext_plan.specs.Values.{ValueText}
use Rattle.ext_plan.specs.Verdicts.{SeenText, seen_value, seen_fault, seen_nothing, seen_refused, refused, unless_refused, want_verdict, none_verdict, fail_verdict}
use Rattle.ext_plan_plain.specs.ValueStates.{Memory, enough, no_key, no_value, no_number, no_place, no_words, ValueState, with_memory, next_found, found_later, after_act, why_refused, next_number, keep_value, value_of, Numbering, known, next, full, numbering_of, with_number}

-- What a step, a test or a callback leaves, how it ended, how many values it computed, and how many it found where it
-- would have computed one.
pub record StepEnd : Type 0 where
  pub state : ValueState
  pub verdict : VerdictText
  pub computed : ℕ
  pub found : ℕ

abbrev pub ended : VerdictText → ValueState → StepEnd
ended verdict s = record { state = s; verdict = verdict; computed = 0; found = 0 }

-- A step that finds no memory fails with these words.
abbrev pub no_memory : VerdictText
no_memory = failed (codes "no memory")

-- The verdict if there is no memory for its words. A success has none.
abbrev pub without_words : VerdictText → VerdictText
without_words successful = successful
without_words _ = no_memory

-- The same end, of a step that asks for no memory except for its words.
abbrev pub said_by : Memory → StepEnd → StepEnd
said_by no_words end = record end { verdict = without_words end.verdict }
said_by _ end = end

-- A step's last act, refused or not.
abbrev pub act_ends : List ℕ → List ℕ → Act Place → ValueState → StepEnd
act_ends name label act s = ended (unless_refused name label (why_refused act s)) (after_act act s)

-- What follows, unless the step was refused: then it ends in this state.
abbrev pub or_refused : List ℕ → List ℕ → Option Reason → ValueState → StepEnd → StepEnd
or_refused name label None s goes_on = goes_on
or_refused name label (Some why) s goes_on = ended (refused name label why) s

-- ---- the key of a step

-- There is no memory for a key that is made for the step.
abbrev pub lacks_key : Memory → Bool
lacks_key no_key = true
lacks_key _ = false

-- There is no memory for a value to keep.
abbrev pub lacks_value : Memory → Bool
lacks_value no_value = true
lacks_value _ = false

-- There is no memory for the number of a new key.
abbrev pub lacks_number : Memory → Bool
lacks_number no_number = true
lacks_number _ = false

-- There is no memory for a place of the store.
abbrev pub lacks_place : Memory → Bool
lacks_place no_place = true
lacks_place _ = false

-- The key is made, unless it has a label. Without memory for it nothing is done.
abbrev pub made_by : Memory → Bool → ValueState → StepEnd → StepEnd
made_by found made s goes_on = if lacks_key found && made then ended no_memory s else goes_on

-- The step goes on with its key's number. Without memory for a new key's number the key gets none, and nothing more is
-- done.
abbrev pub number_by : Memory → List ℕ → List ℕ → KeyValue → (ℕ → ValueState → StepEnd) → ValueState → Numbering
    → StepEnd
number_by found name label key goes_on s (known number) = goes_on number s
number_by found name label key goes_on s (next number) = if lacks_number found then ended no_memory s
    else goes_on number (with_number key s)
number_by found name label key goes_on s full = said_by found (ended (refused name label reasons.DirectoryFull) s)

-- The key's number: its own if it has one, otherwise the next if one is left; otherwise the step is refused.
abbrev pub numbered_by : Memory → List ℕ → List ℕ → KeyValue → (ℕ → ValueState → StepEnd) → ValueState → StepEnd
numbered_by found name label key goes_on s = number_by found name label key goes_on s (numbering_of s.places s.keys key)

-- ---- `put` and `put!`

-- The number of the value kept last, which was drawn last, is stored in the context.
abbrev pub put_kept : List ℕ → List ℕ → Place → ValueState → StepEnd
put_kept name label place kept = act_ends name label (Put place kept.store.drawn) kept

-- What is done if nothing stands in a place, and what is done otherwise.
abbrev pub if_empty : Option Slot → StepEnd → StepEnd → StepEnd
if_empty None empty other = empty
if_empty (Some slot) empty other = other

-- Without memory for the place the number is not stored. A place where something stands needs none.
abbrev pub put_in : Memory → List ℕ → List ℕ → Place → ValueState → StepEnd
put_in found name label place kept =
    said_by found (if lacks_place found
    then if_empty (kept.store.slots place) (ended no_memory kept) (put_kept name label place kept)
    else put_kept name label place kept)

-- The step ends if no number was left for its value, and otherwise goes on.
abbrev pub kept_or_refused : Memory → List ℕ → List ℕ → Option Reason → ValueState → StepEnd → StepEnd
kept_or_refused found name label None s goes_on = goes_on
kept_or_refused found name label (Some why) s goes_on = said_by found (ended (refused name label why) s)

-- The value is kept, if there is one, and the step goes on. Without memory for the value nothing is done.
abbrev pub first_kept : Memory → List ℕ → List ℕ → Option ValueText → (ValueState → StepEnd) → ValueState → StepEnd
first_kept found name label None goes_on s = goes_on s
first_kept found name label (Some value) goes_on s =
    if lacks_value found then ended no_memory s
    else kept_or_refused found name label (why_refused (next_number s) s) s (goes_on (keep_value value s))

-- A value is kept, and then its number is stored under the key in this context.
abbrev pub put_by : Memory → List ℕ → List ℕ → ℕ → KeyValue → ValueText → ValueState → StepEnd
put_by found name label at key value s =
    first_kept found name label (Some value)
    (numbered_by found name label key (λ number. put_in found name label (at, number))) s

-- ---- `want` and `none`, which change nothing

-- The value of a number that a look-up found. Each number that was drawn has one.
abbrev pub shown : Option ValueText → SeenText
shown None = seen_refused reasons.NotShown
shown (Some value) = seen_value value.text

-- The kept fault of a number that a look-up met. It has the text of the step whose factory failed.
abbrev pub shown_fault : Option ValueText → SeenText
shown_fault None = seen_refused reasons.NotShown
shown_fault (Some value) = seen_fault value.text

-- What a look-up shows.
abbrev pub seen_by : List ValueText → Look → SeenText
seen_by values (look.Found at number) = shown (value_of values number)
seen_by values (look.Fault at number) = shown_fault (value_of values number)
seen_by values look.Absent = seen_nothing
seen_by values (look.Busy at) = seen_refused reasons.Busy
seen_by values (look.Closed at) = seen_refused reasons.Closed

-- ---- `compute`, `compute!` and `computefail`

-- The factory gave this value under the claim that stands. Its number is drawn and stored in the claim's place. If none
-- is left, the claim is given up.
abbrev pub factory_gave : List ℕ → List ℕ → Place → ValueText → ValueState → StepEnd
factory_gave name label place value s =
    let kept = keep_value value s in
    let computed : StepEnd = record {
      state = after_act (Fill place kept.store.drawn) kept;
      verdict = successful;
      computed = 1;
      found = 0;
    } in
    or_refused name label (why_refused (next_number s) s) (after_act (Abandon place) s) computed

-- The factory failed with this text. A store that keeps no faults gives the claim up, and the step succeeds. A store
-- that keeps them draws a number and stores it in the claim's place, and the step succeeds; if no number is left, the
-- claim is given up.
abbrev pub factory_failed : List ℕ → List ℕ → Place → List ℕ → ValueState → StepEnd
factory_failed name label place text s =
    let kept = keep_value (record { text = text; closeable = false }) s in
    if s.keep_faults
    then or_refused name label (why_refused (next_number s) s) (after_act (Abandon place) s)
    (ended successful (after_act (Fail place kept.store.drawn) kept))
    else ended successful (after_act (Abandon place) s)

-- If nothing was found, the place is claimed and its factory runs.
abbrev pub claim_and : List ℕ → List ℕ → Place → (ValueState → StepEnd) → ValueState → StepEnd
claim_and name label place factory s =
    or_refused name label (why_refused (Claim place) s) s (factory (after_act (Claim place) s))

-- What a compute does, by what the look-up answers.
abbrev pub compute_looked : List ℕ → List ℕ → Place → ValueText → ValueState → Look → StepEnd
compute_looked name label place value s (look.Found at number) =
    record { state = s; verdict = successful; computed = 0; found = 1 }
compute_looked name label place value s (look.Fault at number) =
    ended (none_verdict name label (shown_fault (value_of s.values number))) s
compute_looked name label place value s look.Absent = claim_and name label place (factory_gave name label place value) s
compute_looked name label place value s (look.Busy at) = ended (refused name label reasons.Busy) s
compute_looked name label place value s (look.Closed at) = ended (refused name label reasons.Closed) s

-- What is done only if a look-up finds nothing, and what is done otherwise.
abbrev pub if_absent : Look → StepEnd → StepEnd → StepEnd
if_absent look.Absent absent other = absent
if_absent _ absent other = other

-- Without memory for the value the claim is given up. Without memory for the place there is no claim. Neither is needed
-- if a value is found.
abbrev pub compute_by : Memory → List ℕ → List ℕ → Place → ValueText → ValueState → Look → StepEnd
compute_by no_value name label place value s found =
    if_absent found (claim_and name label place (λ claimed. ended no_memory (after_act (Abandon place) claimed)) s)
    (compute_looked name label place value s found)
compute_by no_place name label place value s found =
    if_absent found (or_refused name label (why_refused (Claim place) s) s (ended no_memory s))
    (compute_looked name label place value s found)
compute_by no_words name label place value s found = said_by no_words (compute_looked name label place value s found)
compute_by _ name label place value s found = compute_looked name label place value s found

abbrev pub computefail_looked : List ℕ → List ℕ → Place → List ℕ → ValueState → Look → StepEnd
computefail_looked name label place text s (look.Found at number) =
    record { state = s; verdict = none_verdict name label (shown (value_of s.values number)); computed = 0; found = 1 }
computefail_looked name label place text s (look.Fault at number) =
    ended (fail_verdict name label text (shown_fault (value_of s.values number))) s
computefail_looked name label place text s look.Absent =
    claim_and name label place (factory_failed name label place text) s
computefail_looked name label place text s (look.Busy at) = ended (refused name label reasons.Busy) s
computefail_looked name label place text s (look.Closed at) = ended (refused name label reasons.Closed) s

-- Without memory for a fault to be kept the claim is given up, as for a value. A store that keeps no faults needs none.
abbrev pub computefail_by : Memory → List ℕ → List ℕ → Place → List ℕ → ValueState → Look → StepEnd
computefail_by no_value name label place text s found =
    if s.keep_faults
    then if_absent found (claim_and name label place (λ claimed. ended no_memory (after_act (Abandon place) claimed)) s)
    (computefail_looked name label place text s found)
    else computefail_looked name label place text s found
computefail_by no_place name label place text s found =
    if_absent found (or_refused name label (why_refused (Claim place) s) s (ended no_memory s))
    (computefail_looked name label place text s found)
computefail_by no_words name label place text s found =
    said_by no_words (computefail_looked name label place text s found)
computefail_by _ name label place text s found = computefail_looked name label place text s found

-- ---- the steps of a test or of a callback

-- What a look-up finds along a path, under the key with a number.
abbrev pub found_along : ℕ → List ℕ → ValueState → Look
found_along number path s = lookup (under s.store number) path

-- What a step does once its key has a number.
abbrev pub want_numbered : Memory → List ℕ → List ℕ → List ℕ → List ℕ → ℕ → ValueState → StepEnd
want_numbered found name label path text number s =
    said_by found (ended (want_verdict name label text (seen_by s.values (found_along number path s))) s)

abbrev pub none_numbered : Memory → List ℕ → List ℕ → List ℕ → ℕ → ValueState → StepEnd
none_numbered found name label path number s =
    said_by found (ended (none_verdict name label (seen_by s.values (found_along number path s))) s)

abbrev pub remove_numbered : Memory → List ℕ → List ℕ → List ℕ → ℕ → ValueState → StepEnd
remove_numbered found name label path number s = said_by found (act_ends name label (Remove (start_of path, number)) s)

abbrev pub compute_numbered : Memory → List ℕ → List ℕ → List ℕ → ValueText → ℕ → ValueState → StepEnd
compute_numbered found name label path value number s =
    compute_by found name label (start_of path, number) value s (found_along number path s)

abbrev pub computefail_numbered : Memory → List ℕ → List ℕ → List ℕ → List ℕ → ℕ → ValueState → StepEnd
computefail_numbered found name label path text number s =
    computefail_by found name label (start_of path, number) text s (found_along number path s)

-- The value that a step with this word keeps before its key is numbered.
abbrev pub value_first : Word → List ℕ → Option ValueText
value_first words.Put text = Some (record { text = text; closeable = false })
value_first words.PutCloseable text = Some (record { text = text; closeable = true })
value_first _ text = None

-- What the step does under the number of its key.
abbrev pub acts_by : Memory → Word → CallText → List ℕ → ℕ → ValueState → StepEnd
acts_by found words.Put call text = λ number. put_in found call.name call.label (start_of call.path, number)
acts_by found words.PutCloseable call text = λ number. put_in found call.name call.label (start_of call.path, number)
acts_by found words.Want call text = want_numbered found call.name call.label call.path text
acts_by found words.None call text = none_numbered found call.name call.label call.path
acts_by found words.Remove call text = remove_numbered found call.name call.label call.path
acts_by found words.Compute call text =
    compute_numbered found call.name call.label call.path (record { text = text; closeable = false })
acts_by found words.ComputeCloseable call text =
    compute_numbered found call.name call.label call.path (record { text = text; closeable = true })
acts_by found words.ComputeFail call text = computefail_numbered found call.name call.label call.path text

-- The step's call of the store, once its key is made.
abbrev pub call_by : Memory → Word → CallText → List ℕ → ValueState → StepEnd
call_by found word call text s =
    first_kept found call.name call.label (value_first word text)
    (numbered_by found call.name call.label call.key (acts_by found word call text)) s

module _ (keys : List KeyText) where
  -- A step that runs in the context of this path, by what it finds of memory.
  abbrev pub step_by : Memory → List ℕ → StepText → ValueState → StepEnd
  step_by found path (keyed word key text up) s =
      made_by found (is_made keys key) s (call_by found word (call_of keys path (word_text word) key up) text s)
  step_by found path (fail text) s = said_by found (ended (failed text) s)
  step_by found path (abort text) s = said_by found (ended (aborted text) s)

  -- A step that finds enough memory.
  abbrev pub step_run : List ℕ → StepText → ValueState → StepEnd
  step_run = step_by enough

  -- The next step that is made, by what it finds.
  abbrev pub next_step : List ℕ → StepText → ValueState → StepEnd
  next_step path step s = step_by (next_found s.memory) path step (with_memory (found_later s.memory) s)

-- One step and then the rest. The counts of both are added up.
abbrev pub and_then : StepEnd → StepEnd → StepEnd
and_then first rest =
    record {
      state = rest.state;
      verdict = rest.verdict;
      computed = first.computed + rest.computed;
      found = first.found + rest.found;
    }

-- The first step that isn't successful ends the test or the callback.
abbrev pub unless_ended : VerdictText → StepEnd → (ValueState → StepEnd) → StepEnd
unless_ended successful first go_on = and_then first (go_on first.state)
unless_ended _ first go_on = first

-- The steps in order, up to and including the first that isn't successful.
unfoldable pub steps_run : List KeyText → List ℕ → List StepText → ValueState → StepEnd
steps_run keys path [] s = ended successful s
steps_run keys path (step ∷ more) s =
    unless_ended (next_step keys path step s).verdict (next_step keys path step s) (steps_run keys path more)
