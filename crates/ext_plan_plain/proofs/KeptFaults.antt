-- A kept fault stands: the steps that meet it say so. Where faults are not kept, a factory that fails leaves nothing.
use Rattle.std.proofs.Common.{◌≡◌, ◌≢◌, ℕ, suc, Bool, true, false, List, [], ◌∷◌, ◌++◌, drop, Option, Some, None, refl, ap, sym, subst, ◌∙◌, arith}
use Rattle.std.specs.Prelude.{codes, if◌then◌else◌}
use Rattle.std.specs.Str.{bytes_eq}
use Rattle.std.proofs.lemmas.Slice.Eq.{bytes_eq-Decides}
use Rattle.ext_model.specs.declared.event.Act.TheVariants.{Put, Remove, Claim, Fill, Fail, Abandon, Seal}
use Rattle.ext_model.specs.declared.event.Act.{Act}
use Rattle.ext_model.specs.declared.event.Event.{Event}
use Rattle.ext_model.specs.declared.look.Look.{Look}
use Rattle.ext_model.specs.declared.look.Look.TheVariants as look
use Rattle.ext_model.specs.declared.slot.Slot.{Slot}
use Rattle.ext_model.specs.declared.slot.Slot.TheVariants as slot
use Rattle.ext_model.specs.Events.{Reply, Happens, Answers, Refuses, slot_after}
use Rattle.ext_model.specs.State.{State, lookup}
use Rattle.ext_model.specs.Plain.{Place, any_lane, state_by, under}
use Rattle.ext_model.proofs.Lookups.{nearest_decides}
use Rattle.ext_model.proofs.Steps.{abandon_undoes_claim}
use Rattle.ext_lifecycle.specs.Endings.{failed, successful}
use Rattle.ext_plan.specs.declared.word.Word.TheVariants as words
use Rattle.ext_plan.specs.Plans.{KeyText, PlanText, StepKeyText, keyed}
use Rattle.ext_plan.specs.StoreKeys.{key_of_step}
use Rattle.ext_tree.specs.Keys.{KeyValue}
use Rattle.ext_plan.specs.declared.reason.Reason.{Reason}
use Rattle.ext_plan.specs.StepCalls.{label_of, start_of}
use Rattle.ext_plan.specs.StepTexts.{met_fault_text}
use Rattle.ext_plan.specs.Values.{ValueText}
use Rattle.ext_plan.specs.Verdicts.{seen_fault, fail_verdict, none_verdict, want_verdict}
use Rattle.ext_plan_plain.specs.ValueStates.{enough, ValueState, reply_to, after_act, why_refused, next_number, keep_value, value_of, Numbering, known, next, full, numbering_of, with_number}
use Rattle.ext_plan_plain.specs.StepRuns.{StepEnd, ended, or_refused, shown, shown_fault, seen_by, factory_failed, claim_and, compute_looked, compute_numbered, computefail_looked, computefail_numbered, found_along, none_numbered, number_by, numbered_by, step_run, want_numbered}
use Rattle.ext_plan_plain.specs.PlainRun.{RunState, node_run}
use Rattle.ext_plan_plain.specs.PlainRunLaws.{HasNoFaults, HasValues, MeetsFault, named_by}
use Rattle.ext_plan_plain.proofs.Kept.{IsKept, IsKeptNumbered, node-kept}
use Rattle.ext_plan_plain.proofs.Numberings.{known_then}
use Rattle.ext_plan_plain.proofs.Seals.{failed_here, was_empty}
use Rattle.ext_plan_plain.proofs.Values.{act-values, keep-drawn, last_value}

-- the text of a kept fault, as it stands among the values
abbrev fault_of : List ℕ → ValueText
fault_of text = record { text = text; closeable = false }

-- the place is claimed and the number of the fault is drawn,
abbrev drawing : Place → List ℕ → ValueState → ValueState
drawing place text s = keep_value (fault_of text) (after_act (Claim place) s)

-- and then it is stored there
abbrev failing : Place → List ℕ → ValueState → ValueState
failing place text s = after_act (Fail place (drawing place text s).store.drawn) (drawing place text s)

-- ---- where faults are kept

-- a step that passed was not refused
not_refused : (name label : List ℕ) (why : Option Reason) (s : ValueState) (goes_on : StepEnd) → (or_refused name label why s goes_on).verdict ≡ successful → why ≡ None
not_refused name label None s goes_on passed = refl
not_refused name label (Some why) s goes_on passed = absurd cc

record IsKeptFault (name label : List ℕ) (place : Place) (text : List ℕ) (s : ValueState) : Type 0 where
  won : why_refused (Claim place) s ≡ None
  room : why_refused (next_number (after_act (Claim place) s)) (after_act (Claim place) s) ≡ None
  end : claim_and name label place (factory_failed name label place text) s ≡ ended successful (failing place text s)

is_kept : (name label : List ℕ) (place : Place) (text : List ℕ) (s : ValueState) → s.keep_faults ≡ true → (claim_and name label place (factory_failed name label place text) s).verdict ≡ successful
    → IsKeptFault name label place text s
is_kept name label place text s keeps passed =
    let claimed = after_act (Claim place) s in
    let failed : StepEnd = factory_failed name label place text claimed in
    let stored : StepEnd = ended successful (failing place text s) in
    let gone = after_act (Abandon place) claimed in
    let drawn : StepEnd = or_refused name label (why_refused (next_number claimed) claimed) gone stored in
    let won : why_refused (Claim place) s ≡ None = not_refused name label (why_refused (Claim place) s) s failed passed in
    let runs : claim_and name label place (factory_failed name label place text) s ≡ failed = ap (λ w. or_refused name label w s failed) won in
    let kept : failed ≡ drawn = ap (λ b. if b then drawn else ended successful gone) keeps in
    let room : why_refused (next_number claimed) claimed ≡ None =
    not_refused name label (why_refused (next_number claimed) claimed) gone stored (sym (ap (λ (e : StepEnd). e.verdict) (runs ∙ kept)) ∙ passed) in
    record { won = won; room = room; end = runs ∙ kept ∙ ap (λ w. or_refused name label w gone stored) room }

fault_found : (at key : ℕ) (above text : List ℕ) (s : ValueState) → why_refused (Claim (at, key)) s ≡ None
    → lookup (under (failing (at, key) text s).store key) (at ∷ above) ≡ look.Fault at (drawing (at, key) text s).store.drawn
fault_found at key above text s won =
    nearest_decides (under (failing (at, key) text s).store key) [] at above (slot.Fault (drawing (at, key) text s).store.drawn) (λ k d within. absurd (omega (arith, within))) (failed_here (at, key) (fault_of text) s won)

fault_known : (place : Place) (text : List ℕ) (s : ValueState) → HasValues s → why_refused (next_number (after_act (Claim place) s)) (after_act (Claim place) s) ≡ None
    → value_of (failing place text s).values (drawing place text s).store.drawn ≡ Some (fault_of text)
fault_known place text s h room =
    let claimed = after_act (Claim place) s in
    ap (value_of (s.values ++ fault_of text ∷ [])) (keep-drawn (fault_of text) claimed room ∙ ap suc (sym (act-values (Claim place) s refl h))) ∙ last_value s.values (fault_of text)

-- ---- the steps that meet it

meets_fault : (keys : List KeyText) (path : List ℕ) (key : StepKeyText) (up : ℕ) (text : List ℕ) (s : ValueState) (named at number : ℕ) → numbering_of s.places s.keys (key_of_step keys key) ≡ known named → found_along named (drop up path) s ≡ look.Fault at number
    → shown_fault (value_of s.values number) ≡ seen_fault text → MeetsFault keys path key up text s
meets_fault keys path key up text s named at number has found known_text =
    let label = label_of keys key in
    let k = key_of_step keys key in
    let place : Place = (start_of (drop up path), named) in
    let does : (name : List ℕ) (goes_on : ℕ → ValueState → StepEnd) → numbered_by enough name label k goes_on s ≡ goes_on named s = λ name goes_on. ap (number_by enough name label k goes_on s) has in
    record {
      computes = λ other. does (codes "compute") (compute_numbered enough (codes "compute") label (drop up path) (record { text = other; closeable = false }))
          ∙ ap (compute_looked (codes "compute") label place (record { text = other; closeable = false }) s) found ∙ ap (λ seen. ended (none_verdict (codes "compute") label seen) s) known_text;
      computes_closeable = λ other. does (codes "compute!") (compute_numbered enough (codes "compute!") label (drop up path) (record { text = other; closeable = true }))
          ∙ ap (compute_looked (codes "compute!") label place (record { text = other; closeable = true }) s) found ∙ ap (λ seen. ended (none_verdict (codes "compute!") label seen) s) known_text;
      fails = λ other. does (codes "computefail") (computefail_numbered enough (codes "computefail") label (drop up path) other)
          ∙ ap (computefail_looked (codes "computefail") label place other s) found ∙ ap (λ seen. ended (fail_verdict (codes "computefail") label other seen) s) known_text;
      wants = λ other. does (codes "want") (want_numbered enough (codes "want") label (drop up path) other)
          ∙ ap (λ found. ended (want_verdict (codes "want") label other (seen_by s.values found)) s) found ∙ ap (λ seen. ended (want_verdict (codes "want") label other seen) s) known_text;
      finds = does (codes "none") (none_numbered enough (codes "none") label (drop up path))
          ∙ ap (λ found. ended (none_verdict (codes "none") label (seen_by s.values found)) s) found ∙ ap (λ seen. ended (none_verdict (codes "none") label seen) s) known_text;
    }

-- a value that was found lets no `computefail` pass,
value_fails : (name label : List ℕ) (value : Option ValueText) → none_verdict name label (shown value) ≡ successful → ⊥
value_fails name label None passed = cc
value_fails name label (Some value) passed = cc

-- and a fault that was met only one of its own text
only_if : (b : Bool) (text : List ℕ) → (if b then successful else failed text) ≡ successful → b ≡ true
only_if true text passed = refl
only_if false text passed = absurd cc

same_fault : (name label text : List ℕ) (fault : Option ValueText) → fail_verdict name label text (shown_fault fault) ≡ successful → shown_fault fault ≡ seen_fault text
same_fault name label text None passed = absurd cc
same_fault name label text (Some fault) passed = ap seen_fault ((bytes_eq-Decides fault.text text).0 (only_if (bytes_eq fault.text text) (met_fault_text name label fault.text) passed))

-- ---- once a `computefail` has passed

-- where it found nothing
kept_is_met : (keys : List KeyText) (path : List ℕ) (at : ℕ) (above : List ℕ) (key : StepKeyText) (up : ℕ) (text : List ℕ) (s : ValueState) (named : ℕ) → drop up path ≡ at ∷ above → HasValues s
    → numbering_of s.places s.keys (key_of_step keys key) ≡ known named → IsKeptFault (codes "computefail") (label_of keys key) (start_of (drop up path), named) text s
    → MeetsFault keys path key up text (failing (start_of (drop up path), named) text s)
kept_is_met keys path at above key up text s named is h has kept =
    let place : Place = (start_of (drop up path), named) in
    let found : lookup (under (failing place text s).store named) (drop up path) ≡ look.Fault (start_of (drop up path)) (drawing place text s).store.drawn =
    subst (λ p. why_refused (Claim (start_of p, named)) s ≡ None → lookup (under (failing (start_of p, named) text s).store named) p ≡ look.Fault (start_of p) (drawing (start_of p, named) text s).store.drawn) (sym is) (fault_found at named above text s) kept.won in
    meets_fault keys path key up text (failing place text s) named (start_of (drop up path)) (drawing place text s).store.drawn has found (ap shown_fault (fault_known place text s h kept.room))

-- by what it found
passed_meets : (keys : List KeyText) (path : List ℕ) (at : ℕ) (above : List ℕ) (key : StepKeyText) (up : ℕ) (text : List ℕ) (s : ValueState) (named : ℕ) (found : Look) → drop up path ≡ at ∷ above → HasValues s → s.keep_faults ≡ true
    → numbering_of s.places s.keys (key_of_step keys key) ≡ known named → found_along named (drop up path) s ≡ found
    → (let end = computefail_looked (codes "computefail") (label_of keys key) (start_of (drop up path), named) text s found in end.verdict ≡ successful → MeetsFault keys path key up text end.state)
passed_meets keys path at above key up text s named (look.Found in_context number) is h keeps has found = λ passed. absurd (value_fails (codes "computefail") (label_of keys key) (value_of s.values number) passed)
passed_meets keys path at above key up text s named (look.Fault in_context number) is h keeps has found = λ passed.
    meets_fault keys path key up text s named in_context number has found (same_fault (codes "computefail") (label_of keys key) text (value_of s.values number) passed)
passed_meets keys path at above key up text s named look.Absent is h keeps has found = λ passed.
    let kept = is_kept (codes "computefail") (label_of keys key) (start_of (drop up path), named) text s keeps passed in
    subst (λ (t : ValueState). MeetsFault keys path key up text t) (sym (ap (λ (e : StepEnd). e.state) kept.end)) (kept_is_met keys path at above key up text s named is h has kept)
passed_meets keys path at above key up text s named (look.Busy in_context) is h keeps has found = λ passed. absurd cc
passed_meets keys path at above key up text s named (look.Closed in_context) is h keeps has found = λ passed. absurd cc

-- by what its key had
named_meets : (keys : List KeyText) (path : List ℕ) (at : ℕ) (above : List ℕ) (key : StepKeyText) (up : ℕ) (text : List ℕ) (s : ValueState) (numbering : Numbering) → drop up path ≡ at ∷ above → HasValues s → s.keep_faults ≡ true
    → numbering_of s.places s.keys (key_of_step keys key) ≡ numbering
    → (let label = label_of keys key in let end = number_by enough (codes "computefail") label (key_of_step keys key) (computefail_numbered enough (codes "computefail") label (drop up path) text) s numbering in
    end.verdict ≡ successful → MeetsFault keys path key up text end.state)
named_meets keys path at above key up text s (known named) is h keeps has = passed_meets keys path at above key up text s named (found_along named (drop up path) s) is h keeps has refl
named_meets keys path at above key up text s (next named) is h keeps has =
    let k = key_of_step keys key in
    let t = with_number k s in
    passed_meets keys path at above key up text t named (found_along named (drop up path) t) is h keeps (known_then s.places s.keys k named has) refl
named_meets keys path at above key up text s full is h keeps has = λ passed. absurd cc

pub kept_fault_stands : (keys : List KeyText) (path : List ℕ) (at : ℕ) (above : List ℕ) (key : StepKeyText) (up : ℕ) (text : List ℕ) (s : ValueState) → drop up path ≡ at ∷ above → HasValues s → s.keep_faults ≡ true
    → (step_run keys path (keyed words.ComputeFail key text up) s).verdict ≡ successful
    → MeetsFault keys path key up text (step_run keys path (keyed words.ComputeFail key text up) s).state
kept_fault_stands keys path at above key up text s is h keeps passed = named_meets keys path at above key up text s (numbering_of s.places s.keys (key_of_step keys key)) is h keeps refl passed

-- ---- where faults are not kept

unless_refused-same : (name label : List ℕ) (why : Option Reason) (s : ValueState) (goes_on : StepEnd) → (why ≡ None → goes_on.state ≡ s) → (or_refused name label why s goes_on).state ≡ s
unless_refused-same name label None s goes_on same = same refl
unless_refused-same name label (Some why) s goes_on same = refl

failed-same : (name label : List ℕ) (place : Place) (text : List ℕ) (s : ValueState) → s.keep_faults ≡ false → why_refused (Claim place) s ≡ None → (factory_failed name label place text (after_act (Claim place) s)).state ≡ s
failed-same name label place text s keeps won =
    let claimed = after_act (Claim place) s in
    let gone = after_act (Abandon place) claimed in
    let drawn : StepEnd = or_refused name label (why_refused (next_number claimed) claimed) gone (ended successful (failing place text s)) in
    ap (λ b. (let end : StepEnd = if b then drawn else ended successful gone in end.state)) keeps
    ∙ ap (λ (t : State Place). record s { store = t }) (abandon_undoes_claim s.numbers s.store any_lane place (was_empty (s.store.slots place) won))

looked-same : (name label : List ℕ) (place : Place) (text : List ℕ) (s : ValueState) (found : Look) → s.keep_faults ≡ false → (computefail_looked name label place text s found).state ≡ s
looked-same name label place text s (look.Found at number) keeps = refl
looked-same name label place text s (look.Fault at number) keeps = refl
looked-same name label place text s look.Absent keeps =
    unless_refused-same name label (why_refused (Claim place) s) s (factory_failed name label place text (after_act (Claim place) s)) (failed-same name label place text s keeps)
looked-same name label place text s (look.Busy at) keeps = refl
looked-same name label place text s (look.Closed at) keeps = refl

named-same : (name label : List ℕ) (key : KeyValue) (path text : List ℕ) (s : ValueState) (numbering : Numbering) → s.keep_faults ≡ false
    → (number_by enough name label key (computefail_numbered enough name label path text) s numbering).state ≡ named_by numbering key s
named-same name label key path text s (known number) keeps = looked-same name label (start_of path, number) text s (found_along number path s) keeps
named-same name label key path text s (next number) keeps = looked-same name label (start_of path, number) text (with_number key s) (found_along number path (with_number key s)) keeps
named-same name label key path text s full keeps = refl

pub no_fault_stays : (keys : List KeyText) (path : List ℕ) (key : StepKeyText) (up : ℕ) (text : List ℕ) (s : ValueState) → s.keep_faults ≡ false
    → (let k = key_of_step keys key in (step_run keys path (keyed words.ComputeFail key text up) s).state ≡ named_by (numbering_of s.places s.keys k) k s)
no_fault_stays keys path key up text s keeps = named-same (codes "computefail") (label_of keys key) (key_of_step keys key) (drop up path) text s (numbering_of s.places s.keys (key_of_step keys key)) keeps

-- ---- where faults are not kept, none stands

abbrev IsNoFault : Option Slot → Type 0
IsNoFault x = (number : ℕ) → x ≢ Some (slot.Fault number)

either-faultless : (b : Bool) (x y : Option Slot) → IsNoFault x → IsNoFault y → IsNoFault (if b then x else y)
either-faultless true x y p q = p
either-faultless false x y p q = q

by_reply : (r : Reply) (s : State Place) (e : Event Place) (place : Place) → IsNoFault (s.slots place) → IsNoFault (slot_after e.lane e.act (s.slots place)) → IsNoFault ((state_by r s e).slots place)
by_reply (Happens answer) s e place old new = either-faultless _ _ _ new old
by_reply (Answers answer) s e place old new = old
by_reply (Refuses why) s e place old new = old

act-faultless : (act : Act Place) (s : ValueState) → HasNoFaults s → ((place : Place) → IsNoFault (slot_after any_lane act (s.store.slots place))) → HasNoFaults (after_act act s)
act-faultless act s old new = λ place. by_reply (reply_to act s) s.store (record { lane = any_lane; act = act }) place (old place) (new place)

-- it keeps no faults, and none stands
record IsFaultless (s : ValueState) : Type 0 where
  never : s.keep_faults ≡ false
  nowhere : HasNoFaults s

claim-faultless : (place : Place) (s : ValueState) → HasNoFaults s → HasNoFaults (after_act (Claim place) s)
claim-faultless place s h = act-faultless (Claim place) s h (λ p number is. cc)

faultless : IsKept IsFaultless
faultless = record {
  finds = λ memory s h. record { never = h.never; nowhere = h.nowhere };
  puts = λ place number s h. record { never = h.never; nowhere = act-faultless (Put place number) s h.nowhere (λ p n is. cc) };
  removes = λ place s h. record { never = h.never; nowhere = act-faultless (Remove place) s h.nowhere (λ p n is. cc) };
  seals = λ place s h. record { never = h.never; nowhere = act-faultless (Seal place) s h.nowhere (λ p n is. cc) };
  keeps = λ value s room h. record { never = h.never; nowhere = act-faultless (next_number s) s h.nowhere h.nowhere };
  abandons = λ place s won h. record { never = h.never; nowhere = act-faultless (Abandon place) (after_act (Claim place) s) (claim-faultless place s h.nowhere) (λ p n is. cc) };
  fills = λ place value s won room h.
      let claimed = after_act (Claim place) s in
      let kept = keep_value value claimed in
      let drawn : HasNoFaults kept = act-faultless (next_number claimed) claimed (claim-faultless place s h.nowhere) (claim-faultless place s h.nowhere) in
      record { never = h.never; nowhere = act-faultless (Fill place kept.store.drawn) kept drawn (λ p n is. cc) };
  fails = λ place value s keeps won room h. absurd (let both : true ≡ false = sym keeps ∙ h.never in cc);
}

faultless-numbered : IsKeptNumbered IsFaultless
faultless-numbered = record { numbers = λ key number s is h. record { never = h.never; nowhere = h.nowhere } }

pub node-faultless : (plan : PlanText) (levels : ℕ) (path : List ℕ) (run : RunState) → run.state.keep_faults ≡ false → HasNoFaults run.state → HasNoFaults (node_run plan levels path run).state
node-faultless plan levels path run keeps h = (node-kept IsFaultless faultless faultless-numbered plan levels path run (record { never = keeps; nowhere = h })).nowhere
