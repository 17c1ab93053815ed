-- A step of a plain run that has one number more does the same without that number, unless it draws it.
use Rattle.std.proofs.Common.{◌≡◌, ◌≤◌, ◌<◌, ℕ, ◌+◌, Bool, true, false, List, [], ◌∷◌, ◌++◌, Option, None, Some, refl, ap, ◌∙◌, arith}
use Rattle.std.specs.Prelude.{◌&&◌, if◌then◌else◌, nat_lt}
use Rattle.std.proofs.lemmas.Bool.{ltb-false, ltb-true}
use Rattle.ext_model.specs.declared.event.Act.{Act}
use Rattle.ext_model.specs.declared.event.Act.TheVariants.{Put, Remove, Claim, Fill, Fail, Abandon}
use Rattle.ext_model.specs.declared.look.Look.{Look}
use Rattle.ext_model.specs.declared.look.Look.TheVariants as look
use Rattle.ext_model.specs.declared.slot.Slot.{Slot}
use Rattle.ext_model.specs.Events.{Reply, Happens, NumbersFull, Refuses}
use Rattle.ext_model.specs.Plain.{Place, any_lane, state_by}
use Rattle.ext_tree.specs.Keys.{KeyValue}
use Rattle.ext_lifecycle.specs.Endings.{successful, aborted, failed}
use Rattle.ext_lifecycle.specs.FaultTexts.{VerdictText}
use Rattle.ext_plan.specs.declared.reason.Reason.{Reason}
use Rattle.ext_plan.specs.declared.word.Word.{Word}
use Rattle.ext_plan.specs.declared.word.Word.TheVariants as words
use Rattle.ext_plan.specs.Plans.{KeyText, StepText, keyed, fail, abort}
use Rattle.ext_plan.specs.StepCalls.{CallText, call_of, is_made, start_of}
use Rattle.ext_plan.specs.StepWords.{word_text}
use Rattle.ext_plan.specs.Values.{ValueText}
use Rattle.ext_plan.specs.Verdicts.{none_verdict, want_verdict}
use Rattle.ext_plan_plain.specs.ValueStates.{Memory, no_place, no_value, no_words, Numbering, ValueState, after_act, found_later, full, keep_value, known, next, next_found, next_number, numbering_of, refusal, reply_to, why_refused, with_memory, with_number}
use Rattle.ext_plan_plain.specs.StepRuns.{StepEnd, act_ends, acts_by, and_then, call_by, claim_and, compute_by, compute_looked, computefail_by, computefail_looked, ended, factory_failed, factory_gave, first_kept, found_along, if_absent, if_empty, kept_or_refused, lacks_key, lacks_number, lacks_place, lacks_value, next_step, no_memory, number_by, numbered_by, or_refused, put_in, put_kept, said_by, seen_by, step_by, steps_run, unless_ended, value_first}
use Rattle.ext_one_report.proofs.FrameSlots.{reply_drawn}

-- the same with so many numbers
abbrev pub with_numbers : ℕ → ValueState → ValueState
with_numbers n s = record s { numbers = n }

abbrev pub end_with_numbers : ℕ → StepEnd → StepEnd
end_with_numbers n end = record end { state = with_numbers n end.state }

-- From one state of a plain run to a later one: it has as many numbers, gives none back, and this is so where no more than n are drawn
pub record Follows (n : ℕ) (s t : ValueState) (Fact : Type 0) : Type 0 where
  pub numbers : t.numbers ≡ s.numbers
  pub drawn : s.store.drawn ≤ t.store.drawn
  pub fact : t.store.drawn ≤ n → Fact

pub follows_itself : {A : Type 0} (n : ℕ) (s : ValueState) → A → Follows n s s A
follows_itself n s is = record { numbers = refl; drawn = omega arith; fact = λ few. is }

pub follows_act : {A : Type 0} (n : ℕ) (act : Act Place) (s : ValueState) → A → Follows n s (after_act act s) A
follows_act n act s is = record { numbers = refl; drawn = reply_drawn (reply_to act s) s.store act; fact = λ few. is }

pub follows_then : {A B C : Type 0} (n : ℕ) (s t u : ValueState) → Follows n s t A → Follows n t u B → (A → B → C) → Follows n s u C
follows_then n s t u one two both = record {
  numbers = two.numbers ∙ one.numbers;
  drawn = let a = one.drawn in let b = two.drawn in omega (arith, a, b);
  fact = λ few. both (one.fact (let b = two.drawn in omega (arith, b, few))) (two.fact few);
}

module _ (n : ℕ) where
  abbrev less : ValueState → ValueState
  less s = with_numbers n s

  -- a step from this state ends so, and from the same one with n numbers it ends alike
  abbrev pub Ends : ValueState → StepEnd → StepEnd → Type 0
  Ends s wide narrow = Follows n s wide.state (narrow ≡ end_with_numbers n wide)

  -- ---- what a step does, put together

  said_ends : (found : Memory) (s : ValueState) (wide narrow : StepEnd) → Ends s wide narrow → Ends s (said_by found wide) (said_by found narrow)
  said_ends no_words s wide narrow e = record { numbers = e.numbers; drawn = e.drawn; fact = λ few. ap (said_by no_words) (e.fact few) }
  said_ends found s wide narrow e = e

  either_ends : (b : Bool) (s : ValueState) (x x_less y y_less : StepEnd) → Ends s x x_less → Ends s y y_less → Ends s (if b then x else y) (if b then x_less else y_less)
  either_ends true s x x_less y y_less p q = p
  either_ends false s x x_less y y_less p q = q

  empty_ends : (stands : Option Slot) (s : ValueState) (x x_less y y_less : StepEnd) → Ends s x x_less → Ends s y y_less → Ends s (if_empty stands x y) (if_empty stands x_less y_less)
  empty_ends None s x x_less y y_less p q = p
  empty_ends (Some slot) s x x_less y y_less p q = q

  absent_ends : (found : Look) (s : ValueState) (x x_less y y_less : StepEnd) → Ends s x x_less → Ends s y y_less → Ends s (if_absent found x y) (if_absent found x_less y_less)
  absent_ends look.Absent s x x_less y y_less p q = p
  absent_ends found s x x_less y y_less p q = q

  refused_ends : (name label : List ℕ) (why : Option Reason) (s : ValueState) (wide narrow : StepEnd) → Ends s wide narrow → Ends s (or_refused name label why s wide) (or_refused name label why (less s) narrow)
  refused_ends name label None s wide narrow e = e
  refused_ends name label (Some why) s wide narrow e = follows_itself n s refl

  -- ---- a draw

  -- what it answers, and what it leaves, where a number is left or none is
  abbrev draw_reply : Bool → ValueState → Reply
  draw_reply room s = if room then Happens (Some (s.store.drawn + 1)) else Refuses NumbersFull

  abbrev draw : Bool → ValueText → ValueState → ValueState
  draw room value s = record s { store = state_by (draw_reply room s) s.store (record { lane = any_lane; act = next_number s }); values = s.values ++ value ∷ [] }

  -- with one number more it is answered otherwise only where it draws that, and then more than n are drawn
  draw_ends : (does : Bool → ValueState → StepEnd) (s : ValueState) → s.numbers ≡ n + 1 → ((room : Bool) → Ends s (does room s) (does room (less s))) → s.store.drawn < (does true s).state.store.drawn
      → Ends s (does (nat_lt s.store.drawn s.numbers) s) (does (nat_lt s.store.drawn n) (less s))
  draw_ends does s limit each more = by (nat_lt s.store.drawn s.numbers) (nat_lt s.store.drawn n) refl refl
    where
      by : (wide narrow : Bool) → nat_lt s.store.drawn s.numbers ≡ wide → nat_lt s.store.drawn n ≡ narrow → Ends s (does wide s) (does narrow (less s))
      by true true wide narrow = each true
      by false false wide narrow = each false
      by true false wide narrow =
          let past = ltb-false s.store.drawn n narrow in
          let e = each true in
          record { numbers = e.numbers; drawn = e.drawn; fact = λ few. absurd (omega (arith, past, few, more)) }
      by false true wide narrow =
          let below = ltb-true s.store.drawn n narrow in
          let past = ltb-false s.store.drawn s.numbers wide in
          absurd (omega (arith, below, past, limit))

  -- a draw from which the step goes on if it is not refused
  module _ (value : ValueText) (goes_on : ValueState → StepEnd) (s : ValueState) (each : (t : ValueState) → t.numbers ≡ s.numbers → Ends t (goes_on t) (goes_on (less t))) where
    drawn_ends : Ends s (goes_on (draw true value s)) (goes_on (draw true value (less s)))
    drawn_ends =
        let t = draw true value s in
        let draws : Follows n s t (Unit {0}) = record { numbers = refl; drawn = reply_drawn (draw_reply true s) s.store (next_number s); fact = λ few. tt } in
        follows_then n s t (goes_on t).state draws (each t refl) (λ any is. is)

    more_drawn : s.store.drawn < (goes_on (draw true value s)).state.store.drawn
    more_drawn =
        let later : s.store.drawn + 1 ≤ (goes_on (draw true value s)).state.store.drawn = (each (draw true value s) refl).drawn in
        omega (arith, later)

    -- `put` keeps its value first
    kept_ends : (found : Memory) (name label : List ℕ) → s.numbers ≡ n + 1
        → Ends s (kept_or_refused found name label (why_refused (next_number s) s) s (goes_on (keep_value value s)))
        (kept_or_refused found name label (why_refused (next_number s) (less s)) (less s) (goes_on (keep_value value (less s))))
    kept_ends found name label limit = draw_ends (λ room t. kept_or_refused found name label (refusal (draw_reply room t)) t (goes_on (draw room value t))) s limit by more_drawn
      where
        by : (room : Bool) → Ends s (kept_or_refused found name label (refusal (draw_reply room s)) s (goes_on (draw room value s))) (kept_or_refused found name label (refusal (draw_reply room s)) (less s) (goes_on (draw room value (less s))))
        by true = drawn_ends
        by false = said_ends found s _ _ (follows_itself n s refl)

    -- a factory's value or fault is kept under a claim
    stored_ends : (name label : List ℕ) (place : Place) → s.numbers ≡ n + 1
        → Ends s (or_refused name label (why_refused (next_number s) s) (after_act (Abandon place) s) (goes_on (keep_value value s)))
        (or_refused name label (why_refused (next_number s) (less s)) (after_act (Abandon place) (less s)) (goes_on (keep_value value (less s))))
    stored_ends name label place limit = draw_ends (λ room t. or_refused name label (refusal (draw_reply room t)) (after_act (Abandon place) t) (goes_on (draw room value t))) s limit by more_drawn
      where
        by : (room : Bool)
            → Ends s (or_refused name label (refusal (draw_reply room s)) (after_act (Abandon place) s) (goes_on (draw room value s)))
            (or_refused name label (refusal (draw_reply room s)) (after_act (Abandon place) (less s)) (goes_on (draw room value (less s))))
        by true = drawn_ends
        by false = follows_act n (Abandon place) s refl

  -- ---- `put`

  put_in_ends : (found : Memory) (name label : List ℕ) (place : Place) (s : ValueState) → Ends s (put_in found name label place s) (put_in found name label place (less s))
  put_in_ends found name label place s =
      let lacks = ended no_memory s in
      let lacks_less = ended no_memory (less s) in
      let stored = put_kept name label place s in
      let stored_less = put_kept name label place (less s) in
      let put : Ends s stored stored_less = follows_act n (Put place s.store.drawn) s refl in
      said_ends found s (if lacks_place found then if_empty (s.store.slots place) lacks stored else stored) (if lacks_place found then if_empty (s.store.slots place) lacks_less stored_less else stored_less)
      (either_ends (lacks_place found) s (if_empty (s.store.slots place) lacks stored) (if_empty (s.store.slots place) lacks_less stored_less) stored stored_less
      (empty_ends (s.store.slots place) s lacks lacks_less stored stored_less (follows_itself n s refl) put) put)

  -- ---- the factories

  claim_ends : (name label : List ℕ) (place : Place) (factory : ValueState → StepEnd) (s : ValueState) → Ends (after_act (Claim place) s) (factory (after_act (Claim place) s)) (factory (less (after_act (Claim place) s)))
      → Ends s (claim_and name label place factory s) (claim_and name label place factory (less s))
  claim_ends name label place factory s e =
      let claimed = after_act (Claim place) s in
      refused_ends name label (why_refused (Claim place) s) s (factory claimed) (factory (less claimed)) (follows_then n s claimed (factory claimed).state (follows_act n (Claim place) s (tt {0})) e (λ any is. is))

  -- a claim that is given up for lack of memory
  lost_ends : (name label : List ℕ) (place : Place) (s : ValueState)
      → Ends s (claim_and name label place (λ claimed. ended no_memory (after_act (Abandon place) claimed)) s) (claim_and name label place (λ claimed. ended no_memory (after_act (Abandon place) claimed)) (less s))
  lost_ends name label place s = claim_ends name label place (λ claimed. ended no_memory (after_act (Abandon place) claimed)) s (follows_act n (Abandon place) (after_act (Claim place) s) refl)

  unplaced_ends : (name label : List ℕ) (place : Place) (s : ValueState)
      → Ends s (or_refused name label (why_refused (Claim place) s) s (ended no_memory s)) (or_refused name label (why_refused (Claim place) s) (less s) (ended no_memory (less s)))
  unplaced_ends name label place s = refused_ends name label (why_refused (Claim place) s) s (ended no_memory s) (ended no_memory (less s)) (follows_itself n s refl)

  gave_ends : (name label : List ℕ) (place : Place) (value : ValueText) (s : ValueState) → s.numbers ≡ n + 1 → Ends s (factory_gave name label place value s) (factory_gave name label place value (less s))
  gave_ends name label place value s limit =
      stored_ends value (λ kept. record { state = after_act (Fill place kept.store.drawn) kept; verdict = successful; computed = 1; found = 0 }) s
      (λ t same. follows_act n (Fill place t.store.drawn) t refl) name label place limit

  compute_ends : (name label : List ℕ) (place : Place) (value : ValueText) (s : ValueState) (found : Look) → s.numbers ≡ n + 1 → Ends s (compute_looked name label place value s found) (compute_looked name label place value (less s) found)
  compute_ends name label place value s look.Absent limit = claim_ends name label place (factory_gave name label place value) s (gave_ends name label place value (after_act (Claim place) s) limit)
  compute_ends name label place value s found limit = follows_itself n s refl

  compute_by_ends : (memory : Memory) (name label : List ℕ) (place : Place) (value : ValueText) (s : ValueState) (found : Look) → s.numbers ≡ n + 1
      → Ends s (compute_by memory name label place value s found) (compute_by memory name label place value (less s) found)
  compute_by_ends no_value name label place value s found limit = absent_ends found s _ _ _ _ (lost_ends name label place s) (compute_ends name label place value s found limit)
  compute_by_ends no_place name label place value s found limit = absent_ends found s _ _ _ _ (unplaced_ends name label place s) (compute_ends name label place value s found limit)
  compute_by_ends no_words name label place value s found limit = said_ends no_words s _ _ (compute_ends name label place value s found limit)
  compute_by_ends memory name label place value s found limit = compute_ends name label place value s found limit

  failed_ends : (name label : List ℕ) (place : Place) (text : List ℕ) (s : ValueState) → s.numbers ≡ n + 1 → Ends s (factory_failed name label place text s) (factory_failed name label place text (less s))
  failed_ends name label place text s limit =
      either_ends s.keep_faults s _ _ _ _
      (stored_ends (record { text = text; closeable = false }) (λ kept. ended successful (after_act (Fail place kept.store.drawn) kept)) s (λ t same. follows_act n (Fail place t.store.drawn) t refl) name label place limit)
      (follows_act n (Abandon place) s refl)

  computefail_ends : (name label : List ℕ) (place : Place) (text : List ℕ) (s : ValueState) (found : Look) → s.numbers ≡ n + 1 → Ends s (computefail_looked name label place text s found) (computefail_looked name label place text (less s) found)
  computefail_ends name label place text s look.Absent limit = claim_ends name label place (factory_failed name label place text) s (failed_ends name label place text (after_act (Claim place) s) limit)
  computefail_ends name label place text s found limit = follows_itself n s refl

  computefail_by_ends : (memory : Memory) (name label : List ℕ) (place : Place) (text : List ℕ) (s : ValueState) (found : Look) → s.numbers ≡ n + 1
      → Ends s (computefail_by memory name label place text s found) (computefail_by memory name label place text (less s) found)
  computefail_by_ends no_value name label place text s found limit =
      let whole = computefail_ends name label place text s found limit in
      either_ends s.keep_faults s _ _ _ _ (absent_ends found s _ _ _ _ (lost_ends name label place s) whole) whole
  computefail_by_ends no_place name label place text s found limit = absent_ends found s _ _ _ _ (unplaced_ends name label place s) (computefail_ends name label place text s found limit)
  computefail_by_ends no_words name label place text s found limit = said_ends no_words s _ _ (computefail_ends name label place text s found limit)
  computefail_by_ends memory name label place text s found limit = computefail_ends name label place text s found limit

  -- ---- a step

  number_ends : (found : Memory) (name label : List ℕ) (key : KeyValue) (goes_on : ℕ → ValueState → StepEnd) (s : ValueState) (numbering : Numbering)
      → ((number : ℕ) (t : ValueState) → t.numbers ≡ s.numbers → Ends t (goes_on number t) (goes_on number (less t))) → Ends s (number_by found name label key goes_on s numbering) (number_by found name label key goes_on (less s) numbering)
  number_ends found name label key goes_on s (known number) each = each number s refl
  number_ends found name label key goes_on s (next number) each =
      let e = each number (with_number key s) refl in
      either_ends (lacks_number found) s (ended no_memory s) (ended no_memory (less s)) (goes_on number (with_number key s)) (goes_on number (less (with_number key s))) (follows_itself n s refl)
      (record { numbers = e.numbers; drawn = e.drawn; fact = e.fact })
  number_ends found name label key goes_on s full each = said_ends found s _ _ (follows_itself n s refl)

  acts_end : (found : Memory) (word : Word) (call : CallText) (text : List ℕ) (number : ℕ) (s : ValueState) → s.numbers ≡ n + 1 → Ends s (acts_by found word call text number s) (acts_by found word call text number (less s))
  acts_end found words.Put call text number s limit = put_in_ends found call.name call.label (start_of call.path, number) s
  acts_end found words.PutCloseable call text number s limit = put_in_ends found call.name call.label (start_of call.path, number) s
  acts_end found words.Want call text number s limit =
      let seen = want_verdict call.name call.label text (seen_by s.values (found_along number call.path s)) in
      said_ends found s (ended seen s) (ended seen (less s)) (follows_itself n s refl)
  acts_end found words.None call text number s limit =
      let seen = none_verdict call.name call.label (seen_by s.values (found_along number call.path s)) in
      said_ends found s (ended seen s) (ended seen (less s)) (follows_itself n s refl)
  acts_end found words.Remove call text number s limit =
      let act : Act Place = Remove (start_of call.path, number) in
      said_ends found s (act_ends call.name call.label act s) (act_ends call.name call.label act (less s)) (follows_act n act s refl)
  acts_end found words.Compute call text number s limit = compute_by_ends found call.name call.label (start_of call.path, number) (record { text = text; closeable = false }) s (found_along number call.path s) limit
  acts_end found words.ComputeCloseable call text number s limit = compute_by_ends found call.name call.label (start_of call.path, number) (record { text = text; closeable = true }) s (found_along number call.path s) limit
  acts_end found words.ComputeFail call text number s limit = computefail_by_ends found call.name call.label (start_of call.path, number) text s (found_along number call.path s) limit

  first_ends : (found : Memory) (name label : List ℕ) (value : Option ValueText) (goes_on : ValueState → StepEnd) (s : ValueState) → s.numbers ≡ n + 1 → ((t : ValueState) → t.numbers ≡ s.numbers → Ends t (goes_on t) (goes_on (less t)))
      → Ends s (first_kept found name label value goes_on s) (first_kept found name label value goes_on (less s))
  first_ends found name label None goes_on s limit each = each s refl
  first_ends found name label (Some value) goes_on s limit each =
      either_ends (lacks_value found) s (ended no_memory s) (ended no_memory (less s)) _ _ (follows_itself n s refl) (kept_ends value goes_on s each found name label limit)

  step_ends : (keys : List KeyText) (found : Memory) (path : List ℕ) (step : StepText) (s : ValueState) → s.numbers ≡ n + 1 → Ends s (step_by keys found path step s) (step_by keys found path step (less s))
  step_ends keys found path (keyed word key text up) s limit =
      let call = call_of keys path (word_text word) key up in
      let goes_on : ValueState → StepEnd = numbered_by found call.name call.label call.key (acts_by found word call text) in
      either_ends (lacks_key found && is_made keys key) s (ended no_memory s) (ended no_memory (less s)) (call_by found word call text s) (call_by found word call text (less s)) (follows_itself n s refl)
      (first_ends found call.name call.label (value_first word text) goes_on s limit
      (λ t same. number_ends found call.name call.label call.key (acts_by found word call text) t (numbering_of t.places t.keys call.key) (λ number u still. acts_end found word call text number u (still ∙ (same ∙ limit)))))
  step_ends keys found path (fail text) s limit = said_ends found s (ended (failed text) s) (ended (failed text) (less s)) (follows_itself n s refl)
  step_ends keys found path (abort text) s limit = said_ends found s (ended (aborted text) s) (ended (aborted text) (less s)) (follows_itself n s refl)

  -- ---- steps, one after another

  next_ends : (keys : List KeyText) (path : List ℕ) (step : StepText) (s : ValueState) → s.numbers ≡ n + 1 → Ends s (next_step keys path step s) (next_step keys path step (less s))
  next_ends keys path step s limit =
      let e = step_ends keys (next_found s.memory) path step (with_memory (found_later s.memory) s) limit in
      record { numbers = e.numbers; drawn = e.drawn; fact = e.fact }

  unless_ends : (v : VerdictText) (first : StepEnd) (go_on : ValueState → StepEnd) → Ends first.state (go_on first.state) (go_on (less first.state))
      → Ends first.state (unless_ended v first go_on) (unless_ended v (end_with_numbers n first) go_on)
  unless_ends successful first go_on e = record { numbers = e.numbers; drawn = e.drawn; fact = λ few. ap (and_then first) (e.fact few) }
  unless_ends (aborted text) first go_on e = follows_itself n first.state refl
  unless_ends (failed text) first go_on e = follows_itself n first.state refl

  pub steps_end : (keys : List KeyText) (path : List ℕ) (steps : List StepText) (s : ValueState) → s.numbers ≡ n + 1 → Ends s (steps_run keys path steps s) (steps_run keys path steps (less s))
  unfolding steps_run
  steps_end keys path [] s limit = follows_itself n s refl
  steps_end keys path (step ∷ more) s limit =
      let first = next_step keys path step s in
      let go_on : ValueState → StepEnd = steps_run keys path more in
      let one = next_ends keys path step s limit in
      follows_then n s first.state (unless_ended first.verdict first go_on).state one (unless_ends first.verdict first go_on (steps_end keys path more first.state (one.numbers ∙ limit)))
      (λ is rest. ap (λ (e : StepEnd). unless_ended e.verdict e go_on) is ∙ rest)
