-- The steps of a plain run keep that each number stands in one place at most, and each value whose close fails where a step of the plan may leave it.
use Rattle.std.proofs.Common.{◌≡◌, ℕ, Bool, true, false, List, [], ◌∷◌, drop, Option, Some, None, refl, ap, sym, subst, ◌∙◌}
use Rattle.std.specs.Prelude.{All, if◌then◌else◌}
use Rattle.std.proofs.lemmas.List.Elements.{All-head, All-tail}
use Rattle.ext_model.specs.declared.event.Act.TheVariants.{Claim, Fail, Abandon}
use Rattle.ext_model.specs.declared.look.Look.{Look}
use Rattle.ext_model.specs.declared.look.Look.TheVariants as look
use Rattle.ext_model.specs.Plain.{Place}
use Rattle.ext_tree.specs.Keys.{KeyValue}
use Rattle.ext_lifecycle.specs.Endings.{successful, aborted, failed}
use Rattle.ext_lifecycle.specs.FaultTexts.{VerdictText}
use Rattle.ext_plan.specs.declared.reason.Reason.{Reason}
use Rattle.ext_plan.specs.declared.word.Word.{Word}
use Rattle.ext_plan.specs.declared.word.Word.TheVariants as words
use Rattle.ext_plan.specs.Plans.{KeyText, StepText, keyed, fail, abort}
use Rattle.ext_plan.specs.StepWords.{word_text}
use Rattle.ext_plan.specs.StepCalls.{CallText, call_of, start_of}
use Rattle.ext_plan.specs.StepWords.{leaves_closeable}
use Rattle.ext_plan.specs.Values.{ValueText}
use Rattle.ext_plan_plain.specs.ValueStates.{Numbering, ValueState, after_act, enough, found_later, full, keep_value, known, next, next_found, next_number, numbering_of, why_refused, with_memory, with_number}
use Rattle.ext_plan_plain.specs.StepRuns.{StepEnd, acts_by, call_by, compute_looked, compute_numbered, computefail_looked, ended, factory_failed, factory_gave, found_along, kept_or_refused, next_step, number_by, numbered_by, or_refused, put_by, put_in, step_by, step_run, steps_run, unless_ended}
use Rattle.ext_plan_plain.proofs.Memories.{step_by-with}
use Rattle.ext_plan_plain.proofs.Stepping.{steps_run-nil, steps_run-cons}
use Rattle.ext_one_report.proofs.OfPlan.{IsLeftBy, Leaving}
use Rattle.ext_one_report.proofs.OfPlanStates.{IsDrawn, IsLeft, drawn_numbered, not_closed, of_abandoned, of_claimed, of_failed, of_filled, of_kept, of_numbered, of_put, of_removed}

-- where a step leaves a closeable value, the plan may leave it there
abbrev pub StepLeaves : Leaving → List ℕ → StepText → Type 0
StepLeaves leaving path (keyed word key text up) = leaves_closeable word ≡ true → IsLeft leaving (start_of (drop up path)) (record { text = text; closeable = true })
StepLeaves leaving path (fail text) = Unit {0}
StepLeaves leaving path (abort text) = Unit {0}

module _ (leaving : Leaving) where
  or_of : (name label : List ℕ) (why : Option Reason) (s : ValueState) (goes : StepEnd) → IsLeftBy leaving s → (why ≡ None → IsLeftBy leaving goes.state) → IsLeftBy leaving (or_refused name label why s goes).state
  or_of name label None s goes h go = go refl
  or_of name label (Some why) s goes h go = h

  kept_of : (name label : List ℕ) (why : Option Reason) (s : ValueState) (goes : StepEnd) → IsLeftBy leaving s → (why ≡ None → IsLeftBy leaving goes.state) → IsLeftBy leaving (kept_or_refused enough name label why s goes).state
  kept_of name label None s goes h go = go refl
  kept_of name label (Some why) s goes h go = h

  either_of : (b : Bool) (x y : StepEnd) → IsLeftBy leaving x.state → IsLeftBy leaving y.state → IsLeftBy leaving (if b then x else y).state
  either_of true x y p q = p
  either_of false x y p q = q

  -- by what its key has
  number_of : (Q : ValueState → Type 0) (name label : List ℕ) (key : KeyValue) (goes : ℕ → ValueState → StepEnd) (s : ValueState) (numbering : Numbering) → ((t : ValueState) → Q t → Q (with_number key t)) → ((t : ValueState) → Q t → IsLeftBy leaving t)
      → ((number : ℕ) (t : ValueState) → Q t → IsLeftBy leaving (goes number t).state) → Q s → IsLeftBy leaving (number_by enough name label key goes s numbering).state
  number_of Q name label key goes s (known number) gets of each h = each number s h
  number_of Q name label key goes s (next number) gets of each h = each number (with_number key s) (gets s h)
  number_of Q name label key goes s full gets of each h = of s h

  -- a call whose key is numbered first
  numbered_of : (call : CallText) (goes : ℕ → ValueState → StepEnd) (s : ValueState) → ((number : ℕ) (t : ValueState) → IsLeftBy leaving t → IsLeftBy leaving (goes number t).state) → IsLeftBy leaving s
      → IsLeftBy leaving (numbered_by enough call.name call.label call.key goes s).state
  numbered_of call goes s each h = number_of (IsLeftBy leaving) call.name call.label call.key goes s (numbering_of s.places s.keys call.key) (of_numbered leaving call.key) (λ t p. p) each h

  -- one whose value is kept first
  put_of : (call : CallText) (value : ValueText) (s : ValueState) → IsLeft leaving (start_of call.path) value → IsLeftBy leaving s
      → IsLeftBy leaving (put_by enough call.name call.label (start_of call.path) call.key value s).state
  put_of call value s left h =
      let kept = keep_value value s in
      let puts : ℕ → ValueState → StepEnd = λ number. put_in enough call.name call.label (start_of call.path, number) in
      kept_of call.name call.label (why_refused (next_number s) s) s (numbered_by enough call.name call.label call.key puts kept) h
      (λ room. number_of (IsDrawn leaving value) call.name call.label call.key puts kept (numbering_of kept.places kept.keys call.key) (drawn_numbered leaving call.key value) (λ t d. d.of)
      (λ number t d. of_put leaving (start_of call.path, number) value t d left) (of_kept leaving value s room h))

  gave_of : (name label : List ℕ) (place : Place) (value : ValueText) (s : ValueState) → IsLeft leaving place.0 value → IsLeftBy leaving s → IsLeftBy leaving (factory_gave name label place value s).state
  gave_of name label place value s left h =
      or_of name label (why_refused (next_number s) s) (after_act (Abandon place) s) _ (of_abandoned leaving place s h) (λ room. of_filled leaving place value (keep_value value s) (of_kept leaving value s room h) left)

  compute_of : (name label : List ℕ) (place : Place) (value : ValueText) (s : ValueState) (found : Look) → IsLeft leaving place.0 value → IsLeftBy leaving s → IsLeftBy leaving (compute_looked name label place value s found).state
  compute_of name label place value s (look.Found at number) left h = h
  compute_of name label place value s (look.Fault at number) left h = h
  compute_of name label place value s look.Absent left h =
      or_of name label (why_refused (Claim place) s) s (factory_gave name label place value (after_act (Claim place) s)) h (λ won. gave_of name label place value (after_act (Claim place) s) left (of_claimed leaving place s h))
  compute_of name label place value s (look.Busy at) left h = h
  compute_of name label place value s (look.Closed at) left h = h

  failed_of : (name label : List ℕ) (place : Place) (text : List ℕ) (s : ValueState) → IsLeftBy leaving s → IsLeftBy leaving (factory_failed name label place text s).state
  failed_of name label place text s h =
      let value : ValueText = record { text = text; closeable = false } in
      let kept = keep_value value s in
      let gone = after_act (Abandon place) s in
      let stored = ended successful (after_act (Fail place kept.store.drawn) kept) in
      let left = of_abandoned leaving place s h in
      either_of s.keep_faults (or_refused name label (why_refused (next_number s) s) gone stored) (ended successful gone)
      (or_of name label (why_refused (next_number s) s) gone stored left (λ room. of_failed leaving place value kept (of_kept leaving value s room h) (not_closed leaving place.0 text))) left

  computefail_of : (name label : List ℕ) (place : Place) (text : List ℕ) (s : ValueState) (found : Look) → IsLeftBy leaving s → IsLeftBy leaving (computefail_looked name label place text s found).state
  computefail_of name label place text s (look.Found at number) h = h
  computefail_of name label place text s (look.Fault at number) h = h
  computefail_of name label place text s look.Absent h =
      or_of name label (why_refused (Claim place) s) s (factory_failed name label place text (after_act (Claim place) s)) h (λ won. failed_of name label place text (after_act (Claim place) s) (of_claimed leaving place s h))
  computefail_of name label place text s (look.Busy at) h = h
  computefail_of name label place text s (look.Closed at) h = h

  -- ---- a step of any form

  computes_of : (call : CallText) (value : ValueText) (s : ValueState) → IsLeft leaving (start_of call.path) value → IsLeftBy leaving s
      → IsLeftBy leaving (numbered_by enough call.name call.label call.key (compute_numbered enough call.name call.label call.path value) s).state
  computes_of call value s left h = numbered_of call (compute_numbered enough call.name call.label call.path value) s
      (λ number t p. compute_of call.name call.label (start_of call.path, number) value t (found_along number call.path t) left p) h

  does_of : (word : Word) (call : CallText) (text : List ℕ) (s : ValueState) → (leaves_closeable word ≡ true → IsLeft leaving (start_of call.path) (record { text = text; closeable = true })) → IsLeftBy leaving s
      → IsLeftBy leaving (call_by enough word call text s).state
  does_of words.Put call text s left h = put_of call (record { text = text; closeable = false }) s (not_closed leaving (start_of call.path) text) h
  does_of words.PutCloseable call text s left h = put_of call (record { text = text; closeable = true }) s (left refl) h
  does_of words.Remove call text s left h = numbered_of call (acts_by enough words.Remove call text) s (λ number t p. of_removed leaving (start_of call.path, number) t p) h
  does_of words.Compute call text s left h = computes_of call (record { text = text; closeable = false }) s (not_closed leaving (start_of call.path) text) h
  does_of words.ComputeCloseable call text s left h = computes_of call (record { text = text; closeable = true }) s (left refl) h
  does_of words.ComputeFail call text s left h = numbered_of call (acts_by enough words.ComputeFail call text) s
      (λ number t p. computefail_of call.name call.label (start_of call.path, number) text t (found_along number call.path t) p) h
  does_of word call text s left h = numbered_of call (acts_by enough word call text) s (λ number t p. p) h

  step_of : (keys : List KeyText) (path : List ℕ) (step : StepText) (s : ValueState) → StepLeaves leaving path step → IsLeftBy leaving s → IsLeftBy leaving (step_run keys path step s).state
  step_of keys path (keyed word key text up) s left h = does_of word (call_of keys path (word_text word) key up) text s left h
  step_of keys path (fail text) s left h = h
  step_of keys path (abort text) s left h = h

-- ---- steps one after another, which find all memory

-- what holds of a state between two steps
pub record IsReady (leaving : Leaving) (s : ValueState) : Type 0 where
  pub memory : s.memory ≡ []
  pub of : IsLeftBy leaving s

module _ (leaving : Leaving) where
  clean : (s : ValueState) → s.memory ≡ [] → with_memory [] s ≡ s
  clean s none = ap (λ m. with_memory m s) (sym none)

  step_ready : (keys : List KeyText) (path : List ℕ) (step : StepText) (s : ValueState) → StepLeaves leaving path step → IsReady leaving s → IsReady leaving (step_run keys path step s).state
  step_ready keys path step s left h = record {
    memory = (let end = step_by-with [] keys enough path step s in sym (ap (λ (e : StepEnd). e.state.memory) (end ∙ ap (step_run keys path step) (clean s h.memory))));
    of = step_of leaving keys path step s left h.of;
  }

  next_ready : (keys : List KeyText) (path : List ℕ) (step : StepText) (s : ValueState) → StepLeaves leaving path step → IsReady leaving s → IsReady leaving (next_step keys path step s).state
  next_ready keys path step s left h =
      let same : next_step keys path step s ≡ step_run keys path step s = ap (λ m. step_by keys (next_found m) path step (with_memory (found_later m) s)) h.memory ∙ ap (step_run keys path step) (clean s h.memory) in
      subst (λ (e : StepEnd). IsReady leaving e.state) (sym same) (step_ready keys path step s left h)

  ended_ready : (v : VerdictText) (first : StepEnd) (go_on : ValueState → StepEnd) → IsReady leaving first.state → ((s : ValueState) → IsReady leaving s → IsReady leaving (go_on s).state) → IsReady leaving (unless_ended v first go_on).state
  ended_ready successful first go_on h go = go first.state h
  ended_ready (aborted text) first go_on h go = h
  ended_ready (failed text) first go_on h go = h

  pub steps_ready : (keys : List KeyText) (path : List ℕ) (steps : List StepText) (s : ValueState) → All (StepLeaves leaving path) steps → IsReady leaving s → IsReady leaving (steps_run keys path steps s).state
  steps_ready keys path [] s left h = subst (λ (e : StepEnd). IsReady leaving e.state) (sym (steps_run-nil keys path s)) h
  steps_ready keys path (step ∷ more) s left h =
      subst (λ (e : StepEnd). IsReady leaving e.state) (sym (steps_run-cons keys path step more s))
      (ended_ready (next_step keys path step s).verdict (next_step keys path step s) (steps_run keys path more) (next_ready keys path step s (All-head (StepLeaves leaving path) step more left) h)
      (λ t p. steps_ready keys path more t (All-tail (StepLeaves leaving path) step more left) p))
