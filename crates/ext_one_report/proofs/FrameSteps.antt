-- What the steps of a call, the calls of a node and the end of its context leave as it was.
use Rattle.std.proofs.Common.{◌≡◌, ℕ, zero, suc, inl, inr, Bool, true, false, List, [], ◌∷◌, drop, Option, None, Some, Contains, refl, sym, subst, ◌∙◌}
use Rattle.std.specs.Prelude.{◌==◌, if◌then◌else◌}
use Rattle.std.proofs.lemmas.Bool.{eq-eqb}
use Rattle.ext_history.proofs.Lists.{bools}
use Rattle.ext_model.specs.declared.event.Act.TheVariants.{Put, Remove, Claim, Fill, Fail, Abandon, Seal}
use Rattle.ext_model.specs.declared.look.Look.{Look}
use Rattle.ext_model.specs.declared.look.Look.TheVariants as look
use Rattle.ext_model.specs.Plain.{Place}
use Rattle.ext_tree.specs.Keys.{KeyValue}
use Rattle.ext_tree.specs.Trees.{IsPathOf}
use Rattle.ext_lifecycle.specs.declared.call.Call.{Call}
use Rattle.ext_lifecycle.specs.Endings.{successful, is_successful}
use Rattle.ext_plan.specs.declared.reason.Reason.{Reason}
use Rattle.ext_plan.specs.declared.word.Word.TheVariants as words
use Rattle.ext_plan.specs.Plans.{KeyText, PlanText, StepKeyText, StepText, keyed, fail, abort}
use Rattle.ext_plan.specs.PlanCalls.{steps_of_call}
use Rattle.ext_plan.specs.ReadPlans.{ids_of_nodes}
use Rattle.ext_plan.specs.StepWords.{word_text}
use Rattle.ext_plan.specs.StepCalls.{CallText, call_of, start_of}
use Rattle.ext_plan.specs.StoreKeys.{is_there, key_of_step, number_of_key}
use Rattle.ext_plan.specs.Values.{ValueText}
use Rattle.ext_plan.proofs.KeyLists.{key_number_last}
use Rattle.ext_races.specs.MadeSteps.{calls_of}
use Rattle.ext_races.proofs.Lists.{contains_first, contains_later}
use Rattle.ext_plan_plain.specs.ValueStates.{Numbering, ValueState, after_act, enough, full, keep_value, known, next, next_number, numbering_of, why_refused, with_number}
use Rattle.ext_plan_plain.specs.ContextEnds.{seal_keys}
use Rattle.ext_plan_plain.specs.StepRuns.{StepEnd, acts_by, claim_and, compute_looked, compute_numbered, computefail_looked, ended, factory_failed, factory_gave, found_along, kept_or_refused, number_by, numbered_by, or_refused, put_by, put_in, step_run, steps_run}
use Rattle.ext_plan_plain.specs.NodeCalls.{call_run}
use Rattle.ext_plan_plain.proofs.Numberings.{known_is, next_is, there_then}
use Rattle.ext_plan_plain.proofs.Stepping.{steps_run-nil}
use Rattle.ext_one_report.proofs.PlanCells.{changed_by}
use Rattle.ext_one_report.proofs.MatchingWords.{Places}
use Rattle.ext_one_report.proofs.Calls.{plain_goes, plain_stops, step_memory}
use Rattle.ext_one_report.proofs.Covers.{AreCovered}
use Rattle.ext_one_report.proofs.PlainFrames.{LeavesElse, all_of, no_context}
use Rattle.ext_one_report.proofs.FrameSlots.{ActsAt, acts_itself, acts_kept, acts_more, leaves_acts, leaves_closed, leaves_itself, leaves_kept, leaves_named, leaves_then}

-- ---- what a step does at the place of its key

-- of states that each come about so
module _ (P : ValueState → Type 0) where
  or_so : (name label : List ℕ) (why : Option Reason) (s : ValueState) (goes : StepEnd) → P s → P goes.state → P (or_refused name label why s goes).state
  or_so name label None s goes p q = q
  or_so name label (Some why) s goes p q = p

  kept_so : (name label : List ℕ) (why : Option Reason) (s : ValueState) (goes : StepEnd) → P s → P goes.state → P (kept_or_refused enough name label why s goes).state
  kept_so name label None s goes p q = q
  kept_so name label (Some why) s goes p q = p

  either_so : (b : Bool) (x y : StepEnd) → P x.state → P y.state → P (if b then x else y).state
  either_so true x y p q = p
  either_so false x y p q = q

module _ (place : Place) (s : ValueState) where
  gave_acts : (name label : List ℕ) (value : ValueText) (t : ValueState) → ActsAt place s t → ActsAt place s (factory_gave name label place value t).state
  gave_acts name label value t acts =
      let kept = keep_value value t in
      or_so (ActsAt place s) name label (why_refused (next_number t) t) (after_act (Abandon place) t) _ (acts_more place (Abandon place) s t refl acts)
      (acts_more place (Fill place kept.store.drawn) s kept refl (acts_kept place value s t acts))

  failed_acts : (name label text : List ℕ) (t : ValueState) → ActsAt place s t → ActsAt place s (factory_failed name label place text t).state
  failed_acts name label text t acts =
      let value : ValueText = record { text = text; closeable = false } in
      let kept = keep_value value t in
      let gone = after_act (Abandon place) t in
      let stored = ended successful (after_act (Fail place kept.store.drawn) kept) in
      let away = acts_more place (Abandon place) s t refl acts in
      either_so (ActsAt place s) t.keep_faults (or_refused name label (why_refused (next_number t) t) gone stored) (ended successful gone)
      (or_so (ActsAt place s) name label (why_refused (next_number t) t) gone stored away (acts_more place (Fail place kept.store.drawn) s kept refl (acts_kept place value s t acts))) away

  claim_acts : (name label : List ℕ) (factory : ValueState → StepEnd) (t : ValueState) → ActsAt place s t → ((u : ValueState) → ActsAt place s u → ActsAt place s (factory u).state)
      → ActsAt place s (claim_and name label place factory t).state
  claim_acts name label factory t acts each =
      or_so (ActsAt place s) name label (why_refused (Claim place) t) t (factory (after_act (Claim place) t)) acts (each (after_act (Claim place) t) (acts_more place (Claim place) s t refl acts))

  pub compute_acts : (name label : List ℕ) (value : ValueText) (t : ValueState) (found : Look) → ActsAt place s t → ActsAt place s (compute_looked name label place value t found).state
  compute_acts name label value t (look.Found at number) acts = acts
  compute_acts name label value t (look.Fault at number) acts = acts
  compute_acts name label value t look.Absent acts = claim_acts name label (factory_gave name label place value) t acts (gave_acts name label value)
  compute_acts name label value t (look.Busy at) acts = acts
  compute_acts name label value t (look.Closed at) acts = acts

  pub fail_acts : (name label text : List ℕ) (t : ValueState) (found : Look) → ActsAt place s t → ActsAt place s (computefail_looked name label place text t found).state
  fail_acts name label text t (look.Found at number) acts = acts
  fail_acts name label text t (look.Fault at number) acts = acts
  fail_acts name label text t look.Absent acts = claim_acts name label (factory_failed name label place text) t acts (failed_acts name label text)
  fail_acts name label text t (look.Busy at) acts = acts
  fail_acts name label text t (look.Closed at) acts = acts

-- ---- a step

module _ (changes : Places) where
  -- each place is left that the step may not change; it closes no context
  abbrev Leaves : ValueState → ValueState → Type 0
  Leaves s t = LeavesElse changes no_context s t

  -- the key has its number, or gets it, and the step goes on
  number_leaves : (name label : List ℕ) (key : KeyValue) (goes : ℕ → ValueState → StepEnd) (s : ValueState) (numbering : Numbering) → numbering_of s.places s.keys key ≡ numbering
      → ((number : ℕ) (t : ValueState) → is_there t.keys key ≡ true → number ≡ number_of_key t.keys key → Leaves t (goes number t).state) → Leaves s (number_by enough name label key goes s numbering).state
  number_leaves name label key goes s (known number) is each = let has = known_is s.places s.keys key number is in each number s has.there has.place
  number_leaves name label key goes s (next number) is each =
      let new = next_is s.places s.keys key number is in
      let t = with_number key s in
      leaves_then changes no_context s t (goes number t).state (leaves_named changes no_context key s new.there)
      (each number t (there_then s.keys key new.there) (new.place ∙ sym (key_number_last s.keys key new.there)))
  number_leaves name label key goes s full is each = leaves_itself changes no_context s

  put_leaves : (call : CallText) (value : ValueText) (s : ValueState) → changes (start_of call.path) call.key ≡ true → Leaves s (put_by enough call.name call.label (start_of call.path) call.key value s).state
  put_leaves call value s may =
      let at = start_of call.path in
      let kept = keep_value value s in
      let puts : ℕ → ValueState → StepEnd = λ number. put_in enough call.name call.label (at, number) in
      let stored = numbered_by enough call.name call.label call.key puts kept in
      kept_so (Leaves s) call.name call.label (why_refused (next_number s) s) s stored (leaves_itself changes no_context s)
      (leaves_then changes no_context s kept stored.state (leaves_kept changes no_context value s)
      (number_leaves call.name call.label call.key puts kept (numbering_of kept.places kept.keys call.key) refl (λ number t there is.
      leaves_acts changes no_context at number call.key t (puts number t).state there is may (acts_more (at, number) (Put (at, number) t.store.drawn) t t refl (acts_itself (at, number) t)))))

  -- a call that acts at the place of its key once that has its number
  numbered_leaves : (call : CallText) (goes : ℕ → ValueState → StepEnd) (s : ValueState) → changes (start_of call.path) call.key ≡ true
      → ((number : ℕ) (t : ValueState) → ActsAt (start_of call.path, number) t (goes number t).state) → Leaves s (numbered_by enough call.name call.label call.key goes s).state
  numbered_leaves call goes s may each =
      number_leaves call.name call.label call.key goes s (numbering_of s.places s.keys call.key) refl
      (λ number t there is. leaves_acts changes no_context (start_of call.path) number call.key t (goes number t).state there is may (each number t))

  computes_leave : (call : CallText) (value : ValueText) (s : ValueState) → changes (start_of call.path) call.key ≡ true
      → Leaves s (numbered_by enough call.name call.label call.key (compute_numbered enough call.name call.label call.path value) s).state
  computes_leave call value s may = numbered_leaves call (compute_numbered enough call.name call.label call.path value) s may
      (λ number t. let place : Place = (start_of call.path, number) in compute_acts place t call.name call.label value t (found_along number call.path t) (acts_itself place t))

  -- one that looks alone
  looks_leave : (call : CallText) (goes : ℕ → ValueState → StepEnd) (s : ValueState) → ((number : ℕ) (t : ValueState) → (goes number t).state ≡ t) → Leaves s (numbered_by enough call.name call.label call.key goes s).state
  looks_leave call goes s same =
      number_leaves call.name call.label call.key goes s (numbering_of s.places s.keys call.key) refl (λ number t there is. subst (Leaves t) (sym (same number t)) (leaves_itself changes no_context t))

  step_leaves : (keys : List KeyText) (path : List ℕ) (step : StepText) (s : ValueState)
      → ((key : StepKeyText) (up : ℕ) → changed_by step ≡ Some (key, up) → changes (start_of (drop up path)) (key_of_step keys key) ≡ true) → Leaves s (step_run keys path step s).state
  step_leaves keys path (keyed words.Put key text up) s may = put_leaves (call_of keys path (word_text words.Put) key up) (record { text = text; closeable = false }) s (may key up refl)
  step_leaves keys path (keyed words.PutCloseable key text up) s may = put_leaves (call_of keys path (word_text words.PutCloseable) key up) (record { text = text; closeable = true }) s (may key up refl)
  step_leaves keys path (keyed words.Remove key text up) s may =
      let call = call_of keys path (word_text words.Remove) key up in
      numbered_leaves call (acts_by enough words.Remove call text) s (may key up refl)
      (λ number t. let place : Place = (start_of call.path, number) in acts_more place (Remove place) t t refl (acts_itself place t))
  step_leaves keys path (keyed words.Compute key text up) s may = computes_leave (call_of keys path (word_text words.Compute) key up) (record { text = text; closeable = false }) s (may key up refl)
  step_leaves keys path (keyed words.ComputeCloseable key text up) s may = computes_leave (call_of keys path (word_text words.ComputeCloseable) key up) (record { text = text; closeable = true }) s (may key up refl)
  step_leaves keys path (keyed words.ComputeFail key text up) s may =
      let call = call_of keys path (word_text words.ComputeFail) key up in
      numbered_leaves call (acts_by enough words.ComputeFail call text) s (may key up refl)
      (λ number t. let place : Place = (start_of call.path, number) in fail_acts place t call.name call.label text t (found_along number call.path t) (acts_itself place t))
  step_leaves keys path (keyed word key text up) s may = let call = call_of keys path (word_text word) key up in looks_leave call (acts_by enough word call text) s (λ number t. refl)
  step_leaves keys path (fail text) s may = leaves_itself changes no_context s
  step_leaves keys path (abort text) s may = leaves_itself changes no_context s

-- ---- the steps of a call

pub steps_leave : (keys : List KeyText) (path : List ℕ) (steps : List StepText) (changes : Places) (s : ValueState)
    → ((step : StepText) (key : StepKeyText) (up : ℕ) → Contains steps step → changed_by step ≡ Some (key, up) → changes (start_of (drop up path)) (key_of_step keys key) ≡ true)
    → s.memory ≡ [] → LeavesElse changes no_context s (steps_run keys path steps s).state
steps_leave keys path [] changes s may none = subst (λ (e : StepEnd). LeavesElse changes no_context s e.state) (sym (steps_run-nil keys path s)) (leaves_itself changes no_context s)
steps_leave keys path (step ∷ more) changes s may none =
    let next = step_run keys path step s in
    let one : LeavesElse changes no_context s next.state = step_leaves changes keys path step s (λ key up is. may step key up (contains_first step more) is) in
    elim (bools (is_successful next.verdict)) [
      | inl on ↦
          let rest = steps_leave keys path more changes next.state (λ other key up there is. may other key up (contains_later step other more there) is) (step_memory keys path step s none) in
          subst (λ (e : StepEnd). LeavesElse changes no_context s e.state) (sym (plain_goes keys path step more s none on)) (leaves_then changes no_context s next.state (steps_run keys path more next.state).state one rest)
      | inr off ↦ subst (λ (e : StepEnd). LeavesElse changes no_context s e.state) (sym (plain_stops keys path step more s none off)) one
    ]

-- ---- the end of a context

-- which is one of those that are closed
pub seals_closed : (count node : ℕ) (s : ValueState) (changes : Places) (closes : ℕ → Bool) → closes node ≡ true → LeavesElse changes closes s (seal_keys count node s)
unfolding seal_keys
seals_closed zero node s changes closes closed = leaves_itself changes closes s
seals_closed (suc key) node s changes closes closed =
    let before = seal_keys key node s in
    leaves_then changes closes s before (after_act (Seal (node, key)) before) (seals_closed key node s changes closes closed)
    (leaves_closed node key before (after_act (Seal (node, key)) before) (acts_more (node, key) (Seal (node, key)) before before refl (acts_itself (node, key) before)) changes closes closed)

pub seals_leave : (node : ℕ) (s : ValueState) → LeavesElse (all_of node) (λ context. context == node) s (seal_keys s.places node s)
seals_leave node s = seals_closed s.places node s (all_of node) (λ context. context == node) (eq-eqb node node refl)

-- ---- the calls of a node

module _ (plan : PlanText) (touched changes : ℕ → Places) (covered : AreCovered plan touched changes) (node : ℕ) (path : List ℕ) (is : IsPathOf (ids_of_nodes plan.nodes) node path) where
  pub call_leaves : (call : Call) (s : ValueState) → Contains (calls_of plan node) call → s.memory ≡ [] → LeavesElse (changes node) no_context s (call_run plan path call s).state
  call_leaves call s there none = steps_leave plan.keys path (steps_of_call plan call) (changes node) s (λ step key up made by. covered.steps node path call step key up is there made by) none
