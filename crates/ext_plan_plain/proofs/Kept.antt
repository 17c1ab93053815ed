-- What each act of a plain run keeps true of its store, the whole run keeps true.
use Rattle.std.proofs.Common.{◌≡◌, ℕ, zero, suc, Bool, true, false, List, [], ◌∷◌, Option, Some, None, is_some, get_or, refl, sym, subst, arith}
use Rattle.std.specs.Prelude.{◌&&◌, All, IfSome, fold, if◌then◌else◌}
use Rattle.ext_model.specs.declared.event.Act.TheVariants.{Put, Remove, Claim, Fill, Fail, Abandon, Seal}
use Rattle.ext_model.specs.declared.look.Look.{Look}
use Rattle.ext_model.specs.declared.look.Look.TheVariants as look
use Rattle.ext_model.specs.declared.slot.Slot.{Slot}
use Rattle.ext_model.specs.Plain.{Place}
use Rattle.ext_plan.specs.declared.word.Word.{Word}
use Rattle.ext_plan.specs.declared.word.Word.TheVariants as words
use Rattle.ext_plan.specs.Plans.{KeyText, StepKeyText, StepText, keyed, fail, abort, PlanText}
use Rattle.ext_plan.specs.ReadPlans.{ids_of_nodes}
use Rattle.ext_tree.specs.Trees.{children_of}
use Rattle.ext_lifecycle.specs.declared.call.Call.{Call}
use Rattle.ext_lifecycle.specs.Callbacks.{afters_of, befores_of, test_call}
use Rattle.ext_lifecycle.specs.Endings.{all_successful, successful, aborted, failed}
use Rattle.ext_lifecycle.specs.FaultTexts.{VerdictText}
use Rattle.ext_lifecycle.specs.Modes.{in_run_order}
use Rattle.ext_plan.specs.declared.reason.Reason.{Reason}
use Rattle.ext_plan.specs.declared.reason.Reason.TheVariants as reasons
use Rattle.ext_plan.specs.Verdicts.{refused, none_verdict, want_verdict}
use Rattle.ext_tree.specs.Keys.{KeyValue}
use Rattle.ext_plan.specs.StoreKeys.{key_of_step}
use Rattle.ext_plan.specs.Steps.{step_key}
use Rattle.ext_plan.specs.StepWords.{word_text}
use Rattle.ext_plan.specs.StepCalls.{CallText, call_of, is_made, start_of}
use Rattle.ext_plan.specs.Values.{ValueText}
use Rattle.ext_plan_plain.specs.ValueStates.{Memory, enough, no_key, no_value, no_number, no_place, no_words, ValueState, with_memory, next_found, found_later, after_act, why_refused, next_number, keep_value, Numbering, known, next, full, numbering_of, with_number}
use Rattle.ext_plan_plain.specs.StepRuns.{StepEnd, ended, no_memory, said_by, lacks_key, lacks_value, lacks_number, lacks_place, number_by, numbered_by, found_along, or_refused, kept_or_refused, put_kept, put_in, factory_gave, factory_failed, if_empty, if_absent, claim_and, compute_looked, compute_by, computefail_looked, computefail_by, step_by, next_step, unless_ended, steps_run, act_ends, acts_by, call_by, first_kept, value_first, seen_by}
use Rattle.ext_plan_plain.specs.ContextEnds.{seal_keys}
use Rattle.ext_plan.specs.PlanCalls.{registered, steps_of_call, test_of, concurrent_of}
use Rattle.ext_plan_plain.specs.NodeCalls.{CallsEnd, befores_run, call_run, make, make_all, make_befores, make_if_successful, no_calls, test_run}
use Rattle.ext_plan_plain.specs.PlainRun.{RunState, body_run, container_run, node_run, test_node_run}
use Rattle.ext_plan_plain.proofs.Ends.{container_end, test_end}
use Rattle.ext_plan_plain.proofs.Stepping.{steps_run-nil, steps_run-cons}

-- The fact is kept by each act on the store, where a claim and the draw of a number were not refused, and a fault only where faults are kept
pub record IsKept (P : ValueState → Type 0) : Type 0 where
  pub finds : (memory : List Memory) (s : ValueState) → P s → P (with_memory memory s)
  pub puts : (place : Place) (number : ℕ) (s : ValueState) → P s → P (after_act (Put place number) s)
  pub removes : (place : Place) (s : ValueState) → P s → P (after_act (Remove place) s)
  pub seals : (place : Place) (s : ValueState) → P s → P (after_act (Seal place) s)
  pub keeps : (value : ValueText) (s : ValueState) → why_refused (next_number s) s ≡ None → P s → P (keep_value value s)
  pub abandons : (place : Place) (s : ValueState) → why_refused (Claim place) s ≡ None → P s → P (after_act (Abandon place) (after_act (Claim place) s))
  pub fills : (place : Place) (value : ValueText) (s : ValueState) → why_refused (Claim place) s ≡ None → why_refused (next_number (after_act (Claim place) s)) (after_act (Claim place) s) ≡ None → P s
      → P (after_act (Fill place (keep_value value (after_act (Claim place) s)).store.drawn) (keep_value value (after_act (Claim place) s)))
  pub fails : (place : Place) (value : ValueText) (s : ValueState) → s.keep_faults ≡ true → why_refused (Claim place) s ≡ None → why_refused (next_number (after_act (Claim place) s)) (after_act (Claim place) s) ≡ None → P s
      → P (after_act (Fail place (keep_value value (after_act (Claim place) s)).store.drawn) (keep_value value (after_act (Claim place) s)))

-- and where this key gets a number,
pub record IsKeptNaming (P : ValueState → Type 0) (key : KeyValue) : Type 0 where
  pub gets : (number : ℕ) (s : ValueState) → numbering_of s.places s.keys key ≡ next number → P s → P (with_number key s)

-- or where any key gets one
pub record IsKeptNumbered (P : ValueState → Type 0) : Type 0 where
  pub numbers : (key : KeyValue) (number : ℕ) (s : ValueState) → numbering_of s.places s.keys key ≡ next number → P s → P (with_number key s)

-- or where the key gets one that the step names, if it names one
abbrev pub IsKeptByStep : (ValueState → Type 0) → List KeyText → StepText → Type 0
IsKeptByStep P keys step = IfSome (step_key step) (λ key. IsKeptNaming P (key_of_step keys key))

or_refused-kept : (P : ValueState → Type 0) (name label : List ℕ) (why : Option Reason) (s : ValueState) (goes_on : StepEnd) → P s → (why ≡ None → P goes_on.state) → P (or_refused name label why s goes_on).state
or_refused-kept P name label None s goes_on h go = go refl
or_refused-kept P name label (Some why) s goes_on h go = h

module _ (P : ValueState → Type 0) (kept : IsKept P) where
  pub said-kept : (found : Memory) (end : StepEnd) → P end.state → P (said_by found end).state
  said-kept enough end h = h
  said-kept no_key end h = h
  said-kept no_value end h = h
  said-kept no_number end h = h
  said-kept no_place end h = h
  said-kept no_words end h = h

  empty-kept : (stands : Option Slot) (empty other : StepEnd) → P empty.state → P other.state → P (if_empty stands empty other).state
  empty-kept None empty other p q = p
  empty-kept (Some slot) empty other p q = q

  absent-kept : (found : Look) (absent other : StepEnd) → P absent.state → P other.state → P (if_absent found absent other).state
  absent-kept (look.Found at number) absent other p q = q
  absent-kept (look.Fault at number) absent other p q = q
  absent-kept look.Absent absent other p q = p
  absent-kept (look.Busy at) absent other p q = q
  absent-kept (look.Closed at) absent other p q = q

  either-kept : (b : Bool) (x y : StepEnd) → (b ≡ true → P x.state) → P y.state → P (if b then x else y).state
  either-kept true x y p q = p refl
  either-kept false x y p q = q

  pub put_in-kept : (found : Memory) (name label : List ℕ) (place : Place) (s : ValueState) → P s → P (put_in found name label place s).state
  put_in-kept found name label place s h =
      let lacks = ended no_memory s in
      let stored = put_kept name label place s in
      let put = kept.puts place s.store.drawn s h in
      said-kept found (if lacks_place found then if_empty (s.store.slots place) lacks stored else stored)
      (either-kept (lacks_place found) (if_empty (s.store.slots place) lacks stored) stored (λ is. empty-kept (s.store.slots place) lacks stored h put) put)

  compute-kept : (name label : List ℕ) (place : Place) (value : ValueText) (s : ValueState) (found : Look) → P s → P (compute_looked name label place value s found).state
  compute-kept name label place value s (look.Found at number) h = h
  compute-kept name label place value s (look.Fault at number) h = h
  compute-kept name label place value s look.Absent h =
      let claimed = after_act (Claim place) s in
      or_refused-kept P name label (why_refused (Claim place) s) s (factory_gave name label place value claimed) h
      (λ won. or_refused-kept P name label (why_refused (next_number claimed) claimed) (after_act (Abandon place) claimed) _ (kept.abandons place s won h) (λ room. kept.fills place value s won room h))
  compute-kept name label place value s (look.Busy at) h = h
  compute-kept name label place value s (look.Closed at) h = h

  failed-kept : (name label : List ℕ) (place : Place) (text : List ℕ) (s : ValueState) → why_refused (Claim place) s ≡ None → P s → P (factory_failed name label place text (after_act (Claim place) s)).state
  failed-kept name label place text s won h =
      let claimed = after_act (Claim place) s in
      let value : ValueText = record { text = text; closeable = false } in
      let stored = ended successful (after_act (Fail place (keep_value value claimed).store.drawn) (keep_value value claimed)) in
      let gone = after_act (Abandon place) claimed in
      either-kept claimed.keep_faults (or_refused name label (why_refused (next_number claimed) claimed) gone stored) (ended successful gone)
      (λ keeps. or_refused-kept P name label (why_refused (next_number claimed) claimed) gone stored (kept.abandons place s won h) (λ room. kept.fails place value s keeps won room h))
      (kept.abandons place s won h)

  computefail-kept : (name label : List ℕ) (place : Place) (text : List ℕ) (s : ValueState) (found : Look) → P s → P (computefail_looked name label place text s found).state
  computefail-kept name label place text s (look.Found at number) h = h
  computefail-kept name label place text s (look.Fault at number) h = h
  computefail-kept name label place text s look.Absent h =
      or_refused-kept P name label (why_refused (Claim place) s) s (factory_failed name label place text (after_act (Claim place) s)) h (λ won. failed-kept name label place text s won h)
  computefail-kept name label place text s (look.Busy at) h = h
  computefail-kept name label place text s (look.Closed at) h = h

  -- a place that is claimed where there is memory for it
  unplaced-kept : (name label : List ℕ) (place : Place) (s : ValueState) → P s → P (or_refused name label (why_refused (Claim place) s) s (ended no_memory s)).state
  unplaced-kept name label place s h = or_refused-kept P name label (why_refused (Claim place) s) s (ended no_memory s) h (λ won. h)

  pub compute_by-kept : (memory : Memory) (name label : List ℕ) (place : Place) (value : ValueText) (s : ValueState) (found : Look) → P s → P (compute_by memory name label place value s found).state
  compute_by-kept enough name label place value s found h = compute-kept name label place value s found h
  compute_by-kept no_key name label place value s found h = compute-kept name label place value s found h
  compute_by-kept no_number name label place value s found h = compute-kept name label place value s found h
  compute_by-kept no_value name label place value s found h =
      absent-kept found (claim_and name label place (λ claimed. ended no_memory (after_act (Abandon place) claimed)) s) (compute_looked name label place value s found)
      (or_refused-kept P name label (why_refused (Claim place) s) s (ended no_memory (after_act (Abandon place) (after_act (Claim place) s))) h (λ won. kept.abandons place s won h))
      (compute-kept name label place value s found h)
  compute_by-kept no_place name label place value s found h =
      absent-kept found (or_refused name label (why_refused (Claim place) s) s (ended no_memory s)) (compute_looked name label place value s found) (unplaced-kept name label place s h) (compute-kept name label place value s found h)
  compute_by-kept no_words name label place value s found h = compute-kept name label place value s found h

  pub computefail_by-kept : (memory : Memory) (name label : List ℕ) (place : Place) (text : List ℕ) (s : ValueState) (found : Look) → P s → P (computefail_by memory name label place text s found).state
  computefail_by-kept enough name label place text s found h = computefail-kept name label place text s found h
  computefail_by-kept no_key name label place text s found h = computefail-kept name label place text s found h
  computefail_by-kept no_number name label place text s found h = computefail-kept name label place text s found h
  computefail_by-kept no_value name label place text s found h =
      let whole = computefail_looked name label place text s found in
      let lost = claim_and name label place (λ claimed. ended no_memory (after_act (Abandon place) claimed)) s in
      either-kept s.keep_faults (if_absent found lost whole) whole
      (λ keeps. absent-kept found lost whole
      (or_refused-kept P name label (why_refused (Claim place) s) s (ended no_memory (after_act (Abandon place) (after_act (Claim place) s))) h (λ won. kept.abandons place s won h))
      (computefail-kept name label place text s found h))
      (computefail-kept name label place text s found h)
  computefail_by-kept no_place name label place text s found h =
      absent-kept found (or_refused name label (why_refused (Claim place) s) s (ended no_memory s)) (computefail_looked name label place text s found) (unplaced-kept name label place s h) (computefail-kept name label place text s found h)
  computefail_by-kept no_words name label place text s found h = computefail-kept name label place text s found h

-- ---- each step

-- any reason, where there is none
abbrev reason_of : Option Reason → Reason
reason_of None = reasons.DirectoryFull
reason_of (Some why) = why

kept_or_refused-kept : (P : ValueState → Type 0) (found : Memory) (name label : List ℕ) (why : Option Reason) (s : ValueState) (goes_on : StepEnd) → P (said_by found (ended (refused name label (reason_of why)) s)).state
    → (why ≡ None → P goes_on.state) → P (kept_or_refused found name label why s goes_on).state
kept_or_refused-kept P found name label None s goes_on h go = go refl
kept_or_refused-kept P found name label (Some why) s goes_on h go = h

module _ (P : ValueState → Type 0) (kept : IsKept P) where
  number-kept : (found : Memory) (name label : List ℕ) (key : KeyValue) (goes_on : ℕ → ValueState → StepEnd) (s : ValueState) (numbering : Numbering) → IsKeptNaming P key → numbering_of s.places s.keys key ≡ numbering
      → ((number : ℕ) (t : ValueState) → P t → P (goes_on number t).state) → P s → P (number_by found name label key goes_on s numbering).state
  number-kept found name label key goes_on s (known number) named is each h = each number s h
  number-kept found name label key goes_on s (next number) named is each h =
      either-kept P kept (lacks_number found) (ended no_memory s) (goes_on number (with_number key s)) (λ lacks. h) (each number (with_number key s) (named.gets number s is h))
  number-kept found name label key goes_on s full named is each h = said-kept P kept found (ended (refused name label reasons.DirectoryFull) s) h

  first-kept : (found : Memory) (name label : List ℕ) (value : Option ValueText) (goes_on : ValueState → StepEnd) (s : ValueState) → ((t : ValueState) → P t → P (goes_on t).state) → P s → P (first_kept found name label value goes_on s).state
  first-kept found name label None goes_on s each h = each s h
  first-kept found name label (Some value) goes_on s each h =
      let why = why_refused (next_number s) s in
      let stored = goes_on (keep_value value s) in
      either-kept P kept (lacks_value found) (ended no_memory s) (kept_or_refused found name label why s stored) (λ lacks. h)
      (kept_or_refused-kept P found name label why s stored (said-kept P kept found (ended (refused name label (reason_of why)) s) h) (λ room. each (keep_value value s) (kept.keeps value s room h)))

  pub acts-kept : (found : Memory) (word : Word) (call : CallText) (text : List ℕ) (number : ℕ) (s : ValueState) → P s → P (acts_by found word call text number s).state
  acts-kept found words.Put call text number s h = put_in-kept P kept found call.name call.label (start_of call.path, number) s h
  acts-kept found words.PutCloseable call text number s h = put_in-kept P kept found call.name call.label (start_of call.path, number) s h
  acts-kept found words.Want call text number s h = said-kept P kept found (ended (want_verdict call.name call.label text (seen_by s.values (found_along number call.path s))) s) h
  acts-kept found words.None call text number s h = said-kept P kept found (ended (none_verdict call.name call.label (seen_by s.values (found_along number call.path s))) s) h
  acts-kept found words.Remove call text number s h = said-kept P kept found (act_ends call.name call.label (Remove (start_of call.path, number)) s) (kept.removes (start_of call.path, number) s h)
  acts-kept found words.Compute call text number s h = compute_by-kept P kept found call.name call.label (start_of call.path, number) (record { text = text; closeable = false }) s (found_along number call.path s) h
  acts-kept found words.ComputeCloseable call text number s h = compute_by-kept P kept found call.name call.label (start_of call.path, number) (record { text = text; closeable = true }) s (found_along number call.path s) h
  acts-kept found words.ComputeFail call text number s h = computefail_by-kept P kept found call.name call.label (start_of call.path, number) text s (found_along number call.path s) h

  pub step-kept-by : (keys : List KeyText) (found : Memory) (path : List ℕ) (step : StepText) (s : ValueState) → IsKeptByStep P keys step → P s → P (step_by keys found path step s).state
  step-kept-by keys found path (keyed word key text up) s named h =
      let call = call_of keys path (word_text word) key up in
      let acts : ℕ → ValueState → StepEnd = acts_by found word call text in
      either-kept P kept (lacks_key found && is_made keys key) (ended no_memory s) (call_by found word call text s) (λ lacks. h)
      (first-kept found call.name call.label (value_first word text) (numbered_by found call.name call.label call.key acts) s
      (λ t p. number-kept found call.name call.label call.key acts t (numbering_of t.places t.keys call.key) named refl (acts-kept found word call text) p) h)
  step-kept-by keys found path (fail text) s named h = said-kept P kept found (ended (failed text) s) h
  step-kept-by keys found path (abort text) s named h = said-kept P kept found (ended (aborted text) s) h

  next-kept : (keys : List KeyText) (path : List ℕ) (step : StepText) (s : ValueState) → IsKeptByStep P keys step → P s → P (next_step keys path step s).state
  next-kept keys path step s named h = step-kept-by keys (next_found s.memory) path step (with_memory (found_later s.memory) s) named (kept.finds (found_later s.memory) s h)

  ended-kept : (v : VerdictText) (first : StepEnd) (go_on : ValueState → StepEnd) → P first.state → ((s : ValueState) → P s → P (go_on s).state) → P (unless_ended v first go_on).state
  ended-kept successful first go_on h go = go first.state h
  ended-kept (aborted text) first go_on h go = h
  ended-kept (failed text) first go_on h go = h

  pub steps-kept-by : (keys : List KeyText) (path : List ℕ) (steps : List StepText) (s : ValueState) → All (IsKeptByStep P keys) steps → P s → P (steps_run keys path steps s).state
  steps-kept-by keys path [] s named h = subst (λ (end : StepEnd). P end.state) (sym (steps_run-nil keys path s)) h
  steps-kept-by keys path (step ∷ more) s named h =
      subst (λ (end : StepEnd). P end.state) (sym (steps_run-cons keys path step more s))
      (ended-kept (next_step keys path step s).verdict (next_step keys path step s) (steps_run keys path more) (next-kept keys path step s (named 0 step (omega arith)) h) (λ t p. steps-kept-by keys path more t (λ k d within. named (suc k) d (omega (arith, within))) p))

  pub seals-kept : (keys at : ℕ) (s : ValueState) → P s → P (seal_keys keys at s)
  unfolding seal_keys
  seals-kept zero at s h = h
  seals-kept (suc key) at s h = kept.seals (at, key) (seal_keys key at s) (seals-kept key at s h)

-- ---- calls

module _ (P : ValueState → Type 0) (kept : IsKept P) (plan : PlanText) (calls : (path : List ℕ) (call : Call) (s : ValueState) → P s → P (call_run plan path call s).state) where
  if-kept : (b : Bool) (x y : CallsEnd) → P x.state → P y.state → P (if b then x else y).state
  if-kept true x y p q = p
  if-kept false x y p q = q

  all-kept : (run : Call → ValueState → StepEnd) → ((call : Call) (s : ValueState) → P s → P (run call s).state) → (calls : List Call) (before : CallsEnd) → P before.state → P (make_all run calls before).state
  all-kept run each [] before h = h
  all-kept run each (call ∷ calls) before h = all-kept run each calls (make run before call) (each call before.state h)

  befores-kept : (run : Call → ValueState → StepEnd) → ((call : Call) (s : ValueState) → P s → P (run call s).state) → (calls : List Call) (before : CallsEnd) → P before.state → P (make_befores run calls before).state
  befores-kept run each [] before h = h
  befores-kept run each (call ∷ calls) before h =
      befores-kept run each calls (make_if_successful run before call) (if-kept (all_successful before.calls) (make run before call) before (each call before.state h) h)

  -- ---- nodes

  fold-kept : (path_run : List ℕ → RunState → RunState) → ((path : List ℕ) (run : RunState) → P run.state → P (path_run path run).state)
      → (above children : List ℕ) (run : RunState) → P run.state → P (fold (λ r child. path_run (child ∷ above) r) run children).state
  fold-kept path_run each above [] run h = h
  fold-kept path_run each above (child ∷ more) run h = fold-kept path_run each above more (path_run (child ∷ above) run) (each (child ∷ above) run h)

  body-kept : (path_run : List ℕ → RunState → RunState) → ((path : List ℕ) (run : RunState) → P run.state → P (path_run path run).state)
      → (go : Bool) (path : List ℕ) (run : RunState) → P run.state → P (body_run plan path_run go path run).state
  body-kept path_run each true path run h = fold-kept path_run each path (in_run_order (concurrent_of plan) (children_of (ids_of_nodes plan.nodes) (start_of path))) run h
  body-kept path_run each false path run h = h

  -- what the calls of a node leave, before its context is closed
  pub container-open-by : (path_run : List ℕ → RunState → RunState) → ((path : List ℕ) (run : RunState) → P run.state → P (path_run path run).state)
      → (at : ℕ) (path : List ℕ) (run : RunState) → P run.state → P (container_end plan path_run at path run).state
  container-open-by path_run each at path run h =
      let before = befores_run plan false at path run.state in
      all-kept (call_run plan path) (calls path) (afters_of (registered plan) false at path) _
      (body-kept path_run each (all_successful before.calls) path (record { state = before.state; results = run.results }) (befores-kept (call_run plan path) (calls path) (befores_of (registered plan) false at path) (no_calls run.state) h))

  pub test-open-by : (at : ℕ) (path : List ℕ) (run : RunState) → P run.state → P (test_end plan at path run).state
  test-open-by at path run h =
      let before = befores_run plan true at path run.state in
      let opened = befores-kept (call_run plan path) (calls path) (befores_of (registered plan) true at path) (no_calls run.state) h in
      all-kept (call_run plan path) (calls path) (afters_of (registered plan) true at path) (test_run plan at path before)
      (if-kept (all_successful before.calls) (make (call_run plan path) before (test_call at)) before (calls path (test_call at) before.state opened) opened)

  node-by-kept : (b : Bool) (x y : RunState) → P x.state → P y.state → P (if b then x else y).state
  node-by-kept true x y p q = p
  node-by-kept false x y p q = q

  pub node-kept-by : (levels : ℕ) (path : List ℕ) (run : RunState) → P run.state → P (node_run plan levels path run).state
  unfolding node_run
  node-kept-by zero path run h = h
  node-kept-by (suc levels) path run h =
      let at = start_of path in
      node-by-kept (is_some (test_of plan at)) (test_node_run plan at path run) (container_run plan (node_run plan levels) at path run)
      (seals-kept P kept (test_end plan at path run).state.places at (test_end plan at path run).state (test-open-by at path run h))
      (seals-kept P kept (container_end plan (node_run plan levels) at path run).state.places at (container_end plan (node_run plan levels) at path run).state (container-open-by (node_run plan levels) (node-kept-by levels) at path run h))

-- ---- where any key gets a number

every-key : (P : ValueState → Type 0) (named : IsKeptNumbered P) (keys : List KeyText) (key : Option StepKeyText) → IfSome key (λ key. IsKeptNaming P (key_of_step keys key))
every-key P named keys None = tt
every-key P named keys (Some key) = record { gets = λ number s is h. named.numbers (key_of_step keys key) number s is h }

module _ (P : ValueState → Type 0) (kept : IsKept P) (named : IsKeptNumbered P) where
  pub step-kept : (keys : List KeyText) (found : Memory) (path : List ℕ) (step : StepText) (s : ValueState) → P s → P (step_by keys found path step s).state
  step-kept keys found path step s h = step-kept-by P kept keys found path step s (every-key P named keys (step_key step)) h

  pub steps-kept : (keys : List KeyText) (path : List ℕ) (steps : List StepText) (s : ValueState) → P s → P (steps_run keys path steps s).state
  steps-kept keys path steps s h = steps-kept-by P kept keys path steps s (λ k d within. every-key P named keys (step_key (get_or steps k d))) h

  call-kept : (plan : PlanText) (path : List ℕ) (call : Call) (s : ValueState) → P s → P (call_run plan path call s).state
  call-kept plan path call s h = steps-kept plan.keys path (steps_of_call plan call) s h

  pub container-open : (plan : PlanText) (path_run : List ℕ → RunState → RunState) → ((path : List ℕ) (run : RunState) → P run.state → P (path_run path run).state)
      → (at : ℕ) (path : List ℕ) (run : RunState) → P run.state → P (container_end plan path_run at path run).state
  container-open plan path_run each at path run h = container-open-by P kept plan (call-kept plan) path_run each at path run h

  pub test-open : (plan : PlanText) (at : ℕ) (path : List ℕ) (run : RunState) → P run.state → P (test_end plan at path run).state
  test-open plan at path run h = test-open-by P kept plan (call-kept plan) at path run h

  pub node-kept : (plan : PlanText) (levels : ℕ) (path : List ℕ) (run : RunState) → P run.state → P (node_run plan levels path run).state
  node-kept plan levels path run h = node-kept-by P kept plan (call-kept plan) levels path run h
