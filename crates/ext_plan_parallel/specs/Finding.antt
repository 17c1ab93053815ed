-- What the steps of a run find: only values and faults that steps of the plan keep under the same key, as a `get` finds
-- a value that was stored under its key (Javadoc `ExtensionContext.Store`, `get`). And that all lanes of a run number
-- keys alike. That only the plan's steps store values, and that faults are kept, is not from JUnit.
use Rattle.std.specs.Prelude.{◌≡◌, ◌⊎◌, ℕ, true, false, List, [], ◌∷◌, Option, Some, None, Contains, IsTrue}
use Rattle.ext_lifecycle.specs.declared.call.Call.{Call}
use Rattle.ext_lifecycle.specs.declared.outcome.Outcome.{Outcome}
use Rattle.ext_lifecycle.specs.Endings.{successful, is_successful}
use Rattle.ext_lifecycle.specs.FaultTexts.{VerdictText}
use Rattle.ext_lifecycle.specs.Lifecycle.{ending_of}
use Rattle.ext_lifecycle.specs.Results.{ResultOf}
use Rattle.ext_locks.specs.Sets.{HeldView}
use Rattle.ext_model.specs.declared.look.Fault.{Fault}
use Rattle.ext_tree.specs.Keys.{KeyValue, OneKey, OneNumber}
use Rattle.ext_tree.specs.Trees.{IsPathOf}
use Rattle.ext_plan.specs.declared.word.Word.{Word}
use Rattle.ext_plan.specs.declared.word.Word.TheVariants as words
use Rattle.ext_plan.specs.Plans.{PlanText, StepKeyText, StepText, keyed, fail, abort}
use Rattle.ext_plan.specs.StepWords.{word_text}
use Rattle.ext_plan.specs.StoreKeys.{key_of_step}
use Rattle.ext_plan.specs.PlanCalls.{steps_of_call}
use Rattle.ext_store.specs.declared.computed.Compute.{Compute}
use Rattle.ext_store.specs.declared.computed.Compute.TheVariants as computes
use Rattle.ext_store.specs.Stores.{StoreView}
use Rattle.ext_plan.specs.StepCalls.{CallText, call_of, start_of}
use Rattle.ext_plan.specs.Values.{ValueText}
use Rattle.ext_plan.specs.Verdicts.{SeenText, seen_value, seen_fault, seen_no_memory, seen_nothing, seen_refused, want_verdict, none_verdict}
use Rattle.ext_plan_parallel.specs.Saying.{Ends}
use Rattle.ext_plan_parallel.specs.StoreCalls.{ComputesFault, ComputesValue, EndsCompute, EndsComputeFail, PlanLane, Sees}
use Rattle.ext_plan_parallel.specs.StoreSteps.{AddsUp, LacksMemory, OfCallKey, StepDoes, StepRun}
use Rattle.ext_plan_parallel.specs.declared.steps.stored_value.StoredValue.{StoredValue}
use Rattle.ext_engine.specs.Order.{CallsGoOn}
use Rattle.ext_engine.specs.TreeRun.{TreeRun, with_calls}
use Rattle.ext_plan_parallel.specs.ParallelRun.{MakesCall, ParallelRun, setting_of_plan}

-- ---- what a plan keeps

-- The key, as the step names it, and the value, if the step keeps one.
abbrev pub kept_by : StepText → Option (StepKeyText × ValueText)
kept_by (keyed words.Put key text up) = Some (key, record { text = text; closeable = false })
kept_by (keyed words.PutCloseable key text up) = Some (key, record { text = text; closeable = true })
kept_by (keyed words.Compute key text up) = Some (key, record { text = text; closeable = false })
kept_by (keyed words.ComputeCloseable key text up) = Some (key, record { text = text; closeable = true })
kept_by (keyed word key text up) = None
kept_by (fail text) = None
kept_by (abort text) = None

-- A step of the plan puts or computes a value with this text under this key, naming it by a label or by its name.
pub record IsKeptByPlan (plan : PlanText) (key : KeyValue) (text : List ℕ) : Type 0 where
  pub call : Call
  pub step : StepText
  pub among : Contains (steps_of_call plan call) step
  pub names : StepKeyText
  pub value : ValueText
  pub keeps : kept_by step ≡ Some (names, value)
  pub text_is : value.text ≡ text
  pub key_is : key_of_step plan.keys names ≡ key

-- A step of the plan has a factory that fails with this text, under this key.
pub record IsFailedByPlan (plan : PlanText) (key : KeyValue) (text : List ℕ) : Type 0 where
  pub call : Call
  pub names : StepKeyText
  pub up : ℕ
  pub among : Contains (steps_of_call plan call) (keyed words.ComputeFail names text up)
  pub key_is : key_of_step plan.keys names ≡ key

-- A value that is seen is one that the plan keeps under the key. A kept fault that is seen is that of one of the plan's
-- factories under the key, in a plan that keeps faults. So it is never a lack of memory.
abbrev pub IsSeenOfPlan : PlanText → KeyValue → SeenText → Type 0
IsSeenOfPlan plan key (seen_value text) = IsKeptByPlan plan key text
IsSeenOfPlan plan key (seen_fault text) = IsTrue plan.keep_faults × IsFailedByPlan plan key text
IsSeenOfPlan plan key seen_no_memory = ⊥
IsSeenOfPlan plan key seen_nothing = Unit {0}
IsSeenOfPlan plan key (seen_refused why) = Unit {0}

-- The same of a compute whose factory gives a value, and which is shown a kept fault in its place.
abbrev pub IsFaultOfPlan : (plan : PlanText) (key : KeyValue) (name label : List ℕ)
    (result : Compute StoredValue (Unit {0})) (between : PlanLane) (outcome : Outcome) (after : PlanLane)
    → EndsCompute name label result between outcome after → Type 0
IsFaultOfPlan plan key name label (computes.Computed number) between outcome after ends = Unit {0}
IsFaultOfPlan plan key name label (computes.Found at number unused) between outcome after ends = Unit {0}
IsFaultOfPlan plan key name label (computes.Failed why) between outcome after ends = Unit {0}
IsFaultOfPlan plan key name label (computes.FaultKept number) between outcome after ends = Unit {0}
IsFaultOfPlan plan key name label (computes.FaultUnkept why cause) between outcome after ends = Unit {0}
IsFaultOfPlan plan key name label (computes.FaultStands at number unused) between outcome after ends =
    IsSeenOfPlan plan key ends.1
IsFaultOfPlan plan key name label (computes.Unkept value cause) between outcome after ends = Unit {0}
IsFaultOfPlan plan key name label (computes.Refused why unused) between outcome after ends = Unit {0}

-- The same of a compute whose factory fails, and which is shown a value or a kept fault in its place.
abbrev pub IsMetOfPlan : (plan : PlanText) (key : KeyValue) (name label text : List ℕ)
    (result : Compute StoredValue (Unit {0})) (between : PlanLane) (outcome : Outcome) (after : PlanLane)
    → EndsComputeFail name label text result between outcome after → Type 0
IsMetOfPlan plan key name label text (computes.Computed number) between outcome after ends = Unit {0}
IsMetOfPlan plan key name label text (computes.Found at number unused) between outcome after ends =
    IsSeenOfPlan plan key ends.1
IsMetOfPlan plan key name label text (computes.Failed why) between outcome after ends = Unit {0}
IsMetOfPlan plan key name label text (computes.FaultKept number) between outcome after ends = Unit {0}
IsMetOfPlan plan key name label text (computes.FaultUnkept why cause) between outcome after ends = Unit {0}
IsMetOfPlan plan key name label text (computes.FaultStands at number unused) between outcome after ends =
    IsSeenOfPlan plan key ends.1
IsMetOfPlan plan key name label text (computes.Unkept value cause) between outcome after ends = Unit {0}
IsMetOfPlan plan key name label text (computes.Refused why unused) between outcome after ends = Unit {0}

-- ---- what the steps of a call find

module _ (plan : PlanText) (store : StoreView) (call : CallText) where
  -- A look-up that shows a value or a fault only if the plan keeps it under the call's key.
  abbrev pub LookFinds : (SeenText → VerdictText) → PlanLane → Outcome → PlanLane → Type 0
  LookFinds verdict before outcome after =
      OfCallKey store call before outcome after
      (λ number. (seen : SeenText) × Sees store (start_of call.path) number before seen after
      × Ends (verdict seen) 0 0 outcome
      × IsSeenOfPlan plan call.key seen)

  -- A compute whose factory gives a value, and which shows a fault only if the plan keeps it under the call's key.
  abbrev pub ValueFinds : ValueText → PlanLane → Outcome → PlanLane → Type 0
  ValueFinds value before outcome after =
      OfCallKey store call before outcome after
      (λ number. (made : ComputesValue store (start_of call.path) number call.name call.label value before outcome
      after)
      × IsFaultOfPlan plan call.key call.name call.label made.result made.between outcome after made.ends)

  -- A compute whose factory fails, and which shows a value or a fault only if the plan keeps it under the call's key.
  abbrev pub ComputeFinds : List ℕ → PlanLane → Outcome → PlanLane → Type 0
  ComputeFinds text before outcome after =
      OfCallKey store call before outcome after
      (λ number. (made : ComputesFault store (start_of call.path) number call.name call.label text before outcome
      after)
      × IsMetOfPlan plan call.key call.name call.label text made.result made.between outcome after made.ends)

  -- What a step with this word and text does with its call: it sees a value or a kept fault only if the plan keeps it
  -- under the call's key.
  abbrev pub WordFinds : Word → List ℕ → PlanLane → Outcome → PlanLane → Type 0
  WordFinds words.Want text before outcome after =
      LookFinds (want_verdict call.name call.label text) before outcome after
  WordFinds words.None text before outcome after = LookFinds (none_verdict call.name call.label) before outcome after
  WordFinds words.Compute text before outcome after =
      ValueFinds (record { text = text; closeable = false }) before outcome after
  WordFinds words.ComputeCloseable text before outcome after =
      ValueFinds (record { text = text; closeable = true }) before outcome after
  WordFinds words.ComputeFail text before outcome after = ComputeFinds text before outcome after
  WordFinds word text before outcome after = StepDoes store call word text before outcome after

module _ (plan : PlanText) (store : StoreView) (path : List ℕ) where
  -- A step that sees a value or a kept fault only if the plan keeps it under the step's key.
  abbrev pub StepFinds : StepText → PlanLane → Outcome → PlanLane → Type 0
  StepFinds (keyed word key text up) before outcome after =
      WordFinds plan store (call_of plan.keys path (word_text word) key up) word text before outcome after
      ⊎ LacksMemory plan.keys word key before outcome after
  StepFinds (fail text) before outcome after = StepRun store plan.keys path (fail text) before outcome after
  StepFinds (abort text) before outcome after = StepRun store plan.keys path (abort text) before outcome after

  -- The steps in order, up to and including the first that isn't successful.
  abbrev pub StepsFind : List StepText → PlanLane → Outcome → PlanLane → Type 0
  StepsFind [] before outcome after = (after ≡ before) × Ends successful 0 0 outcome
  StepsFind (step ∷ more) before outcome after =
      (first : Outcome) × (between : PlanLane) × StepFinds step before first between
      × ((is_successful (ending_of first.verdict) ≡ true → (rest : Outcome) × StepsFind more between rest after
      × AddsUp store plan.keys path first rest outcome)
      × (is_successful (ending_of first.verdict) ≡ false → (outcome ≡ first) × (after ≡ between)))

-- A call of a node, whose steps run in the node's context.
pub record CallFinds (plan : PlanText) (store : StoreView) (node : ℕ) (call : Call) (held : Option HeldView)
    (before : PlanLane) (outcome : Outcome) (after : PlanLane) : Type 0 where
  pub path : List ℕ
  pub path_is : IsPathOf store.tree node path
  pub steps : StepsFind plan store path (steps_of_call plan call) before outcome after

-- ---- the laws

-- A call of a plan's node lets its lane go on, so the engine's laws of order hold of runs of plans.
abbrev pub PlansGoOn : Type 0
PlansGoOn = (plan : PlanText) (store : StoreView) → CallsGoOn (MakesCall plan store)

-- In a run of a plan on several lanes, a value that a `want`, a `none` or a `computefail` sees is one that a step of
-- the plan puts or computes under the same key. A kept fault that one of these or a `compute` meets is that of a
-- `computefail` of the plan, with the same text and under the same key.
abbrev pub RunsFindWhatIsKept : Type 0
RunsFindWhatIsKept = (plan : PlanText) (lanes : ℕ) (results : List (ResultOf Fault))
    (run : ParallelRun plan lanes results)
    → TreeRun (with_calls (CallFinds plan run.store) (setting_of_plan plan run.store run.locks)) 16 0 run.first run.ran
    run.after

-- Two lanes of a run have one number for a key that both know, and one key for a number that both know.
abbrev pub LanesNumberAlike : Type 0
LanesNumberAlike = (plan : PlanText) (lanes : ℕ) (results : List (ResultOf Fault))
    (run : ParallelRun plan lanes results) (lane other : PlanLane)
    → Contains run.after.first lane → Contains run.after.first other → OneNumber lane.keys other.keys
    × OneKey lane.keys other.keys
