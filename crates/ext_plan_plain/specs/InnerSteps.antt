-- What private functions answer of the store, of the numbers of keys, and of steps. No public contract cites it.
use Rattle.std.specs.Prelude.{◌≡◌, ◌≢◌, ◌<◌, ◌≤◌, ◌⊎◌, ℕ, Bool, true, false, not, List, [], ◌∷◌, ◌++◌, length, map, Option, Some, None, option_map, slice_get, IsSomeAnd, Result, Ok, Err, if◌then◌else◌}
use Rattle.ext_model.specs.declared.look.Fault.{Fault}
use Rattle.ext_model.specs.declared.event.Act.TheVariants.{Abandon}
use Rattle.ext_model.specs.declared.plain_fault.PlainFault.{PlainFault}
use Rattle.ext_model.specs.declared.plain_fault.PlainFault.TheVariants as plain
use Rattle.ext_model.specs.Events as events
use Rattle.ext_model.specs.Plain.{Place}
use Rattle.ext_lifecycle.specs.declared.call.Call.{Call}
use Rattle.ext_model.specs.declared.closed.Closed as counts
use Rattle.ext_lifecycle.specs.declared.outcome.Outcome.{Outcome}
use Rattle.ext_lifecycle.specs.declared.tally.Tally.{Tally}
use Rattle.ext_lifecycle.specs.Endings.{is_successful, with_fault}
use Rattle.ext_lifecycle.specs.FaultTexts.{NodeOutcome, VerdictText, fault_text, results_view, verdict_text}
use Rattle.ext_lifecycle.specs.Lifecycle.{computed_in, endings_of, found_in, tally_of}
use Rattle.ext_model.specs.Closed.{closed_of}
use Rattle.ext_tree.specs.Keys.{KeyValue}
use Rattle.ext_plan.specs.Plans.{PlanText, plan_view}
use Rattle.ext_plan.specs.declared.reason.Reason.{Reason}
use Rattle.ext_plan.specs.declared.reason.Reason.TheVariants as reasons
use Rattle.ext_plan.specs.declared.step_call.StepCall.{StepCall}
use Rattle.ext_plan.specs.StepCalls.{start_of}
use Rattle.ext_plan.specs.Values.{ValueText, value_view}
use Rattle.ext_plan_plain.specs.declared.callers.NodeCaller.{NodeCaller}
use Rattle.ext_plan_plain.specs.declared.lack.Lack.{Lack}
use Rattle.ext_plan_plain.specs.declared.lack.Lack.TheVariants as lacks
use Rattle.ext_plan_plain.specs.declared.lack.StepLack.{StepLack}
use Rattle.ext_plan_plain.specs.declared.lack.StepLack.TheVariants as step_lacks
use Rattle.ext_plan_plain.specs.declared.plain.PlainRunner.{PlainRunner}
use Rattle.ext_plan_plain.specs.declared.setting.Setting.{Setting}
use Rattle.ext_plan_plain.specs.declared.value_store.ValueStore.{ValueStore}
use Rattle.ext_plan_plain.specs.InnerPlaces.{numbers_in, shown}
use Rattle.ext_plan_plain.specs.NodeCalls.{CallsEnd, call_run}
use Rattle.ext_tree.specs.Trees.{Id, IsTree, IsParentOf, IsPathOf}
use Rattle.ext_plan_plain.specs.PlainRun.{RunState, may_lack_memory, node_end}
use Rattle.ext_plan_plain.specs.StepRuns.{StepEnd, ended, factory_gave, factory_failed, made_by, no_memory, said_by}
use Rattle.ext_plan_plain.specs.ValueStates.{Memory, enough, no_key, no_value, no_number, no_place, no_words, ValueState, after_act, reason, why_refused, next_number, keep_value, with_memory, known, next, full, numbering_of, with_number}

-- ---- the store and its values

abbrev pub state_view : ValueStore → ValueState
state_view s = record {
  keep_faults = s.keep_faults;
  places = s.store.places;
  numbers = numbers_in s.store;
  store = shown s.store;
  keys = s.keys;
  values = map value_view s.values.items;
  memory = [];
}

-- The reason for a refusal other than a lack of memory.
abbrev pub IsReasonOf : PlainFault → Reason → Type 0
IsReasonOf plain.Busy why = why ≡ reason events.Busy
IsReasonOf plain.Closed why = why ≡ reason events.Closed
IsReasonOf (plain.Taken number) why = why ≡ reason (events.Standing number)
IsReasonOf (plain.FaultStands number) why = why ≡ reason (events.FaultStanding number)
IsReasonOf plain.NumbersFull why = why ≡ reason events.NumbersFull
IsReasonOf plain.Memory why = ⊥

-- The reason why a call of the store was refused, if it was.
abbrev pub IsReasonIfRefused : {A : Type 0} → Result A PlainFault → Option Reason → Type 0
IsReasonIfRefused (Ok x) why = why ≡ None
IsReasonIfRefused (Err plain.Busy) why = why ≡ Some (reason events.Busy)
IsReasonIfRefused (Err plain.Closed) why = why ≡ Some (reason events.Closed)
IsReasonIfRefused (Err (plain.Taken number)) why = why ≡ Some (reason (events.Standing number))
IsReasonIfRefused (Err (plain.FaultStands number)) why = why ≡ Some (reason (events.FaultStanding number))
IsReasonIfRefused (Err plain.NumbersFull) why = why ≡ Some (reason events.NumbersFull)
IsReasonIfRefused (Err plain.Memory) why = ⊥

-- The value is kept under this number.
pub record IsKeptAs (value : ValueText) (old new : ValueState) (number : ℕ) : Type 0 where
  pub state : new ≡ keep_value value old
  pub drawn : number ≡ new.store.drawn
  pub allowed : why_refused (next_number old) old ≡ None
  pub slots : (place : Place) → new.store.slots place ≡ old.store.slots place

-- No number is left, and nothing has changed.
pub record IsNotKept (old new : ValueState) (why : Reason) : Type 0 where
  pub state : new ≡ old
  pub refused : why_refused (next_number old) old ≡ Some why

abbrev pub Keeps : ValueText → ValueState → ValueState → Result ℕ Reason → Type 0
Keeps value old new (Ok number) = IsKeptAs value old new number
Keeps value old new (Err why) = IsNotKept old new why

-- ---- the numbers of keys

-- The key has this number from now on, whether it had it before or got it now.
abbrev pub HasBeenNumbered : KeyValue → ValueState → ValueState → ℕ → Type 0
HasBeenNumbered key old new number = ((numbering_of old.places old.keys key ≡ known number) × (new ≡ old))
    ⊎ ((numbering_of old.places old.keys key ≡ next number) × (new ≡ with_number key old))

-- All numbers belong to other keys.
pub record HasNoNumber (key : KeyValue) (old new : ValueState) (why : Reason) : Type 0 where
  pub numbering : numbering_of old.places old.keys key ≡ full
  pub reason : why ≡ reasons.DirectoryFull
  pub state : new ≡ old

-- The key would have got a number, but there was no memory.
pub record WantsNumber (key : KeyValue) (old new : ValueState) (lack : StepLack) : Type 0 where
  pub number : ℕ
  pub numbering : numbering_of old.places old.keys key ≡ next number
  pub lacks : lack ≡ step_lacks.Number
  pub state : new ≡ old

abbrev pub Declares : KeyValue → ValueState → ValueState → Result (Result ℕ Reason) StepLack → Type 0
Declares key old new (Ok (Ok number)) = HasBeenNumbered key old new number
Declares key old new (Ok (Err why)) = HasNoNumber key old new why
Declares key old new (Err lack) = WantsNumber key old new lack

-- ---- the steps

-- The place of a call's context and its key's number.
abbrev pub place_of_call : StepCall → ℕ → Place
place_of_call c number = (start_of c.path.now, number)

abbrev pub step_end : ValueState → Outcome → StepEnd
step_end s o = record { state = s; verdict = verdict_text o.verdict; computed = o.computed; found = o.found }

abbrev pub end_view : ValueStore → Outcome → StepEnd
end_view s o = step_end (state_view s) o

-- The memory that a step lacked.
abbrev pub lacking : Lack → Memory
lacking lacks.Value = no_value
lacking lacks.Place = no_place
lacking (lacks.Words found) = no_words

abbrev pub found_lacking : Lack → ℕ
found_lacking lacks.Value = 0
found_lacking lacks.Place = 0
found_lacking (lacks.Words found) = found

-- What a step leaves that lacked memory.
abbrev pub lack_end : ValueState → Lack → StepEnd
lack_end s lack = record { state = s; verdict = no_memory; computed = 0; found = found_lacking lack }

-- What a step leaves, by its answer.
abbrev pub answer_end : ValueState → Result Outcome Lack → StepEnd
answer_end s (Ok outcome) = step_end s outcome
answer_end s (Err lack) = lack_end s lack

-- What a step found of memory, by its answer.
abbrev pub memory_of : Result Outcome Lack → Memory
memory_of (Ok outcome) = enough
memory_of (Err lack) = lacking lack

-- The same answer of a whole step. A lack of memory came after the key had its number.
abbrev pub lifted : Result Outcome Lack → Result Outcome StepLack
lifted (Ok outcome) = Ok outcome
lifted (Err lack) = Err (step_lacks.Act lack)

-- What a whole step found of memory, by its answer.
abbrev pub memory_of_step : Result Outcome StepLack → Memory
memory_of_step (Ok outcome) = enough
memory_of_step (Err step_lacks.Key) = no_key
memory_of_step (Err step_lacks.Number) = no_number
memory_of_step (Err (step_lacks.Act lack)) = lacking lack

-- How many values a step had found when it lacked memory.
abbrev pub step_found : StepLack → ℕ
step_found step_lacks.Key = 0
step_found step_lacks.Number = 0
step_found (step_lacks.Act lack) = found_lacking lack

-- What a whole step leaves, by its answer.
abbrev pub end_of_step : ValueState → Result Outcome StepLack → StepEnd
end_of_step s (Ok outcome) = step_end s outcome
end_of_step s (Err lack) = record { state = s; verdict = no_memory; computed = 0; found = step_found lack }

-- The end of a step that found a value where it would have computed one.
abbrev pub counted_found : VerdictText → ValueState → StepEnd
counted_found verdict s = record { state = s; verdict = verdict; computed = 0; found = 1 }

-- Once its key is there, made for the step or declared, the step does this, by what it finds of memory.
abbrev pub DoesKeyed : ValueState → ValueState → Result Outcome StepLack → (Memory → StepEnd) → Type 0
DoesKeyed old new answer does = (made : Bool)
    → end_of_step new answer ≡ made_by (memory_of_step answer) made old (does (memory_of_step answer))

-- A step that does nothing more ends with this verdict. It can lack memory only for its words, so only if it isn't
-- successful.
abbrev pub Says : VerdictText → Result Outcome Lack → Type 0
Says v (Ok outcome) = (s : ValueState) → step_end s outcome ≡ ended v s
Says v (Err lack) = (lack ≡ lacks.Words 0) × (is_successful v ≡ false)

-- What a lack of memory leaves after a factory gave a value, under the claim that stands. The claim's place exists
-- already and needs none.
abbrev pub LacksGiven : Lack → List ℕ → List ℕ → Place → ValueText → ValueState → ValueState → Type 0
LacksGiven lacks.Value name label place value old new = new ≡ after_act (Abandon place) old
LacksGiven lacks.Place name label place value old new = ⊥
LacksGiven (lacks.Words found) name label place value old new =
    lack_end new (lacks.Words found) ≡ said_by no_words (factory_gave name label place value old)

-- What is left after a factory gave a value, under the claim that stands.
abbrev pub Gives : List ℕ → List ℕ → Place → ValueText → ValueState → ValueState → Result Outcome Lack → Type 0
Gives name label place value old new (Ok outcome) = step_end new outcome ≡ factory_gave name label place value old
Gives name label place value old new (Err lack) = LacksGiven lack name label place value old new

-- What a lack of memory leaves after a factory failed, under the claim that stands. Memory is asked for only if its
-- fault is to be kept.
abbrev pub LacksFailed : Lack → List ℕ → List ℕ → Place → List ℕ → ValueState → ValueState → Type 0
LacksFailed lacks.Value name label place text old new = (old.keep_faults ≡ true) × (new ≡ after_act (Abandon place) old)
LacksFailed lacks.Place name label place text old new = ⊥
LacksFailed (lacks.Words found) name label place text old new =
    lack_end new (lacks.Words found) ≡ said_by no_words (factory_failed name label place text old)

-- What is left after a factory failed with this text, under the claim that stands.
abbrev pub Fails : List ℕ → List ℕ → Place → List ℕ → ValueState → ValueState → Result Outcome Lack → Type 0
Fails name label place text old new (Ok outcome) = step_end new outcome ≡ factory_failed name label place text old
Fails name label place text old new (Err lack) = LacksFailed lack name label place text old new

-- One step computes or finds at most one value.
pub record AreFew (o : Outcome) : Type 0 where
  pub computed : o.computed ≤ 1
  pub found : o.found ≤ 1

-- ---- whether a step lacked memory

-- Whether a step has lacked memory, before and after some steps. `memory` is what these find, `later` what the steps
-- after them find. If none has lacked any, these did not either. If they are spared it, by how they ended, the answer
-- stays the same. An empty list says that all find enough.
pub record TellsLacks (before after : Bool) (memory later : List Memory) (Spared : Type 0) : Type 0 where
  pub kept : after ≡ false → before ≡ false
  pub nothing : after ≡ false → later ≡ [] → memory ≡ []
  pub spared : Spared → before ≡ false → after ≡ false

-- ---- the calls of a node

abbrev pub plan_in : Setting → PlanText
plan_in s = plan_view s.plan.now

-- The node is one of the tree.
pub record IsReady {L : Type 0} (caller : NodeCaller L) : Type 0 where
  pub tree : IsTree caller.setting.tree.now
  pub within : caller.node < length caller.setting.tree.now

-- What a call does: its steps run in the node's context. Whatever later steps find of memory, there is something that
-- its own steps found; and it is noted whether they lacked some.
pub record DoesCall {L : Type 0} (before : NodeCaller L) (call : Call) (outcome : Outcome) (after : NodeCaller L)
    : Type 0 where
  pub setting : after.setting ≡ before.setting
  pub node : after.node ≡ before.node
  pub end : (path : List ℕ) → IsPathOf before.setting.tree.now before.node path → (later : List Memory)
      → (memory : List Memory)
      × (step_end (with_memory later (state_view after.store)) outcome
      ≡ call_run (plan_in before.setting) path call (with_memory memory (state_view before.store)))
      × TellsLacks before.lacked after.lacked memory later (verdict_text outcome.verdict ≢ no_memory)

-- What calls with these outcomes leave.
abbrev pub calls_end : ValueState → List Outcome → CallsEnd
calls_end s outcomes =
    record {
      state = s;
      calls = map (with_fault fault_text) (endings_of outcomes);
      computed = computed_in outcomes;
      found = found_in outcomes;
    }

-- ---- the end of a node

abbrev pub only_closeable : Option ValueText → Option ValueText
only_closeable None = None
only_closeable (Some value) = if value.closeable then Some value else None

-- These closes were counted, with the texts of their faults.
pub record HasClosed (closes : counts.Closed) (told : List (Option (List ℕ))) : Type 0 where
  pub faults : List (Option Fault)
  pub counted : closes ≡ closed_of faults
  pub texts : map (option_map fault_text) faults ≡ told

-- ---- the plain run

-- A run between two nodes, and whether a step has lacked memory.
pub record RunSoFar : Type 0 where
  pub state : ValueState
  pub results : List NodeOutcome
  pub lacked : Bool

abbrev pub run_view : {L : Type 0} → PlainRunner L → RunSoFar
run_view r = record {
  state = state_view r.caller.store;
  results = results_view r.results.items;
  lacked = r.caller.lacked;
}

-- The same run, whose next steps find this of memory.
abbrev pub run_with : List Memory → RunSoFar → RunState
run_with memory run = record { state = with_memory memory run.state; results = run.results }

-- The concurrent children, or the others.
abbrev pub chosen : Bool → (ℕ → Bool) → ℕ → Bool
chosen true concurrent = concurrent
chosen false concurrent = λ child. not (concurrent child)

-- `P` holds of the result of the node with which the path begins, and of those of all nodes below it.
pub record AllBelow (P : NodeOutcome → Type 0) (ids : List Id) (path : List ℕ) (results : List NodeOutcome)
    : Type 0 where
  pub each : (k : ℕ) (below : List ℕ) → IsPathOf ids k (below ++ path) → IsSomeAnd (slice_get results k) P

-- The node does not report a lack of memory, and had none.
abbrev pub IsSpared : NodeOutcome → Type 0
IsSpared r = may_lack_memory r ≡ false

-- The node with which a path begins and all nodes below it are spared.
abbrev pub NodeSpared : List Id → List ℕ → List NodeOutcome → Type 0
NodeSpared ids path results = AllBelow IsSpared ids path results

-- The chosen children of a node and all nodes below them are spared.
abbrev pub ChildrenSpared : List Id → ℕ → (ℕ → Bool) → List ℕ → List NodeOutcome → Type 0
ChildrenSpared ids at among path results = (child : ℕ) → IsParentOf ids at child → among child ≡ true
    → NodeSpared ids (child ∷ path) results

-- For the node with this number, whatever its path, the run changed as `by` says. Whatever later steps find of memory,
-- there is something that the steps between found; and it is noted whether they lacked some, by which nodes were
-- spared.
pub record RunsAs (setting : Setting) (at : ℕ) (spared : List ℕ → List NodeOutcome → Type 0)
    (by : List ℕ → RunState → RunState) (old new : RunSoFar) : Type 0 where
  pub each : (path : List ℕ) → IsPathOf setting.tree.now at path → (later : List Memory)
      → (memory : List Memory) × (run_with later new ≡ by path (run_with memory old))
      × TellsLacks old.lacked new.lacked memory later (spared path new.results)

-- The node and all nodes below it are run.
abbrev pub NodeRuns : Setting → ℕ → (List ℕ → RunState → RunState) → RunSoFar → RunSoFar → Type 0
NodeRuns setting at by old new = RunsAs setting at (NodeSpared setting.tree.now) by old new

-- The chosen children of the node are run, with all nodes below them.
abbrev pub ChildrenRun : Setting → ℕ → (ℕ → Bool) → (List ℕ → RunState → RunState) → RunSoFar → RunSoFar → Type 0
ChildrenRun setting at among by old new = RunsAs setting at (ChildrenSpared setting.tree.now at among) by old new

-- All children.
abbrev pub any_child : ℕ → Bool
any_child child = true

-- The end of a node whose calls came to this tally, whatever later steps find of memory.
pub record EndsNode (setting : Setting) (at : ℕ) (is_test : Bool) (tally : Tally) (old new : RunSoFar) : Type 0 where
  pub same : new.lacked ≡ old.lacked
  pub each : (outcomes : List Outcome) → tally ≡ tally_of outcomes → (later : List Memory)
      → run_with later new ≡ node_end at is_test (calls_end (with_memory later old.state) outcomes) old.results
