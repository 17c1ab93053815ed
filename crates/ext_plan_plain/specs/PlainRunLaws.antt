-- Laws of the plain run of every plan, whatever memory its steps find, by which a reader may judge its definition. A
-- context's store is closed at the end of the context (JUnit 5 User Guide, "Keeping State in Extensions"). The order of
-- the results, and which nodes are skipped, is not from JUnit.
use Rattle.std.specs.Prelude.{ℕ, ◌≡◌, ◌≢◌, ◌⊎◌, ◌+◌, ◌<◌, ◌≤◌, codes, Bool, true, false, if◌then◌else◌, List, [], ◌∷◌, Option, Some, None, All, Contains, IfSome, map, length, drop, is_some, slice_get}
use Rattle.std.specs.List.{range_with_len}
use Rattle.std.specs.Str.{bytes_eq}
use Rattle.ext_model.specs.declared.slot.Slot.TheVariants as slot
use Rattle.ext_model.specs.State.{IsClaimed, IsSealed}
use Rattle.ext_model.specs.Plain.{Place}
use Rattle.ext_tree.specs.Keys.{KeyValue, AreDifferent, HasNumber}
use Rattle.ext_tree.specs.Trees.{IsParentOf}
use Rattle.ext_lifecycle.specs.declared.call.Call.{Call}
use Rattle.ext_lifecycle.specs.declared.status.Status.TheVariants as statuses
use Rattle.ext_lifecycle.specs.Endings.{all_successful, failed, successful}
use Rattle.ext_lifecycle.specs.FaultTexts.{NodeOutcome}
use Rattle.ext_plan.specs.declared.word.Word.TheVariants as words
use Rattle.ext_plan.specs.Plans.{KeyText, PlanText, StepKeyText, StepText, keyed, fail, abort}
use Rattle.ext_plan.specs.StoreKeys.{is_there, key_of_step}
use Rattle.ext_plan.specs.ReadPlans.{ids_of_nodes, NodesAreTree, OfAllSteps, TestsHaveNoChildren}
use Rattle.ext_plan.specs.Steps.{step_key}
use Rattle.ext_plan.specs.StepCalls.{label_of, start_of}
use Rattle.ext_plan.specs.StepTexts.{met_fault_text, other_fault_text}
use Rattle.ext_plan.specs.Values.{ValueText}
use Rattle.ext_plan_plain.specs.ValueStates.{Memory, Numbering, known, next, full, numbering_of, ValueState, value_opening, keep_value, with_number}
use Rattle.ext_plan_plain.specs.StepRuns.{ended, no_memory, step_by, step_run, steps_run, value_first}
use Rattle.ext_plan.specs.PlanCalls.{test_of}
use Rattle.ext_plan_plain.specs.NodeCalls.{befores_run, call_run}
use Rattle.ext_plan_plain.specs.PlainRun.{HasNoFailed, RunState, node_run, plain_run, plain_run_by}

-- ---- the results

-- There is one result for each node, in the order of the plan.
abbrev pub HasResultOfEachNode : Type 0
HasResultOfEachNode = (memory : List Memory) (plan : PlanText)
    → map (λ r. r.node) (plain_run_by memory plan) ≡ range_with_len 0 (length plan.nodes)

-- The results of tests are those of the nodes that are tests.
abbrev pub HasTestsOfPlan : Type 0
HasTestsOfPlan = (memory : List Memory) (plan : PlanText)
    → map (λ r. r.is_test) (plain_run_by memory plan) ≡ map (λ n. is_some n.test) plan.nodes

-- ---- memory

-- Whatever a step finds of memory, it does what it would do with enough, or fails with `no memory`.
abbrev pub DoesOrLacks : Type 0
DoesOrLacks =
    (keys : List KeyText) (found : Memory) (path : List ℕ) (step : StepText) (s : ValueState)
    → (step_by keys found path step s ≡ step_run keys path step s)
    ⊎ ((step_by keys found path step s).verdict ≡ no_memory)

-- If no node failed, no step lacked memory: the run is the one that the plan has, whatever the list says.
abbrev pub RunsAsPlanned : Type 0
RunsAsPlanned = (memory : List Memory) (plan : PlanText) → NodesAreTree plan → HasNoFailed (plain_run_by memory plan)
    → plain_run_by memory plan ≡ plain_run plan

-- ---- which nodes run

-- The node with this number has run, if there is one.
abbrev pub HasRun : ℕ → List NodeOutcome → Type 0
HasRun k results = IfSome (slice_get results k) (λ r. r.status ≢ statuses.Skipped)

-- No node registers callbacks before all its children.
abbrev pub HasNoBeforeAlls : PlanText → Type 0
HasNoBeforeAlls plan = All (λ node. node.before_all ≡ []) plan.nodes

-- If no node does, each node of a plan that was read is run, however deep it is: its nodes form a tree, and no test has
-- children. A result is `skipped` before its node has run and never after.
abbrev pub RunsEachNode : Type 0
RunsEachNode =
    (memory : List Memory) (plan : PlanText) → NodesAreTree plan → TestsHaveNoChildren plan → HasNoBeforeAlls plan
    → All (λ r. r.status ≢ statuses.Skipped) (plain_run_by memory plan)

-- The before-callbacks of a container, run from this state, were all successful.
abbrev pub goes_on : PlanText → List ℕ → RunState → Bool
goes_on plan path run = all_successful (befores_run plan false (start_of path) path run.state).calls

-- A node that is run isn't skipped.
abbrev pub RunsNode : Type 0
RunsNode = (plan : PlanText) (levels : ℕ) (path : List ℕ) (run : RunState)
    → HasRun (start_of path) (node_run plan (levels + 1) path run).results

-- If the before-callbacks of a container were all successful, each of its children is run.
abbrev pub RunsBody : Type 0
RunsBody =
    (plan : PlanText) (levels at child : ℕ) (above : List ℕ) (run : RunState) → TestsHaveNoChildren plan
    → IsParentOf (ids_of_nodes plan.nodes) at child → goes_on plan (at ∷ above) run ≡ true
    → HasRun child (node_run plan (levels + 2) (at ∷ above) run).results

-- If they were not, no other node's result changes: all nodes below it stay skipped.
abbrev pub SkipsBody : Type 0
SkipsBody =
    (plan : PlanText) (levels other : ℕ) (path : List ℕ) (run : RunState)
    → is_some (test_of plan (start_of path)) ≡ false → goes_on plan path run ≡ false → other ≢ start_of path
    → slice_get (node_run plan (levels + 1) path run).results other ≡ slice_get run.results other

-- The parent of each node that has run has run, so all nodes below a skipped one are skipped.
abbrev pub RunsParents : Type 0
RunsParents =
    (memory : List Memory) (plan : PlanText) → NodesAreTree plan → (parent child : ℕ)
    → IsParentOf (ids_of_nodes plan.nodes) parent child
    → HasRun child (plain_run_by memory plan) → HasRun parent (plain_run_by memory plan)

-- ---- the store between two steps and between two nodes

-- No lane has a claim anywhere.
abbrev pub HasNoClaims : ValueState → Type 0
HasNoClaims s = (place : Place) → ¬ IsClaimed (s.store.slots place)

-- Each number that was drawn has an entry among the values: its value, or the text of its kept fault.
abbrev pub HasValues : ValueState → Type 0
HasValues s = length s.values ≡ s.store.drawn

-- No kept fault stands anywhere.
abbrev pub HasNoFaults : ValueState → Type 0
HasNoFaults s = (place : Place) (number : ℕ) → s.store.slots place ≢ Some (slot.Fault number)

-- No key has two numbers, and no more keys have one than there are places. No number has two keys, since a key's
-- number is its place in the list.
pub record NumbersKeys (s : ValueState) : Type 0 where
  pub different : AreDifferent s.keys
  pub few : length s.keys ≤ s.places

-- All four hold before the first node, whether faults are kept or not, and however many places there are.
abbrev pub OpensClear : Type 0
OpensClear = (keeps : Bool) (places numbers : ℕ) → HasNoClaims (value_opening keeps places numbers)
    × HasValues (value_opening keeps places numbers) × HasNoFaults (value_opening keeps places numbers)
    × NumbersKeys (value_opening keeps places numbers)

-- If there was no claim before a node, there is none after it.
abbrev pub MakesNoClaims : Type 0
MakesNoClaims = (plan : PlanText) (levels : ℕ) (path : List ℕ) (run : RunState) → HasNoClaims run.state
    → HasNoClaims (node_run plan levels path run).state

-- After a node all places in its context are sealed, even those of numbers that no key has yet.
abbrev pub SealsContexts : Type 0
SealsContexts =
    (plan : PlanText) (levels key : ℕ) (path : List ℕ) (run : RunState) → HasNoClaims run.state → key < run.state.places
    → IsSealed ((node_run plan (levels + 1) path run).state.store.slots (start_of path, key))

-- If each number had a value before a node, each has one after it.
abbrev pub KeepsValues : Type 0
KeepsValues = (plan : PlanText) (levels : ℕ) (path : List ℕ) (run : RunState) → HasValues run.state
    → HasValues (node_run plan levels path run).state

-- ---- the numbers of keys

-- The second store has places for as many keys as the first, and as many numbers.
pub record HasLimitsOf (before after : ValueState) : Type 0 where
  pub places : after.places ≡ before.places
  pub numbers : after.numbers ≡ before.numbers

-- These limits stay through a step, the steps of a call, or a node and all nodes below it.
pub record KeepsLimits : Type 0 where
  pub step : (keys : List KeyText) (found : Memory) (path : List ℕ) (step : StepText) (s : ValueState)
      → HasLimitsOf s (step_by keys found path step s).state
  pub steps : (keys : List KeyText) (path : List ℕ) (steps : List StepText) (s : ValueState)
      → HasLimitsOf s (steps_run keys path steps s).state
  pub node : (plan : PlanText) (levels : ℕ) (path : List ℕ) (run : RunState)
      → HasLimitsOf run.state (node_run plan levels path run).state

-- If no key had two numbers, none has after a step, after the steps of a call, or after a node and all nodes below it.
pub record NumbersOnce : Type 0 where
  pub step : (keys : List KeyText) (found : Memory) (path : List ℕ) (step : StepText) (s : ValueState) → NumbersKeys s
      → NumbersKeys (step_by keys found path step s).state
  pub steps : (keys : List KeyText) (path : List ℕ) (steps : List StepText) (s : ValueState) → NumbersKeys s
      → NumbersKeys (steps_run keys path steps s).state
  pub node : (plan : PlanText) (levels : ℕ) (path : List ℕ) (run : RunState) → NumbersKeys run.state
      → NumbersKeys (node_run plan levels path run).state

-- A key keeps its number through a step, the steps of a call, or a node and all nodes below it.
pub record KeepsNumber (key : KeyValue) (number : ℕ) : Type 0 where
  pub step : (keys : List KeyText) (found : Memory) (path : List ℕ) (step : StepText) (s : ValueState)
      → HasNumber s.keys key number → HasNumber (step_by keys found path step s).state.keys key number
  pub steps : (keys : List KeyText) (path : List ℕ) (steps : List StepText) (s : ValueState)
      → HasNumber s.keys key number → HasNumber (steps_run keys path steps s).state.keys key number
  pub node : (plan : PlanText) (levels : ℕ) (path : List ℕ) (run : RunState) → HasNumber run.state.keys key number
      → HasNumber (node_run plan levels path run).state.keys key number

abbrev pub KeepsNumbers : Type 0
KeepsNumbers = (key : KeyValue) (number : ℕ) → KeepsNumber key number

-- Each step that names a key with a number finds this number.
abbrev pub KnowsNumbers : Type 0
KnowsNumbers = (places : ℕ) (keys : List KeyValue) (key : KeyValue) (number : ℕ) → AreDifferent keys
    → HasNumber keys key number → numbering_of places keys key ≡ known number

-- The value that a step keeps before its key is numbered.
abbrev pub kept_first : StepText → Option ValueText
kept_first (keyed word key text up) = value_first word text
kept_first (fail text) = None
kept_first (abort text) = None

-- Nothing has changed, except that such a value may have been kept under a new number.
abbrev pub IsUnchangedButKept : Option ValueText → ValueState → ValueState → Type 0
IsUnchangedButKept None old new = new ≡ old
IsUnchangedButKept (Some value) old new = (new ≡ old) ⊎ (new ≡ keep_value value old)

-- A step whose key has no number afterwards has changed nothing else.
abbrev pub ChangesNothingUnnumbered : Type 0
ChangesNothingUnnumbered =
    (keys : List KeyText) (found : Memory) (path : List ℕ) (step : StepText) (key : StepKeyText) (s : ValueState)
    → step_key step ≡ Some key
    → is_there (step_by keys found path step s).state.keys (key_of_step keys key) ≡ false
    → IsUnchangedButKept (kept_first step) s (step_by keys found path step s).state

-- The step names one of these keys, or none.
abbrev pub NamesOneOf : List KeyValue → List KeyText → StepText → Type 0
NamesOneOf names keys step = IfSome (step_key step) (λ key. Contains names (key_of_step keys key))

-- Each step of the plan names one of these keys, or none.
abbrev pub NamesOnly : List KeyValue → PlanText → Type 0
NamesOnly names plan = All (OfAllSteps (All (NamesOneOf names plan.keys))) plan.nodes

-- If so, only these keys get numbers, whatever step, call of the plan or node is run.
pub record NumbersOnly (names : List KeyValue) (plan : PlanText) : Type 0 where
  pub step : (found : Memory) (path : List ℕ) (step : StepText) (s : ValueState) → NamesOneOf names plan.keys step
      → All (Contains names) s.keys → All (Contains names) (step_by plan.keys found path step s).state.keys
  pub call : (path : List ℕ) (call : Call) (s : ValueState) → All (Contains names) s.keys
      → All (Contains names) (call_run plan path call s).state.keys
  pub node : (levels : ℕ) (path : List ℕ) (run : RunState) → All (Contains names) run.state.keys
      → All (Contains names) (node_run plan levels path run).state.keys

abbrev pub NumbersOnlyNamed : Type 0
NumbersOnlyNamed = (names : List KeyValue) (plan : PlanText) → NamesOnly names plan → NumbersOnly names plan

-- If there are places for all of them, each has a number: no step of the plan ends with `directory full`.
abbrev pub HasRoom : Type 0
HasRoom =
    (places : ℕ) (names keys : List KeyValue) (key : KeyValue) → length names ≤ places → AreDifferent keys
    → All (Contains names) keys → Contains names key → numbering_of places keys key ≢ full

-- ---- what was put

-- After a successful `put`, a `want` of the same text under the same key succeeds in the same context, by whatever word
-- it names the key: its label, another label of it, or its name.
abbrev pub FindsWhatWasPut : Type 0
FindsWhatWasPut =
    (keys : List KeyText) (path : List ℕ) (at : ℕ) (above : List ℕ) (key other : StepKeyText) (up : ℕ) (text : List ℕ)
    (s : ValueState) → key_of_step keys other ≡ key_of_step keys key
    → drop up path ≡ at ∷ above → HasValues s
    → (step_run keys path (keyed words.Put key text up) s).verdict ≡ successful
    → (step_run keys path (keyed words.Want other text up)
    (step_run keys path (keyed words.Put key text up) s).state).verdict ≡ successful

-- ---- kept faults

-- Each step that meets the kept fault with this text says so and changes nothing: no factory runs, and nothing is
-- computed or found. A `computefail` with the same text succeeds.
pub record MeetsFault (keys : List KeyText) (path : List ℕ) (key : StepKeyText) (up : ℕ) (text : List ℕ)
    (s : ValueState) : Type 0 where
  pub computes : (other : List ℕ)
      → step_run keys path (keyed words.Compute key other up) s
      ≡ ended (failed (met_fault_text (codes "compute") (label_of keys key) text)) s
  pub computes_closeable : (other : List ℕ)
      → step_run keys path (keyed words.ComputeCloseable key other up) s
      ≡ ended (failed (met_fault_text (codes "compute!") (label_of keys key) text)) s
  pub fails : (other : List ℕ)
      → step_run keys path (keyed words.ComputeFail key other up) s
      ≡ ended (if bytes_eq text other then successful
      else failed (met_fault_text (codes "computefail") (label_of keys key) text)) s
  pub wants : (other : List ℕ)
      → step_run keys path (keyed words.Want key other up) s
      ≡ ended (failed (other_fault_text (label_of keys key) other text)) s
  pub finds : step_run keys path (keyed words.None key [] up) s
      ≡ ended (failed (met_fault_text (codes "none") (label_of keys key) text)) s

-- If faults are kept, the steps after a successful `computefail` meet a fault with its text under the same key in the
-- same context: its own, or one that it met.
abbrev pub KeepsFault : Type 0
KeepsFault =
    (keys : List KeyText) (path : List ℕ) (at : ℕ) (above : List ℕ) (key : StepKeyText) (up : ℕ) (text : List ℕ)
    (s : ValueState) → drop up path ≡ at ∷ above → HasValues s → s.keep_faults ≡ true
    → (step_run keys path (keyed words.ComputeFail key text up) s).verdict ≡ successful
    → MeetsFault keys path key up text (step_run keys path (keyed words.ComputeFail key text up) s).state

-- The store once a key has been named: it has a number, if there was one for it.
abbrev pub named_by : Numbering → KeyValue → ValueState → ValueState
named_by (known number) key s = s
named_by (next number) key s = with_number key s
named_by full key s = s

-- If faults are not kept, a `computefail` changes nothing but that its key was named. The steps after it do what they
-- would have done after a look-up in its place.
abbrev pub KeepsNoFault : Type 0
KeepsNoFault =
    (keys : List KeyText) (path : List ℕ) (key : StepKeyText) (up : ℕ) (text : List ℕ) (s : ValueState)
    → s.keep_faults ≡ false
    → (let k = key_of_step keys key in
    (step_run keys path (keyed words.ComputeFail key text up) s).state ≡ named_by (numbering_of s.places s.keys k) k s)

-- In a run that keeps no faults, no kept fault stands after a node if none stood before it.
abbrev pub NeverFaults : Type 0
NeverFaults = (plan : PlanText) (levels : ℕ) (path : List ℕ) (run : RunState) → run.state.keep_faults ≡ false
    → HasNoFaults run.state → HasNoFaults (node_run plan levels path run).state
