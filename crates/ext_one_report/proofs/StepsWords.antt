-- A step on a lane that is alone on its places, beside the same step of a plain run: when the two are compared, and what it means that they end alike.
-- Javadoc `ExtensionContext.Store`. What a step does on a lane is a definition of [ext_plan_parallel StoreSteps], and what it does in a plain run one of [ext_plan_plain StepRuns].
-- That memory, places, numbers and keys suffice is asked of what the step says, and of the plain run.
use Rattle.ext_one_report.specs.FullRuns.{FindsAll}
use Rattle.std.specs.Prelude.{ℕ, ◌≡◌, ◌≢◌, ◌<◌, ◌++◌, Bool, true, false, nat_eq, List, All, Contains, length, drop, Option, None, Some, string_bytes}
use Rattle.ext_history.specs.Histories.{seen_by}
use Rattle.ext_model.specs.declared.event.Event.{Event}
use Rattle.ext_model.specs.declared.look.Fault.{Fault}
use Rattle.ext_model.specs.declared.look.Fault.TheVariants as faults
use Rattle.ext_model.specs.Events.{is_on}
use Rattle.ext_model.specs.History.{History}
use Rattle.ext_model.specs.CallActs.{LaneView}
use Rattle.ext_tree.specs.Keys.{KeyValue, KeepsKeys}
use Rattle.ext_tree.specs.Trees.{IsTree, IsPathOf}
use Rattle.ext_values.specs.Known.{known_at}
use Rattle.ext_lifecycle.specs.declared.outcome.Outcome.{Outcome}
use Rattle.ext_lifecycle.specs.FaultTexts.{verdict_text}
use Rattle.ext_plan.specs.declared.word.Word.{Word}
use Rattle.ext_plan.specs.Plans.{KeyText, StepKeyText, StepText, keyed}
use Rattle.ext_plan.specs.StepCalls.{call_of, label_of, start_of}
use Rattle.ext_plan.specs.StepWords.{looks_along, word_text}
use Rattle.ext_plan.specs.StoreKeys.{is_there, key_of_step}
use Rattle.ext_plan_plain.specs.ValueStates.{ValueState}
use Rattle.ext_plan_plain.specs.StepRuns.{StepEnd, step_run}
use Rattle.ext_plan_parallel.specs.declared.steps.stored_value.StoredValue.{StoredValue}
use Rattle.ext_plan_parallel.specs.Saying.{no_memory}
use Rattle.ext_plan_parallel.specs.StoreCalls.{PlanLane, stored_view}
use Rattle.ext_plan_parallel.specs.StoreSteps.{StepDoes, StepRun}
use Rattle.ext_one_report.proofs.MatchingWords.{RunView, IsRunView, HasNumberIn, Places, Matches, IsNumbered, cell_of}

-- ---- the lane

-- All events at these places that a lane has come to see between two moments are its own.
-- Where lane 0 had seen nothing, and has seen its own put into context 0 and then one of lane 1 into context 1, it is alone at the places of context 0, and not at those of 1
pub record IsAlone (run : RunView) (places : Places) (before after : LaneView) : Type 0 where
  pub own : (more : History) → seen_by after ≡ seen_by before ++ more
      → (context : ℕ) (key : KeyValue) (number : ℕ) → places context key ≡ true → HasNumberIn run key number
      → (e : Event ℕ) → Contains more e → is_on nat_eq (cell_of run number context) e.act ≡ true → e.lane ≡ before.number

-- the words of a kept fault; one that is want of memory has none
abbrev pub words_of : Fault → Option (List ℕ)
words_of (faults.Text text) = Some (string_bytes text)
words_of faults.Memory = None

-- what the lane knows of keys, values and faults is so of the whole run
pub record IsLaneIn (run : RunView) (lane : PlanLane) : Type 0 where
  pub keys : KeepsKeys lane.keys run.numbering
  pub values : (number : ℕ) (value : StoredValue) → known_at lane.known number ≡ Some value → run.meaning.values number ≡ Some (stored_view value)
  pub faults : (number : ℕ) (fault : Fault) → known_at lane.faults number ≡ Some fault → run.meaning.faults number ≡ words_of fault

-- ---- that all suffices

-- and so does one in a plain run: a number for its value, and one for its key
pub record HasRoom (key : KeyValue) (s : ValueState) : Type 0 where
  pub numbers : s.store.drawn < s.numbers
  pub keys : is_there s.keys key ≡ false → length s.keys < s.places

-- ---- two steps

-- A step of this name, in the context of a path, that names this key and goes up so many contexts: on a lane, and from this state in a plain run
pub record AreCompared (run : RunView) (keys : List KeyText) (path : List ℕ) (places : Places) (name : List ℕ) (key : StepKeyText) (up : ℕ)
    (before : PlanLane) (outcome : Outcome) (after : PlanLane) (s : ValueState) : Type 0 where
  pub view : IsRunView run
  pub lane : IsLaneIn run after
  -- the path is one of the store's tree
  pub tree : IsTree run.store.tree
  pub path_is : IsPathOf run.store.tree (start_of (drop up path)) (drop up path)
  -- the lane is alone on the places meanwhile
  pub alone : IsAlone run places before.cells.view after.cells.view
  pub finds : FindsAll name (label_of keys key) outcome
  pub room : HasRoom (key_of_step keys key) s
  -- both keep faults, or neither does
  pub keeps : before.cells.cells.limits.keep_faults ≡ s.keep_faults
  -- the same stands there before
  pub matches : Matches run places (seen_by before.cells.view) s
  pub numbered : IsNumbered places s

-- the places that a look-up of the step asks are among these
abbrev pub LooksWithin : List KeyText → List ℕ → Places → StepKeyText → ℕ → Type 0
LooksWithin keys path places key up = All (λ context. places context (key_of_step keys key) ≡ true) (drop up path)

-- the place that the step acts on is
abbrev pub ActsWithin : List KeyText → List ℕ → Places → StepKeyText → ℕ → Type 0
ActsWithin keys path places key up = places (start_of (drop up path)) (key_of_step keys key) ≡ true

-- what a step touches, which looks along its path or does not
abbrev pub TouchesWithin : Bool → List KeyText → List ℕ → Places → StepKeyText → ℕ → Type 0
TouchesWithin true keys path places key up = LooksWithin keys path places key up
TouchesWithin false keys path places key up = ActsWithin keys path places key up

-- Both say the same and count the same, and the same stands at the places after them. After `put a x` a lane may have x under number 7 where the plain run has it under 2;
-- a lane that had put y, had found no memory, or had left the place empty would not end alike
pub record EndAlike (run : RunView) (places : Places) (outcome : Outcome) (after : PlanLane) (end : StepEnd) : Type 0 where
  pub says : verdict_text outcome.verdict ≡ end.verdict
  pub computed : outcome.computed ≡ end.computed
  pub found : outcome.found ≡ end.found
  pub matches : Matches run places (seen_by after.cells.view) end.state
  pub numbered : IsNumbered places end.state

-- A step of this word that makes its call, where what it touches is within the places: on a lane that is alone there it
-- ends as in the plain run
abbrev pub WordEndsAlike : Word → Type 0
WordEndsAlike word =
    (key : StepKeyText) (text : List ℕ) (up : ℕ) (run : RunView) (keys : List KeyText) (path : List ℕ) (places : Places) (before : PlanLane) (outcome : Outcome) (after : PlanLane) (s : ValueState)
    → TouchesWithin (looks_along word) keys path places key up → AreCompared run keys path places (word_text word) key up before outcome after s
    → StepDoes run.store (call_of keys path (word_text word) key up) word text before outcome after → EndAlike run places outcome after (step_run keys path (keyed word key text up) s)

-- a step that touches nothing ends alike on any lane
abbrev pub EndsAnywhere : StepText → Type 0
EndsAnywhere step =
    (run : RunView) (keys : List KeyText) (path : List ℕ) (places : Places) (before : PlanLane) (outcome : Outcome) (after : PlanLane) (s : ValueState)
    → outcome.verdict ≢ no_memory → Matches run places (seen_by before.cells.view) s → IsNumbered places s → StepRun run.store keys path step before outcome after
    → EndAlike run places outcome after (step_run keys path step s)
