-- A step that computes at an open place: on a lane and in a plain run the value stands there after it, or the kept fault, though it may have been computed in the one and found in the other.
-- Javadoc `ExtensionContext.Store`, `getOrComputeIfAbsent`.
use Rattle.std.specs.Prelude.{ℕ, ◌≡◌, ◌≢◌, ◌<◌, ◌≤◌, ◌+◌, ◌++◌, true, false, List, [], length, Contains, Some, nat_eq}
use Rattle.ext_history.specs.Histories.{seen_by}
use Rattle.ext_model.specs.declared.event.Event.{Event}
use Rattle.ext_model.specs.Events.{is_on}
use Rattle.ext_model.specs.History.{History, IsLegal, IsQuiet, Limits, slots_in, state_after}
use Rattle.ext_tree.specs.Keys.{KeyValue}
use Rattle.ext_tree.specs.Trees.{IsTree, IsPathOf}
use Rattle.ext_lifecycle.specs.declared.outcome.Outcome.{Outcome}
use Rattle.ext_lifecycle.specs.Endings.{successful}
use Rattle.ext_lifecycle.specs.FaultTexts.{verdict_text}
use Rattle.ext_plan.specs.Plans.{KeyText, StepText}
use Rattle.ext_plan.specs.StepCalls.{start_of}
use Rattle.ext_plan.specs.Steps.{height}
use Rattle.ext_store.specs.Stores.{IsLaneOf}
use Rattle.ext_plan_plain.specs.ValueStates.{ValueState}
use Rattle.ext_plan_plain.specs.StepRuns.{StepEnd, step_run}
use Rattle.ext_plan_parallel.specs.StoreCalls.{PlanLane}
use Rattle.ext_plan_parallel.specs.StoreSteps.{StepRun}
use Rattle.ext_one_report.specs.FullRuns.{StepFinds}
use Rattle.ext_one_report.proofs.CallsWords.{StepHasRoom}
use Rattle.ext_one_report.proofs.MatchingWords.{HasNumberIn, IsNumbered, IsRunView, Matches, Places, RunView, cell_of, plain_meaning, plain_slot}
use Rattle.ext_one_report.proofs.StepsWords.{IsAlone, IsLaneIn}
use Rattle.ext_one_report.proofs.Fills.{Fills, IsFilledBy}
use Rattle.ext_one_report.proofs.Orders.{Orders}
use Rattle.ext_one_report.proofs.Open.{AreNear, AreOpenBeside, Computes, ComputesOpen, FailsOpen, Given, MayStand, OnlyComputed, Open, Stands, also, is_left, place_of_step, still_open}

-- A lane between two moments, and a state of a plain run, in the context of a path: what is so of both whatever steps are made meanwhile, at places where the same stands and at open ones
pub record AreBesideOpen (run : RunView) (path : List ℕ) (places : Places) (open_at : Open) (before after : PlanLane) (s : ValueState) : Type 0 where
  pub view : IsRunView run
  pub of : IsLaneOf run.store.id before
  pub lane : IsLaneIn run after
  -- what the lane has seen in the end is a legal history
  pub legal : IsLegal run.store.id.cells.limits (seen_by after.cells.view)
  pub tree : IsTree run.store.tree
  pub path_is : IsPathOf run.store.tree (start_of path) path
  -- the lane is alone at the places; at the open ones all that happens is that their values are computed
  pub beside : AreOpenBeside run places open_at
  pub alone : IsAlone run places before.cells.view after.cells.view
  pub computed : OnlyComputed run open_at before.cells.view after.cells.view
  pub memory : s.memory ≡ []
  pub keeps : run.store.id.cells.limits.keep_faults ≡ s.keep_faults
  pub matches : Matches run places (seen_by before.cells.view) s
  pub numbered : IsNumbered places s
  pub near : AreNear run open_at (seen_by before.cells.view) s

-- where a value stands on the lanes and in the plain run
pub record StandsInBoth (run : RunView) (v : Given) (context : ℕ) (key : KeyValue) (h : History) (s : ValueState) : Type 0 where
  pub lanes : (number : ℕ) → HasNumberIn run key number → Stands run.meaning v (slots_in (cell_of run number) h context)
  pub plain : Stands (plain_meaning s.values) v (plain_slot s context key)

-- Both are successful, and together have computed and found as many values; what is computed stands at the place in both, which is then one of those where the same stands
pub record StepEndsNear (run : RunView) (places : Places) (open_at : Open) (at : Places) (before : PlanLane) (s : ValueState) (outcome : Outcome) (after : PlanLane) (end : StepEnd) : Type 0 where
  pub says : verdict_text outcome.verdict ≡ successful
  pub plain_says : end.verdict ≡ successful
  pub counts : outcome.computed + outcome.found ≡ end.computed + end.found
  -- the step's key has a number on the lane
  pub named : (context : ℕ) (key : KeyValue) → at context key ≡ true → (number : ℕ) × HasNumberIn run key number
  pub matches : Matches run (also at places) (seen_by after.cells.view) end.state
  pub numbered : IsNumbered (also at places) end.state
  pub near : AreNear run (still_open at open_at) (seen_by after.cells.view) end.state
  pub stands : (context : ℕ) (key : KeyValue) (v : Given) → at context key ≡ true → open_at context key ≡ Some v → StandsInBoth run v context key (seen_by after.cells.view) end.state
  -- in the plain run all other open places are as they were
  pub others : (context : ℕ) (key : KeyValue) (v : Given) → at context key ≡ false → open_at context key ≡ Some v → plain_slot end.state context key ≡ plain_slot s context key
  -- each run computed the value where it filled the place
  pub fills : Fills (IsFilledBy run before after) open_at (still_open at open_at) s outcome.computed end.computed

-- Both are successful, and neither has computed or found a value; all stands as before, and the lane has made no event at an open place where something is left
pub record StepFailsNear (run : RunView) (places : Places) (open_at : Open) (before : PlanLane) (s : ValueState) (outcome : Outcome) (after : PlanLane) (end : StepEnd) : Type 0 where
  pub says : verdict_text outcome.verdict ≡ successful
  pub plain_says : end.verdict ≡ successful
  pub computed : outcome.computed ≡ 0
  pub found : outcome.found ≡ 0
  pub plain_computed : end.computed ≡ 0
  pub plain_found : end.found ≡ 0
  pub matches : Matches run places (seen_by after.cells.view) end.state
  pub numbered : IsNumbered places end.state
  pub near : AreNear run open_at (seen_by after.cells.view) end.state
  pub unchanged : (context : ℕ) (key : KeyValue) (v : Given) → open_at context key ≡ Some v → plain_slot end.state context key ≡ plain_slot s context key
  pub untouched : (context : ℕ) (key : KeyValue) (number : ℕ) (v : Given) → open_at context key ≡ Some v → is_left v ≡ true → HasNumberIn run key number
      → (more : History) → seen_by after.cells.view ≡ seen_by before.cells.view ++ more → (e : Event ℕ) → Contains more e → is_on nat_eq (cell_of run number context) e.act ≡ true → e.lane ≢ before.cells.view.number
  pub rises : s.store.drawn ≤ end.state.store.drawn
  pub orders : Orders run places (seen_by before.cells.view) (seen_by after.cells.view) s end.state

-- such steps end so, on a lane that finds all that it asks for, where the plain run has room
abbrev pub OpenComputesEndNear : Type 0
OpenComputesEndNear =
    (run : RunView) (keys : List KeyText) (path : List ℕ) (places : Places) (open_at : Open) (step : StepText) (before : PlanLane) (outcome : Outcome) (after : PlanLane) (s : ValueState)
    → ComputesOpen keys path open_at step → height step < length path → AreBesideOpen run path places open_at before after s → StepFinds keys outcome step → StepHasRoom keys step s
    → StepRun run.store keys path step before outcome after → StepEndsNear run places open_at (place_of_step keys path step) before s outcome after (step_run keys path step s)

abbrev pub OpenFailsEndNear : Type 0
OpenFailsEndNear =
    (run : RunView) (keys : List KeyText) (path : List ℕ) (places : Places) (open_at : Open) (step : StepText) (before : PlanLane) (outcome : Outcome) (after : PlanLane) (s : ValueState)
    → FailsOpen keys path open_at step → height step < length path → AreBesideOpen run path places open_at before after s → StepFinds keys outcome step → StepHasRoom keys step s
    → StepRun run.store keys path step before outcome after → StepFailsNear run places open_at before s outcome after (step_run keys path step s)

-- ---- what happens at an open place later

-- where the value stands, and all later events are by those who compute it, there is no later event: in a legal history nobody claims a place where a value stands
abbrev pub StandingStays : Type 0
StandingStays =
    (run : RunView) (limits : Limits) (v : Given) (cell : ℕ) (h more : History) → IsLegal limits (h ++ more) → Stands run.meaning v ((state_after h).slots cell)
    → ((e : Event ℕ) → Contains more e → is_on nat_eq cell e.act ≡ true → Computes run v e.act) → IsQuiet cell more

-- where the value may stand, it may after events of those who compute it
abbrev pub ComputingKeepsNear : Type 0
ComputingKeepsNear =
    (run : RunView) (limits : Limits) (v : Given) (cell : ℕ) (h more : History) → IsLegal limits (h ++ more) → MayStand run.meaning v ((state_after h).slots cell)
    → ((e : Event ℕ) → Contains more e → is_on nat_eq cell e.act ≡ true → Computes run v e.act) → MayStand run.meaning v ((state_after (h ++ more)).slots cell)
