-- The steps of a call, the calls of a node and all calls of a test, where some of them compute values at open places: on a lane, and in a plain run.
-- JUnit 5 User Guide, "Relative Execution Order of User Code and Extensions"; Javadoc `ExtensionContext.Store`, `getOrComputeIfAbsent`.
use Rattle.std.specs.Prelude.{ℕ, ◌≡◌, ◌≢◌, ◌≤◌, ◌+◌, ◌⊎◌, ◌++◌, true, false, nat_eq, List, [], ◌∷◌, All, Contains, Some, length, map, drop}
use Rattle.std.specs.List.{flat_map}
use Rattle.ext_history.specs.Histories.{seen_by}
use Rattle.ext_model.specs.declared.event.Event.{Event}
use Rattle.ext_model.specs.Events.{is_on}
use Rattle.ext_model.specs.History.{History}
use Rattle.ext_tree.specs.Keys.{KeyValue}
use Rattle.ext_tree.specs.Trees.{IsPathOf}
use Rattle.ext_lifecycle.specs.declared.call.Call.{Call}
use Rattle.ext_lifecycle.specs.declared.outcome.Outcome.{Outcome}
use Rattle.ext_lifecycle.specs.Callbacks.{test_call}
use Rattle.ext_lifecycle.specs.Endings.{all_successful, with_fault}
use Rattle.ext_lifecycle.specs.FaultTexts.{fault_text}
use Rattle.ext_lifecycle.specs.Lifecycle.{MakesAll, MakesBefores, computed_in, endings_of, found_in}
use Rattle.ext_plan.specs.Plans.{KeyText, PlanText, StepKeyText, StepText}
use Rattle.ext_plan.specs.PlanCalls.{steps_of_call}
use Rattle.ext_plan.specs.ReadPlans.{StayOnPath}
use Rattle.ext_plan.specs.StepCalls.{start_of}
use Rattle.ext_plan.specs.StoreKeys.{key_of_step}
use Rattle.ext_plan_plain.specs.ValueStates.{ValueState}
use Rattle.ext_plan_plain.specs.NodeCalls.{CallsEnd, call_run, make_all, make_befores, no_calls}
use Rattle.ext_plan_parallel.specs.StoreCalls.{PlanLane}
use Rattle.ext_one_report.proofs.PlanCells.{changed_by}
use Rattle.ext_one_report.proofs.CallListsWords.{BeforesHaveRoom, CallsFind, CallsHaveRoom, Makes}
use Rattle.ext_one_report.proofs.CallsWords.{StepWithin}
use Rattle.ext_one_report.proofs.MatchingWords.{HasNumberIn, IsNumbered, Matches, Places, RunView, cell_of, plain_slot}
use Rattle.ext_one_report.proofs.TestCallsWords.{MakesTest, TestFinds, TestHasRoom, afters_round, befores_round, plain_test}
use Rattle.ext_one_report.proofs.Orders.{Orders}
use Rattle.ext_one_report.proofs.Fills.{Fills, IsFilledBy}
use Rattle.ext_one_report.proofs.Open.{AreNear, ComputesOpen, FailsOpen, Given, Open, also, is_left, place_of_step, still_open}
use Rattle.ext_one_report.proofs.OpenSteps.{AreBesideOpen, StandsInBoth}

-- ---- which steps may be made

-- the step changes no place above an open one
abbrev pub LeavesAbove : RunView → List KeyText → List ℕ → Open → StepText → Type 0
LeavesAbove run keys path open_at step =
    (key : StepKeyText) (up context : ℕ) (v : Given) (above : List ℕ) → changed_by step ≡ Some (key, up) → open_at context (key_of_step keys key) ≡ Some v → IsPathOf run.store.tree context (context ∷ above)
    → Contains above (start_of (drop up path)) → ⊥

-- Steps one by one: what a step touches is among the places, and is above no open one where it changes it; or it computes what is left at an open place, which is one of the places for the steps behind it;
-- or its factory fails at an open place where nothing is kept
abbrev pub StepsFit : RunView → List KeyText → List ℕ → Places → Open → List StepText → Type 0
StepsFit run keys path places open_at [] = Unit {0}
StepsFit run keys path places open_at (step ∷ more) =
    (StepWithin keys path places step × LeavesAbove run keys path open_at step × StepsFit run keys path places open_at more)
    ⊎ (ComputesOpen keys path open_at step × StepsFit run keys path (also (place_of_step keys path step) places) (still_open (place_of_step keys path step) open_at) more)
    ⊎ (FailsOpen keys path open_at step × StepsFit run keys path places open_at more)

abbrev pub CallFitsOpen : RunView → PlanText → List ℕ → Places → Open → Call → Type 0
CallFitsOpen run plan path places open_at call = StayOnPath (length path) (steps_of_call plan call) × StepsFit run plan.keys path places open_at (steps_of_call plan call)

-- none of the steps computes the value of an open place
pub record NoneOpen (keys : List KeyText) (path : List ℕ) (open_at : Open) (steps : List StepText) : Type 0 where
  pub none : (step : StepText) → Contains steps step → ComputesOpen keys path open_at step → ⊥

-- of the open places these are settled, and so are all whose values the steps compute
pub record AreSettled (keys : List KeyText) (path : List ℕ) (open_at : Open) (settled : Places) (steps : List StepText) : Type 0 where
  pub were_open : (context : ℕ) (key : KeyValue) → settled context key ≡ true → (v : Given) × (open_at context key ≡ Some v)
  pub none_left : NoneOpen keys path (still_open settled open_at) steps

-- Calls that are made up to the first that is not successful: each fits where all is settled that those before it compute
abbrev pub BeforesFit : RunView → PlanText → List ℕ → Places → Open → List Call → Type 0
BeforesFit run plan path places open_at [] = Unit {0}
BeforesFit run plan path places open_at (call ∷ calls) =
    CallFitsOpen run plan path places open_at call
    × ((settled : Places) → AreSettled plan.keys path open_at settled (steps_of_call plan call) → BeforesFit run plan path (also settled places) (still_open settled open_at) calls)

-- and so does a call that is made where all of them are successful
abbrev pub FitsBehind : RunView → PlanText → List ℕ → Places → Open → List Call → Call → Type 0
FitsBehind run plan path places open_at befores call =
    (settled : Places) → AreSettled plan.keys path open_at settled (flat_map (steps_of_call plan) befores) → CallFitsOpen run plan path (also settled places) (still_open settled open_at) call

-- ---- how calls end

-- What steps or calls between two moments have left: at some open places, which are settled, the same value or fault stands in both runs; the others they have not touched, but to fail where nothing is kept
pub record LeavesNear (run : RunView) (places : Places) (open_at : Open) (before : PlanLane) (s : ValueState) (after : PlanLane) (t : ValueState) : Type 0 where
  pub settled : Places
  pub matches : Matches run (also settled places) (seen_by after.cells.view) t
  pub numbered : IsNumbered (also settled places) t
  pub near : AreNear run (still_open settled open_at) (seen_by after.cells.view) t
  pub were_open : (context : ℕ) (key : KeyValue) → settled context key ≡ true → (v : Given) × (open_at context key ≡ Some v)
  -- their keys have numbers on the lanes, so that what stands there goes on to be compared
  pub named : (context : ℕ) (key : KeyValue) → settled context key ≡ true → (number : ℕ) × HasNumberIn run key number
  pub stand : (context : ℕ) (key : KeyValue) (v : Given) → settled context key ≡ true → open_at context key ≡ Some v → StandsInBoth run v context key (seen_by after.cells.view) t
  pub unchanged : (context : ℕ) (key : KeyValue) (v : Given) → settled context key ≡ false → open_at context key ≡ Some v → plain_slot t context key ≡ plain_slot s context key
  pub untouched : (context : ℕ) (key : KeyValue) (number : ℕ) (v : Given) → settled context key ≡ false → open_at context key ≡ Some v → is_left v ≡ true → HasNumberIn run key number
      → (more : History) → seen_by after.cells.view ≡ seen_by before.cells.view ++ more → (e : Event ℕ) → Contains more e → is_on nat_eq (cell_of run number context) e.act ≡ true → e.lane ≢ before.cells.view.number
  pub rises : s.store.drawn ≤ t.store.drawn
  -- at the places where the same stood both runs give numbers in one order
  pub orders : Orders run places (seen_by before.cells.view) (seen_by after.cells.view) s t

-- all calls so far, that had these outcomes, say the same as those of the plain run, and together have computed and found as many values
pub record CallsNear (outcomes : List Outcome) (end : CallsEnd) : Type 0 where
  pub says : map (with_fault fault_text) (endings_of outcomes) ≡ end.calls
  pub counts : computed_in outcomes + found_in outcomes ≡ end.computed + end.found

-- calls of a node that are all made, after others that ended so
abbrev pub AllCallsEndNear : Type 0
AllCallsEndNear =
    (run : RunView) (plan : PlanText) (node : ℕ) (path : List ℕ) (places : Places) (open_at : Open) (calls : List Call) (done : List Outcome)
    (before : PlanLane) (outcomes : List Outcome) (after : PlanLane) (end : CallsEnd)
    → IsPathOf run.store.tree node path → CallsNear done end → AreBesideOpen run path places open_at before after end.state → All (CallFitsOpen run plan path places open_at) calls → CallsFind plan calls outcomes
    → CallsHaveRoom plan path calls end.state → MakesAll (Makes plan run.store node) calls before outcomes after
    → CallsNear (done ++ outcomes) (make_all (call_run plan path) calls end)
    × (left : LeavesNear run places open_at before end.state after (make_all (call_run plan path) calls end).state)
    × (plain : ℕ) × ((make_all (call_run plan path) calls end).computed ≡ end.computed + plain)
    × Fills (IsFilledBy run before after) open_at (still_open left.settled open_at) end.state (computed_in outcomes) plain

-- and calls that are made up to the first that is not successful; where all are successful all whose values they compute are settled
abbrev pub BeforesEndNear : Type 0
BeforesEndNear =
    (run : RunView) (plan : PlanText) (node : ℕ) (path : List ℕ) (places : Places) (open_at : Open) (calls : List Call)
    (before : PlanLane) (outcomes : List Outcome) (after : PlanLane) (s : ValueState)
    → IsPathOf run.store.tree node path → AreBesideOpen run path places open_at before after s → BeforesFit run plan path places open_at calls → CallsFind plan calls outcomes
    → BeforesHaveRoom plan path calls s → MakesBefores (Makes plan run.store node) calls before outcomes after
    → CallsNear outcomes (make_befores (call_run plan path) calls (no_calls s))
    × (left : LeavesNear run places open_at before s after (make_befores (call_run plan path) calls (no_calls s)).state)
    × (all_successful (make_befores (call_run plan path) calls (no_calls s)).calls ≡ true → NoneOpen plan.keys path (still_open left.settled open_at) (flat_map (steps_of_call plan) calls))
    × Fills (IsFilledBy run before after) open_at (still_open left.settled open_at) s (computed_in outcomes) (make_befores (call_run plan path) calls (no_calls s)).computed

-- all calls of a test
abbrev pub TestEndsNear : Type 0
TestEndsNear =
    (run : RunView) (plan : PlanText) (node : ℕ) (path : List ℕ) (places : Places) (open_at : Open) (before : PlanLane) (outcomes : List Outcome) (after : PlanLane) (s : ValueState)
    → IsPathOf run.store.tree node path → AreBesideOpen run path places open_at before after s
    → BeforesFit run plan path places open_at (befores_round plan node path) → FitsBehind run plan path places open_at (befores_round plan node path) (test_call node)
    → All (CallFitsOpen run plan path places open_at) (afters_round plan node path) → TestHasRoom plan node path s
    → (made : MakesTest plan node path run.store before outcomes after) → TestFinds plan node path run.store before outcomes after made
    → CallsNear outcomes (plain_test plan node path s) × (left : LeavesNear run places open_at before s after (plain_test plan node path s).state)
    × Fills (IsFilledBy run before after) open_at (still_open left.settled open_at) s (computed_in outcomes) (plain_test plan node path s).computed
