-- Runs of nodes that compute the same values as nodes beside them: on several lanes and in the plain run the same is told of each node but for who computed such a value and who found it.
-- JUnit 5 User Guide, "Parallel Execution"; Javadoc `ExtensionContext.Store`, `getOrComputeIfAbsent`.
use Rattle.std.specs.Prelude.{◌≡◌, ℕ, ◌+◌, ◌<◌, true, false, List, length, All, Contains, Some, drop, is_some, slice_get}
use mathlib.Core.List.{IsPrefix}
use Rattle.ext_model.specs.declared.event.Event.{Event}
use Rattle.ext_model.specs.Events.{place_of}
use Rattle.ext_model.specs.History.{History, IsLegal}
use Rattle.ext_one_report.proofs.Numbers.{enough_numbers}
use Rattle.ext_tree.specs.Keys.{KeyValue}
use Rattle.ext_tree.specs.Trees.{IsPathOf}
use Rattle.ext_lifecycle.specs.FaultTexts.{NodeOutcome, fault_text}
use Rattle.ext_lifecycle.specs.Results.{map_fault}
use Rattle.ext_locks.specs.Opening.{LocksView}
use Rattle.ext_plan.specs.Plans.{PlanText}
use Rattle.ext_plan.specs.PlanCalls.{test_of}
use Rattle.ext_plan.specs.ReadPlans.{IsReadPlan, ids_of_nodes}
use Rattle.ext_races.specs.MadeSteps.{plan_path}
use Rattle.ext_one_report.specs.Alone.{IsSeenMeanwhile}
use Rattle.ext_one_report.specs.Changing.{IsBelow, NodesChangeOnly}
use Rattle.ext_engine.specs.RunLaws.{HasRun}
use Rattle.ext_engine.specs.Meeting.{HasSeenWithin, first_seen}
use Rattle.ext_engine.specs.Order.{ChildRun, IsMadeIn}
use Rattle.ext_engine.specs.TreeRun.{Lanes, Ran, TestRun}
use Rattle.ext_plan_parallel.specs.declared.steps.stored_value.StoredValue.{StoredValue}
use Rattle.ext_plan_parallel.specs.StoreCalls.{PlanLane}
use Rattle.ext_plan_plain.specs.PlainRun.{RunState, node_run, test_node_run}
use Rattle.ext_one_report.proofs.MatchingWords.{HasNumberIn, IsRunView, Places, RunView, cell_of, plain_slot}
use Rattle.ext_one_report.proofs.StepsWords.{IsLaneIn}
use Rattle.ext_one_report.proofs.ComputedAbove.{IsClosedAbove}
use Rattle.ext_one_report.proofs.Covers.{AreCovered}
use Rattle.ext_races.specs.OneReports.{ClosesAgreeBeside}
use Rattle.ext_one_report.proofs.Fills.{Fills, IsFilledIn, computed_of, computed_told}
use Rattle.ext_one_report.proofs.LanesApart.{AreApart}
use Rattle.ext_one_report.proofs.Open.{AreNear, Computes, Given, Open, also, is_left, still_open}
use Rattle.ext_one_report.proofs.OpenSteps.{StandsInBoth}
use Rattle.ext_one_report.proofs.Orders.{Orders}
use Rattle.ext_one_report.proofs.SharedFresh.{IsFresh}
use Rattle.ext_one_report.specs.Within.{is_within}
use Rattle.ext_one_report.proofs.Shared.{AreShared, unshared, SharesAbove}
use Rattle.ext_one_report.proofs.FullRuns.{setting_in}
use Rattle.ext_one_report.proofs.Levels.{AreLevel, HoldsOnce, outside}

-- ---- what is seen at places while a node runs

-- each event at these places that is seen meanwhile was made by these lanes between the two states
pub record AreOwn (run : RunView) (h : History) (places : Places) (before after : List PlanLane) : Type 0 where
  pub own : (context number place : ℕ) (key : KeyValue) (event : Event ℕ) → places context key ≡ true → HasNumberIn run key number → IsSeenMeanwhile place before after
      → slice_get h place ≡ Some event → place_of event.act ≡ Some (cell_of run number context) → IsMadeIn h place before after

-- each event at the open places that is seen meanwhile, by whomever, computes the value of the place
pub record AreComputed (run : RunView) (h : History) (open_at : Open) (before after : List PlanLane) : Type 0 where
  pub computed : (context number place : ℕ) (key : KeyValue) (v : Given) (event : Event ℕ) → open_at context key ≡ Some v → HasNumberIn run key number → IsSeenMeanwhile place before after
      → slice_get h place ≡ Some event → place_of event.act ≡ Some (cell_of run number context) → Computes run v event.act

-- none of these lanes made an event between the two states at an open place, but where it is settled, or where nothing is kept
pub record AreUntouched (run : RunView) (h : History) (open_at : Open) (settled : Places) (before after : List PlanLane) : Type 0 where
  pub none : (context number place : ℕ) (key : KeyValue) (v : Given) (event : Event ℕ) → open_at context key ≡ Some v → settled context key ≡ false → is_left v ≡ true → HasNumberIn run key number
      → slice_get h place ≡ Some event → place_of event.act ≡ Some (cell_of run number context) → IsMadeIn h place before after → ⊥

-- ---- what a run is compared by

-- What a comparison stands on: a plan that was read, in which closes of nodes beside one another agree; which places its nodes touch, may change and share, and which cells they change; and a view
-- of a run whose history is this
pub record IsSharedBasis (plan : PlanText) (run : RunView) (locks : LocksView) (h : History) (touched changes : ℕ → Places) (changed : ℕ → List ℕ) (shares : ℕ → Open) : Type 0 where
  pub read : IsReadPlan plan
  pub closes : ClosesAgreeBeside plan
  pub tree : run.store.tree ≡ ids_of_nodes plan.nodes
  pub view : IsRunView run
  pub covered : AreCovered plan touched changes
  pub shared : AreShared plan run touched changes shares
  -- nodes change these cells only, and each such cell of a key is at a place that the node changes
  pub only : NodesChangeOnly (setting_in plan run locks) changed
  pub at_places : (node context number : ℕ) (key : KeyValue) → HasNumberIn run key number → context < length plan.nodes → IsBelow (setting_in plan run locks) changed node (cell_of run number context)
      → changes node context key ≡ true
  pub once : (g : History) → IsPrefix g h → HoldsOnce run g
  pub legal : IsLegal run.store.id.cells.limits h
  pub keeps : run.store.id.cells.limits.keep_faults ≡ plan.keep_faults

-- ---- what is told

-- The results of a node are the same, except for which values it computed and which it found; and these are the same, too, where that is so
pub record AreNearWhere (Exact : Type 0) (here there : NodeOutcome) : Type 0 where
  pub same : record here { computed = 0; found = 0 } ≡ record there { computed = 0; found = 0 }
  pub counts : here.computed + here.found ≡ there.computed + there.found
  pub exact : Exact → here ≡ there

pub record AllResultsNear (Exact : ℕ → Type 0) (ran : List Ran) (before after : List NodeOutcome) : Type 0 where
  pub count : length after ≡ length before
  pub each : (one : Ran) → Contains ran one → (told : NodeOutcome) × (slice_get after one.result.node ≡ Some told) × AreNearWhere (Exact one.result.node) (map_fault fault_text one.result) told
  pub others : (node : ℕ) → ¬ HasRun ran node → slice_get after node ≡ slice_get before node

-- ---- laws

module _ (plan : PlanText) (run : RunView) (locks : LocksView) (h : History) (touched changes : ℕ → Places) (changed : ℕ → List ℕ) (shares : ℕ → Open) where
  -- A node with those below it has run on the lanes between these states, with these results, and in the plain run: at all places that are settled the value stands in both; at
  -- those that are open still neither run of the node did anything; at all others that it touches outside the same stands; and near the same is told
  pub record EndsNear (node : ℕ) (open_at : Open) (before : Lanes StoredValue) (ran : List Ran) (after : Lanes StoredValue) (r s : RunState) : Type 0 where
    pub settled : Places
    pub were_open : (context : ℕ) (key : KeyValue) → settled context key ≡ true → (v : Given) × (open_at context key ≡ Some v)
    pub level : AreLevel plan run (outside plan node (also settled (unshared (touched node) open_at))) (first_seen after.first) s.state
    pub near : AreNear run (still_open settled open_at) (first_seen after.first) s.state
    pub stand : (context : ℕ) (key : KeyValue) (v : Given) → settled context key ≡ true → open_at context key ≡ Some v → StandsInBoth run v context key (first_seen after.first) s.state
    pub unchanged : (context : ℕ) (key : KeyValue) (v : Given) → settled context key ≡ false → open_at context key ≡ Some v → plain_slot s.state context key ≡ plain_slot r.state context key
    pub untouched : AreUntouched run h open_at settled before.first after.first
    pub told : AllResultsNear (SharesAbove plan shares) ran r.results s.results
    -- but for what each run filled itself at open places, both computed as many values
    pub fills : Fills (IsFilledIn run h before.first after.first) open_at (still_open settled open_at) r.state (computed_of ran) (computed_told ran s.results)
    -- at all places that it touches in other contexts, and that were not open when it began, both runs give numbers in one order
    pub orders : Orders run (outside plan node (unshared (touched node) open_at)) (first_seen before.first) (first_seen after.first) r.state s.state

  -- what is so of a node's run before it, where these of the places that it shares are open
  pub record BeginsNear (node : ℕ) (open_at : Open) (before : Lanes StoredValue) (after : Lanes StoredValue) (r : RunState) : Type 0 where
    pub within : All (HasSeenWithin h) after.first
    pub lanes : All (IsLaneIn run) after.first
    pub apart : AreApart after.first
    pub open_is : (context : ℕ) (key : KeyValue) (v : Given) → open_at context key ≡ Some v → shares node context key ≡ Some v
    pub own : AreOwn run h (unshared (touched node) open_at) before.first after.first
    pub computed : AreComputed run h open_at before.first after.first
    pub level : AreLevel plan run (unshared (touched node) open_at) (first_seen before.first) r.state
    pub near : AreNear run open_at (first_seen before.first) r.state
    -- what was computed above it is not open, and stands in the plain run
    pub closed : IsClosedAbove plan (drop 1 (plan_path plan node)) open_at r.state
    pub results : length r.results ≡ length plan.nodes
    -- nothing stands in its context and in those below it
    pub fresh : (context : ℕ) → context < length plan.nodes → is_within plan node context ≡ true → IsFresh context r.state

  -- a test ends so,
  abbrev pub TestsEndNear : Type 0
  TestsEndNear =
      (node : ℕ) (path : List ℕ) (open_at : Open) (before : Lanes StoredValue) (ran : List Ran) (after : Lanes StoredValue) (r : RunState)
      → IsSharedBasis plan run locks h touched changes changed shares → IsPathOf run.store.tree node path → is_some (test_of plan node) ≡ true
      → TestRun (setting_in plan run locks) node path before ran after → BeginsNear node open_at before after r → (test_node_run plan node path r).state.store.drawn < enough_numbers plan.size
      → EndsNear node open_at before ran after r (test_node_run plan node path r)

  -- and so does each node with all nodes below it
  abbrev pub NodesEndNear : Type 0
  NodesEndNear =
      (depth levels node : ℕ) (path : List ℕ) (open_at : Open) (before : Lanes StoredValue) (ran : List Ran) (after : Lanes StoredValue) (r : RunState)
      → IsSharedBasis plan run locks h touched changes changed shares → IsPathOf run.store.tree node path → length plan.nodes < levels + length path
      → ChildRun (setting_in plan run locks) depth node before ran after → BeginsNear node open_at before after r → (node_run plan levels path r).state.store.drawn < enough_numbers plan.size
      → EndsNear node open_at before ran after r (node_run plan levels path r)
