-- The run of a plan on several lanes: a store with the plan's contexts and locks with its names are opened, the tree of
-- its nodes is run over them, and then each lane meets the next. The engine's definitions follow the JUnit 5 User
-- Guide, "Parallel Execution", "Synchronization" and "Keeping State in Extensions". How many numbers and tries a run's
-- store has, and that lanes meet at its end, is not from JUnit.
use Rattle.std.specs.Prelude.{◌≡◌, ◌⊎◌, ℕ, true, List, length, map, Option, Result}
use Rattle.ext_model.specs.declared.look.Fault.{Fault}
use Rattle.ext_lifecycle.specs.declared.call.Call.{Call}
use Rattle.ext_lifecycle.specs.declared.outcome.Outcome.{Outcome}
use Rattle.ext_lifecycle.specs.Results.{ResultOf}
use Rattle.ext_plan.specs.Plans.{PlanText}
use Rattle.ext_plan.specs.PlanCalls.{registered}
use Rattle.ext_cells.specs.Lanes.{fresh_lanes}
use Rattle.ext_store.specs.Stores.{StoreView, fresh_store_lane}
use Rattle.ext_locks.specs.Opening as locking
use Rattle.ext_locks.specs.Opening.{LocksView}
use Rattle.ext_locks.specs.Sets.{HeldView}
use Rattle.ext_engine.specs.declared.node.fault.EngineFault.{EngineFault}
use Rattle.ext_engine.specs.declared.node.fault.EngineFault.TheVariants as faults
use Rattle.ext_engine.specs.Failing.{EndsEarly}
use Rattle.ext_engine.specs.TreeRun.{Lanes, Ran, TreeRun, TreeSetting, all_results}
use Rattle.ext_plan_parallel.specs.declared.steps.stored_value.StoredValue.{StoredValue}
use Rattle.ext_plan_parallel.specs.Opened.{IsStoreOf, IsLocksOf, PlaceKeysOfPlan, ShareHistory, ShareKeys}
use Rattle.ext_plan.specs.Values.{close_fault}
use Rattle.ext_plan_parallel.specs.StoreCalls.{PlanLane, stored_view}
use Rattle.ext_plan_parallel.specs.PlanActions.{AnswersClose}
use Rattle.ext_plan_parallel.specs.PlanSuites.{suite_of, RunsCall}

-- What a call of a node does, whatever locks it is lent.
abbrev pub MakesCall : PlanText → StoreView → ℕ → Call → Option HeldView → PlanLane → Outcome → PlanLane → Type 0
MakesCall plan store node call held before outcome after = RunsCall plan store node call before outcome after

-- Contracts see a close action as its node, and a node gets its own.
abbrev pub IsAction : ℕ → ℕ → Type 0
IsAction node action = action ≡ node

-- What a close action does with a value.
abbrev pub ClosesValue : ℕ → ℕ → StoredValue → Result (Unit {0}) Fault → ℕ → Type 0
ClosesValue action number value answer left = AnswersClose (close_fault (stored_view value)) answer × (left ≡ action)

-- The setting in which a plan's nodes are run.
abbrev pub setting_of_plan : PlanText → StoreView → LocksView → TreeSetting StoredValue ℕ
setting_of_plan plan store locks = record {
  store = store;
  locks = locks;
  suite = suite_of plan;
  enabled_gives = λ node answer. answer ≡ true;
  registered = registered plan;
  call_gives = MakesCall plan store;
  action_gives = IsAction;
  is_closeable = λ value. value.value.closeable;
  close_gives = ClosesValue;
}

-- A run of the plan on `lanes` lanes, and its results, in the order of the plan.
pub record ParallelRun (plan : PlanText) (lanes : ℕ) (results : List (ResultOf Fault)) : Type 0 where
  pub store : StoreView
  pub store_is : IsStoreOf plan lanes store
  pub locks : LocksView
  pub locks_are : IsLocksOf plan lanes locks
  -- The lanes have seen nothing before the run.
  pub first : Lanes StoredValue
  pub fresh : first.first ≡ map (fresh_store_lane store.id.slots store.id.fault_slots store.id.keys)
      (fresh_lanes store.id.cells 0 lanes)
  pub fresh_locks : first.second ≡ locking.fresh_lanes locks.table lanes lanes
  -- The run of the tree, and its results.
  pub ran : List Ran
  pub after : Lanes StoredValue
  pub run : TreeRun (setting_of_plan plan store locks) 16 0 first ran after
  pub results_are : results ≡ all_results (suite_of plan) (length plan.nodes) ran
  -- What all lanes have seen is one history in which each made exactly its own events, and what two of them know of a
  -- number is the same.
  pub shared : ShareHistory store after.first
  -- A key that two of them know has one number in both.
  pub numbered : ShareKeys after.first
  -- None of them put a key at a place that no step of the plan names.
  pub placed : PlaceKeysOfPlan plan after.first

-- ---- refusals

-- A run of the plan's tree over this store and these locks ended early, for this fault. The lanes that it left have
-- seen one history and number keys alike.
pub record EndsOver (plan : PlanText) (store : StoreView) (locks : LocksView) (first : Lanes StoredValue)
    (why : EngineFault) : Type 0 where
  pub after : Lanes StoredValue
  pub early : EndsEarly (setting_of_plan plan store locks) 16 0 first why after
  pub shared : ShareHistory store after.first
  pub numbered : ShareKeys after.first

-- A run of the plan on `lanes` lanes ended early, over the store and the locks opened for it and on fresh lanes.
pub record ParallelEndsEarly (plan : PlanText) (lanes : ℕ) (why : EngineFault) : Type 0 where
  pub store : StoreView
  pub store_is : IsStoreOf plan lanes store
  pub locks : LocksView
  pub locks_are : IsLocksOf plan lanes locks
  pub first : Lanes StoredValue
  pub fresh : first.first ≡ map (fresh_store_lane store.id.slots store.id.fault_slots store.id.keys)
      (fresh_lanes store.id.cells 0 lanes)
  pub fresh_locks : first.second ≡ locking.fresh_lanes locks.table lanes lanes
  pub ends : EndsOver plan store locks first why

-- Why a run gives no results: it ended early, or memory was refused. Memory may be refused for its suite, its locks or
-- its store, and then nothing more is said.
abbrev pub IsRefusedRun : PlanText → ℕ → EngineFault → Type 0
IsRefusedRun plan lanes why = (why ≡ faults.Memory) ⊎ ParallelEndsEarly plan lanes why
