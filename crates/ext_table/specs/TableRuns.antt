-- What a run of a table opens, runs and answers. It is the run of a tree (`TreeRun` of ext_engine), over a store and
-- locks that were opened for it and on lanes that have made no step. Openings, lanes and limits are not from JUnit.
use Rattle.std.specs.Prelude.{◌≡◌, ℕ, true, List, length, map, IsPermutation, Result}
use Rattle.ext_model.specs.declared.look.Fault.{Fault}
use Rattle.ext_lifecycle.specs.Results.{ResultOf}
use Rattle.ext_tree.specs.Trees.{Id}
use Rattle.ext_cells.specs.Lanes.{fresh_lanes}
use Rattle.ext_store.specs.declared.limits.Limits.{Limits}
use Rattle.ext_store.specs.Stores.{StoreLane, StoreView, fresh_store_lane}
use Rattle.ext_locks.specs.Opening as locking
use Rattle.ext_locks.specs.Opening.{LocksView}
use Rattle.ext_engine.specs.declared.node.fault.EngineFault.{EngineFault}
use Rattle.ext_engine.specs.Failing.{EndsEarly}
use Rattle.ext_engine.specs.LeafRuns.{IsStoreFor}
use Rattle.ext_engine.specs.Opening.{IsNotOpened}
use Rattle.ext_engine.specs.TreeRun.{Ran, Lanes, TreeSetting, TreeRun, all_results}
use Rattle.ext_table.specs.Stops.{IsClosed}
use Rattle.ext_table.specs.TableCalls.{TableCall}
use Rattle.ext_table.specs.Tables.{GivesEnabled, registered_in, table_view}
use Rattle.ext_table.specs.declared.engine.Kept.{Kept}
use Rattle.ext_table.specs.declared.row.Row.{Row}
use Rattle.ext_table.specs.declared.stop.Stop.{Stop}
use Rattle.ext_table.specs.declared.suite.Closing.{Closing}
use Rattle.ext_table.specs.declared.table_run.RunFault.{RunFault}
use Rattle.ext_table.specs.declared.table_run.RunFault.TheVariants as run_faults

-- ---- the setting

-- What the suite of these rows does over a store with locks, where the table has locks of these names. `Gives` says what
-- the engine's tests and callbacks answer, `Makes` what it makes, `Moves` what its tests do to their lanes, and `Closes`
-- what an engine's closes answer.
module _ {E L T S : Type 0} (engine : E) (Gives : T → List S → Result (Unit {0}) Stop → Type 0)
    (Makes : T → List S → Result S Stop → Type 0) (Moves : ℕ → StoreLane (Kept S) → StoreLane (Kept S) → Type 0)
    (Closes : E → S → Result (Unit {0}) Stop → Type 0) (rows : List (Row T)) (names : List (List ℕ)) (attempts : ℕ) (stop_after : ℕ) where
  abbrev pub table_setting : StoreView → LocksView → TreeSetting (Kept S) (Closing E L)
  table_setting store locks = record {
    store = store;
    locks = locks;
    suite = table_view rows names store.tree;
    enabled_gives = λ node answer. GivesEnabled rows stop_after node answer;
    registered = λ kind node. registered_in rows kind node;
    call_gives = λ node call held before outcome after.
        TableCall Gives Makes Moves rows attempts store node call before outcome after;
    action_gives = λ node action. action.engine.now ≡ engine;
    is_closeable = λ value. true;
    close_gives = λ before number kept closed after. (after ≡ before) × IsClosed (Closes before.engine.now kept.0) closed;
  }

-- ---- the run

-- A store that was opened for these contexts with these limits, and locks of these names, with all lanes of both, which
-- have made no step.
pub record IsOpenedFor {V : Type 0} (ids : List Id) (names : List (List ℕ)) (limits : Limits) (store : StoreView)
    (locks : LocksView) (first : Lanes V) : Type 0 where
  pub store_is : IsStoreFor ids limits store
  pub names_are : IsPermutation names locks.names
  pub tries : locks.tries ≡ limits.tries
  pub lanes : first.first ≡ map (fresh_store_lane store.id.slots store.id.fault_slots store.id.keys)
      (fresh_lanes store.id.cells 0 limits.lanes)
  pub lock_lanes : first.second ≡ locking.fresh_lanes locks.table limits.lanes limits.lanes

-- `setting` says what the suite does over a store with locks.
module _ {V A : Type 0} (setting : StoreView → LocksView → TreeSetting V A) (ids : List Id) (names : List (List ℕ))
    (limits : Limits) where
  -- A run of the whole tree over this store, and its results.
  pub record IsTableRun (store : StoreView) (results : List (ResultOf Fault)) : Type 0 where
    pub locks : LocksView
    pub first : Lanes V
    pub opened : IsOpenedFor ids names limits store locks first
    pub ran : List Ran
    pub last : Lanes V
    pub run : TreeRun (setting store locks) 16 0 first ran last
    pub results_are : results ≡ all_results (setting store locks).suite (length store.tree) ran

  -- All was opened, and the run ended early.
  pub record EndsTableRun (why : EngineFault) : Type 0 where
    pub store : StoreView
    pub locks : LocksView
    pub first : Lanes V
    pub opened : IsOpenedFor ids names limits store locks first
    pub last : Lanes V
    pub early : EndsEarly (setting store locks) 16 0 first why last

  -- Why there are no results. Of want of memory before the opening no more is said.
  abbrev pub IsTableFault : RunFault → Type 0
  IsTableFault run_faults.Memory = Unit {0}
  IsTableFault (run_faults.Open why) = IsNotOpened ids names limits why
  IsTableFault (run_faults.Run why) = EndsTableRun why
