-- What `run_leaves` opens, runs and answers. It is the run of a tree (`TreeRun`), over a store and locks that were
-- opened for it and on lanes that have made no step. Openings, lanes and limits are not from JUnit.
use Rattle.std.specs.Prelude.{◌≡◌, ◌*◌, List, [], length, map, IsPermutation}
use Rattle.ext_model.specs.declared.look.Fault.{Fault}
use Rattle.ext_model.specs.Sizes.{most_contexts}
use Rattle.ext_lifecycle.specs.Results.{ResultOf}
use Rattle.ext_tree.specs.Trees.{Id, IsTreeWithin}
use Rattle.ext_cells.specs.Lanes.{fresh_lanes}
use Rattle.ext_store.specs.declared.limits.Limits.{Limits}
use Rattle.ext_store.specs.Opening.{places_for}
use Rattle.ext_store.specs.Stores.{AreStoreLimits, StoreView, fresh_store_lane}
use Rattle.ext_locks.specs.Opening as locking
use Rattle.ext_locks.specs.Opening.{LocksView}
use Rattle.ext_engine.specs.declared.leaf_run.LeafFault.{LeafFault}
use Rattle.ext_engine.specs.declared.leaf_run.LeafFault.TheVariants as leaf_faults
use Rattle.ext_engine.specs.declared.node.fault.EngineFault.{EngineFault}
use Rattle.ext_engine.specs.Opening.{IsNotOpened}
use Rattle.ext_engine.specs.TreeRun.{Ran, Lanes, TreeSetting, TreeRun, all_results}
use Rattle.ext_engine.specs.Failing.{EndsEarly}

-- A store that was opened for these contexts with these limits.
pub record IsStoreFor (ids : List Id) (limits : Limits) (store : StoreView) : Type 0 where
  pub tree : store.tree ≡ ids
  pub limits_are : store.id.cells.limits
      ≡ record {
        cells = length ids * places_for limits.keys;
        lanes = limits.lanes;
        numbers = limits.numbers;
        keep_faults = limits.keep_faults;
      }
  pub keys : length store.id.keys ≡ places_for limits.keys
  pub tries : store.tries ≡ limits.tries
  pub few : IsTreeWithin (most_contexts limits.size) ids
  pub within : AreStoreLimits limits.size limits.keys limits.lanes limits.tries limits.numbers

-- The same, with locks that have no names and all lanes of both, which have made no step.
pub record IsFreshFor {V : Type 0} (ids : List Id) (limits : Limits) (store : StoreView) (locks : LocksView)
    (first : Lanes V) : Type 0 where
  pub store_is : IsStoreFor ids limits store
  pub no_names : IsPermutation [] locks.names
  pub tries : locks.tries ≡ limits.tries
  pub lanes : first.first ≡ map (fresh_store_lane store.id.slots store.id.fault_slots store.id.keys)
      (fresh_lanes store.id.cells 0 limits.lanes)
  pub lock_lanes : first.second ≡ locking.fresh_lanes locks.table limits.lanes limits.lanes

-- `setting` says what the suite does over a store with locks.
module _ {V A : Type 0} (setting : StoreView → LocksView → TreeSetting V A) where
  -- A run of the whole tree over this store, and its results.
  pub record IsLeafRun (ids : List Id) (limits : Limits) (store : StoreView) (results : List (ResultOf Fault))
      : Type 0 where
    pub locks : LocksView
    pub first : Lanes V
    pub opened : IsFreshFor ids limits store locks first
    pub ran : List Ran
    pub last : Lanes V
    pub run : TreeRun (setting store locks) 16 0 first ran last
    pub results_are : results ≡ all_results (setting store locks).suite (length store.tree) ran

  -- All was opened, and the run ended early.
  pub record EndsLeafRun (ids : List Id) (limits : Limits) (why : EngineFault) : Type 0 where
    pub store : StoreView
    pub locks : LocksView
    pub first : Lanes V
    pub opened : IsFreshFor ids limits store locks first
    pub last : Lanes V
    pub early : EndsEarly (setting store locks) 16 0 first why last

  -- Why there are no results.
  abbrev pub IsLeafFault : List Id → Limits → LeafFault → Type 0
  IsLeafFault ids limits (leaf_faults.Open why) = IsNotOpened ids [] limits why
  IsLeafFault ids limits (leaf_faults.Run why) = EndsLeafRun ids limits why
