-- Laws of runs of trees, each proved by `engine_laws`: which nodes ran, which were skipped, and what a run leaves of
-- its lanes (JUnit 5 User Guide, "Relative Execution Order of User Code and Extensions" and "Parallel Execution"). That
-- a node is skipped if one above it did not run its children is chosen here. Which nodes a suite leaves out it decides
-- during the run ("Conditional Test Execution").
use Rattle.std.specs.Prelude.{◌≡◌, ◌≢◌, ◌↔◌, ◌⊎◌, ℕ, ◌<◌, Bool, true, false, Some, List, length, map, All, AllPairs, Contains, slice_get}
use Rattle.std.specs.List.{range_with_len}
use Rattle.ext_model.specs.declared.look.Fault.{Fault}
use Rattle.ext_lifecycle.specs.declared.status.Status.TheVariants as statuses
use Rattle.ext_lifecycle.specs.Results.{ResultOf, skipped_result}
use Rattle.ext_tree.specs.Trees.{Id, IsTree, IsPathOf}
use Rattle.ext_store.specs.Stores.{StoreView}
use Rattle.ext_locks.specs.Opening.{LocksView}
use Rattle.ext_engine.specs.Suites.{SuiteView}
use Rattle.ext_engine.specs.TreeRun.{Ran, Lanes, TreeSetting, TreeRun, IsRunnable, IsUsable, all_results}

-- ---- nodes

-- The node is `top` or below it.
pub record IsAtOrBelow (ids : List Id) (top node : ℕ) : Type 0 where
  pub path : List ℕ
  pub path_is : IsPathOf ids node path
  pub on_path : Contains path top

-- The one node is an ancestor of the other, at or below `top`.
pub record IsBetween (ids : List Id) (top above node : ℕ) : Type 0 where
  pub within : IsAtOrBelow ids top above
  pub below : IsAtOrBelow ids above node
  pub other_node : above ≢ node

abbrev pub nodes_of : List Ran → List ℕ
nodes_of ran = map (λ r. r.result.node) ran

abbrev pub HasRun : List Ran → ℕ → Type 0
HasRun ran node = Contains (nodes_of ran) node

-- The run came to the node. `went_on` says whether the nodes below it were to run.
pub record RanAs (ran : List Ran) (node : ℕ) (went_on : Bool) : Type 0 where
  pub one : Ran
  pub among : Contains ran one
  pub node_is : one.result.node ≡ node
  pub on_is : one.went_on ≡ went_on

-- The run came to the node, and the suite left it out.
pub record IsLeftOut (suite : SuiteView) (enabled_gives : ℕ → Bool → Type 0) (ran : List Ran) (node : ℕ) : Type 0 where
  pub allowed : enabled_gives node false
  pub among : Contains ran (record { result = skipped_result node (suite.is_test node); went_on = false })

-- ---- what a run of the tree at `top` gives

-- Each node at or below `top` is at most once among those that ran, and no other node is.
pub record IsRunOnce (ids : List Id) (top : ℕ) (ran : List Ran) : Type 0 where
  pub once : AllPairs (λ a b. a ≢ b) (nodes_of ran)
  pub none_else : All (IsAtOrBelow ids top) (nodes_of ran)

-- The run came to a node exactly if each node above it ran and went on. It did not come to it exactly if one above it
-- did not go on.
pub record IsSkippedExactly (ids : List Id) (top : ℕ) (ran : List Ran) (node : ℕ) : Type 0 where
  pub runs : HasRun ran node ↔ ((above : ℕ) → IsBetween ids top above node → RanAs ran above true)
  pub skipped : (¬ HasRun ran node) ↔ ((above : ℕ) × IsBetween ids top above node × RanAs ran above false)

-- One result for each node, in order: that of its run if the run came to it, and `skipped` otherwise. A node to which
-- the run came is skipped exactly if the suite left it out, and of each other one the suite may answer that it is run.
pub record IsOneEach (suite : SuiteView) (enabled_gives : ℕ → Bool → Type 0) (count : ℕ) (ran : List Ran)
    (results : List (ResultOf Fault)) : Type 0 where
  pub nodes : map (λ r. r.node) results ≡ range_with_len 0 count
  pub tests : map (λ r. r.is_test) results ≡ map suite.is_test (range_with_len 0 count)
  pub of_run : (r : Ran) → Contains ran r → slice_get results r.result.node ≡ Some r.result
  pub of_skipped : (node : ℕ) → node < count → ¬ HasRun ran node
      → slice_get results node ≡ Some (skipped_result node (suite.is_test node))
  pub status : (node : ℕ) (result : ResultOf Fault) → slice_get results node ≡ Some result
      → (result.status ≡ statuses.Skipped) ↔ ((¬ HasRun ran node) ⊎ IsLeftOut suite enabled_gives ran node)
  pub enabled : (node : ℕ) (result : ResultOf Fault) → slice_get results node ≡ Some result
      → result.status ≢ statuses.Skipped → enabled_gives node true

-- ---- the laws

module _ {V A : Type 0} (t : TreeSetting V A) where
  -- A run of the tree at a node.
  pub record IsRun (top : ℕ) (before : Lanes V) (ran : List Ran) (after : Lanes V) : Type 0 where
    pub tree : IsTree t.store.tree
    pub runnable : IsRunnable t.store t.locks t.suite
    pub depth : ℕ
    pub run : TreeRun t depth top before ran after

  abbrev pub RunsOnce : Type 0
  RunsOnce = (top : ℕ) (before : Lanes V) (ran : List Ran) (after : Lanes V) → IsRun top before ran after
      → IsRunOnce t.store.tree top ran

  abbrev pub SkipsExactly : Type 0
  SkipsExactly = (top : ℕ) (before : Lanes V) (ran : List Ran) (after : Lanes V) → IsRun top before ran after
      → (node : ℕ) → IsAtOrBelow t.store.tree top node → IsSkippedExactly t.store.tree top ran node

  -- A run of the whole tree gives one result for each node.
  abbrev pub OneResultEach : Type 0
  OneResultEach = (before : Lanes V) (ran : List Ran) (after : Lanes V) → IsRun 0 before ran after
      → IsOneEach t.suite t.enabled_gives (length t.store.tree) ran (all_results t.suite (length t.store.tree) ran)

  -- In the results a node is skipped exactly if one above it did not run the nodes below it, or if the suite left it
  -- out.
  abbrev pub SkippedBelow : Type 0
  SkippedBelow = (before : Lanes V) (ran : List Ran) (after : Lanes V) → IsRun 0 before ran after
      → (node : ℕ) (result : ResultOf Fault)
      → slice_get (all_results t.suite (length t.store.tree) ran) node ≡ Some result
      → (result.status ≡ statuses.Skipped)
      ↔ (((above : ℕ) × IsBetween t.store.tree 0 above node × RanAs ran above false)
      ⊎ IsLeftOut t.suite t.enabled_gives ran node)

  -- A run leaves as many lanes of the store as there were, and as many lock lanes, which hold nothing.
  abbrev pub KeepsLanes : Type 0
  KeepsLanes = (top : ℕ) (before : Lanes V) (ran : List Ran) (after : Lanes V) → IsRun top before ran after
      → IsUsable t.store t.locks before → IsUsable t.store t.locks after × (length after.first ≡ length before.first)

-- The law holds of runs by each suite of a type, over any store and any locks.
abbrev pub OfRuns : {V S A : Type 0} → (S → StoreView → LocksView → TreeSetting V A) → (TreeSetting V A → Type 0)
    → Type 0
OfRuns {V} {S} {A} setting Law = (suite : S) (store : StoreView) (locks : LocksView) → Law (setting suite store locks)
