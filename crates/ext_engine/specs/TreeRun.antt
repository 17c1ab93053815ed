-- What a run of a tree of nodes leaves of its lanes, and the results that it gives (JUnit 5 User Guide, "Relative
-- Execution Order of User Code and Extensions" and "Parallel Execution"). Shares, lanes and dealings are not from
-- JUnit. `NodeRun` has what is done for one node alone; its names are passed on.
use Rattle.std.specs.Prelude.{◌≡◌, ◌⊎◌, ℕ, zero, suc, Bool, true, false, not, List, [], ◌∷◌, ◌++◌, length, map, min, filter, slice_index_or}
use Rattle.std.specs.List.{FoldsTo, flat_map}
use Rattle.ext_model.specs.declared.look.Fault.{Fault}
use Rattle.ext_lifecycle.specs.declared.outcome.Outcome.{Outcome}
use Rattle.ext_lifecycle.specs.Endings.{all_successful}
use Rattle.ext_lifecycle.specs.Lifecycle.{endings_of}
use Rattle.ext_lifecycle.specs.Results.{ResultOf}
use Rattle.ext_tree.specs.Trees.{IsPathOf, children_of}
use Rattle.ext_store.specs.Stores.{StoreLane}
use Rattle.ext_crew.specs.Dealing.{Share, RunByDealing}
use Rattle.ext_engine.specs.Suites.{SuiteView}
use Rattle.ext_engine.specs.Meeting.{Forks, Joins}
pub use Rattle.ext_engine.specs.NodeRun.{Ran, TreeSetting, setting_of, with_calls, Lanes, with_results, all_skipped, OnFirst, IsDisabled, ClosesNode, MakesOn, TestRun, CallsBefores, EndsContainer, TakesSet, GivesBack, IsIdle, IsUsable, IsNamedLock, IsRunnable, IsRefusedClose, IsUnjoined, IsFault}

-- ---- results

-- One result for each node, in order. Nodes that did not run are skipped.
abbrev pub all_results : SuiteView → ℕ → List Ran → List (ResultOf Fault)
all_results suite count ran = with_results (all_skipped suite count) ran

-- The same share with these lanes of the store.
abbrev pub with_lanes : {V : Type 0} → List (StoreLane V) → Lanes V → Lanes V
with_lanes lanes s = record { first = lanes; second = s.second }

-- ---- children

-- These nodes are run one after another, each with the whole share.
pub record RanInTurn {A B : Type 0} (Run : ℕ → Share A B → List Ran → Share A B → Type 0) (nodes : List ℕ)
    (before : Share A B) (ran : List Ran) (after : Share A B) : Type 0 where
  pub done : List (ℕ × List Ran)
  pub each : map (λ d. d.0) done ≡ nodes
  pub runs : FoldsTo (λ s d t. Run d.0 s d.1 t) before done after
  pub ran_are : ran ≡ flat_map (λ d. d.1) done

-- ---- the run of a node with those below it

module _ {V A : Type 0} (t : TreeSetting V A) where
  -- The children of a container that run beside one another.
  abbrev pub concurrent_children : ℕ → List ℕ
  concurrent_children node = filter t.suite.is_concurrent (children_of t.store.tree node)

  -- The other children.
  abbrev pub same_thread_children : ℕ → List ℕ
  same_thread_children node = filter (λ c. not (t.suite.is_concurrent c)) (children_of t.store.tree node)

  -- `Child` says what the run of a child does.
  module _ (Child : ℕ → Lanes V → List Ran → Lanes V → Type 0) where
    -- The body of a container. All lanes are shown what the first has seen. The concurrent children are dealt out, each
    -- with a share of the lanes. Once all have ended, the first lane is shown what all have seen. Then the other
    -- children run in order, each with all lanes.
    pub record BodyRun (node : ℕ) (before : Lanes V) (below : List Ran) (after : Lanes V) : Type 0 where
      pub forked : List (StoreLane V)
      pub forks : Forks t.store before.first forked
      pub beside : List (List Ran)
      pub between : Lanes V
      pub dealt : RunByDealing (λ i s ran u. Child (slice_index_or (concurrent_children node) i 0) s ran u)
          (length (concurrent_children node)) (min (length forked) (length (concurrent_children node)))
          (with_lanes forked before) beside between
      pub joined : List (StoreLane V)
      pub joins : Joins t.store between.first joined
      pub alone : List Ran
      pub in_turn : RanInTurn Child (same_thread_children node) (with_lanes joined between) alone after
      pub below_are : below ≡ flat_map (λ ran. ran) beside ++ alone

    -- The body is run if `go` is true. Otherwise nothing is done.
    pub record BodyMade (go : Bool) (node : ℕ) (before : Lanes V) (below : List Ran) (after : Lanes V) : Type 0 where
      pub made : go ≡ true → BodyRun node before below after
      pub skipped : go ≡ false → (below ≡ []) × (after ≡ before)

    -- A container: its before-callbacks, its body if all of them were successful, and what is done after it. It takes
    -- no lock.
    pub record ContainerRun (node : ℕ) (path : List ℕ) (before : Lanes V) (ran : List Ran) (after : Lanes V)
        : Type 0 where
      pub befores : List Outcome
      pub opened : List (StoreLane V)
      pub befores_made : CallsBefores t node path before.first befores opened
      pub body : Lanes V
      pub below : List Ran
      pub body_made : BodyMade (all_successful (endings_of befores)) node
          (record { first = opened; second = before.second }) below body
      pub own : Ran
      pub ends : EndsContainer t node path befores body.first own after.first
      pub no_locks : after.second ≡ body.second
      pub ran_are : ran ≡ own ∷ below

  -- A node and all nodes below it, down to `depth` levels, unless the suite leaves it out.
  abbrev pub TreeRun : ℕ → ℕ → Lanes V → List Ran → Lanes V → Type 0
  TreeRun zero node before ran after = ⊥
  TreeRun (suc depth) node before ran after =
      (path : List ℕ) × IsPathOf t.store.tree node path
      × (IsDisabled t node before ran after
      ⊎ ((t.suite.is_test node ≡ true → TestRun t node path before ran after)
      × (t.suite.is_test node ≡ false
      → ContainerRun (λ child s below u. TreeRun depth child s below u) node path before ran after)
      × t.enabled_gives node true))
