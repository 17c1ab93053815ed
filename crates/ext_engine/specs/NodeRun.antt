-- How one node is run: the locks of a test, its calls and its close; what the run reports about it; and why a run does
-- not reach its end (JUnit 5 User Guide, "Relative Execution Order of User Code and Extensions", "Synchronization" and
-- "Keeping State in Extensions"). Lanes, shares and what is reported about a node are not from JUnit.
use Rattle.std.specs.Prelude.{◌≡◌, ℕ, ◌<◌, ◌≤◌, Bool, true, false, Option, None, Some, List, [], ◌∷◌, ◌++◌, length, map, All, Ok, slice_set}
use Rattle.std.specs.List.{range_with_len}
use Rattle.ext_model.specs.declared.look.Fault.{Fault}
use Rattle.ext_lifecycle.specs.declared.call.Call.{Call}
use Rattle.ext_lifecycle.specs.declared.call.Kind.{Kind}
use Rattle.ext_lifecycle.specs.declared.outcome.Outcome.{Outcome}
use Rattle.ext_lifecycle.specs.Callbacks.{befores_of, afters_of, test_call}
use Rattle.ext_lifecycle.specs.Endings.{all_successful}
use Rattle.ext_lifecycle.specs.Lifecycle.{MakesAll, MakesBefores, MakesCalls, computed_in, endings_of, found_in}
use Rattle.ext_lifecycle.specs.Results.{ResultOf, result_of, skipped_result}
use Rattle.ext_tree.specs.Trees.{children_of}
use Rattle.ext_store.specs.Stores.{StoreView, StoreLane, CloserView, IsLaneOf, IsCloserOf}
use Rattle.ext_model.specs.declared.closed.Closed.{Closed}
use Rattle.ext_closing.specs.Closing.{Answer, fault_in}
use Rattle.ext_closing.specs.Closes.{Closes, IsLeftUnjoined}
use Rattle.ext_locks.specs.declared.event.LockMode.{LockMode}
use Rattle.ext_locks.specs.Opening.{LocksView}
use Rattle.ext_locks.specs.Views.{Lane}
use Rattle.ext_locks.specs.Sets.{HeldView}
use Rattle.ext_crew.specs.Dealing.{Share}
use Rattle.ext_engine.specs.declared.node.fault.EngineFault.{EngineFault}
use Rattle.ext_engine.specs.declared.node.fault.EngineFault.TheVariants as faults
use Rattle.ext_engine.specs.Suites.{SuiteView, locks_on, IsSetOf}
pub use Rattle.ext_engine.specs.Taking.{IsNamedLock, IsIdle, TakesSet, GivesBack}

-- ---- results

-- A node that the run came to, its result, and whether the nodes below it were run; of a test that ran it is true.
pub record Ran : Type 0 where
  pub result : ResultOf Fault
  pub went_on : Bool

-- The results, where each node that ran has its own.
abbrev pub with_results : List (ResultOf Fault) → List Ran → List (ResultOf Fault)
with_results results [] = results
with_results results (r ∷ rs) = with_results (slice_set results r.result.node r.result) rs

-- Before any node ran, each is skipped.
abbrev pub all_skipped : SuiteView → ℕ → List (ResultOf Fault)
all_skipped suite count = map (λ node. skipped_result node (suite.is_test node)) (range_with_len 0 count)

-- ---- what a run goes over

-- What a run of a tree is about: the store, the locks, and what the suite says of its nodes.
pub record TreeSetting (V A : Type 0) : Type 1 where
  pub store : StoreView
  pub locks : LocksView
  pub suite : SuiteView
  -- What the suite may answer to whether a node is to be run.
  pub enabled_gives : ℕ → Bool → Type 0
  -- How many callbacks of a kind a node has.
  pub registered : Kind → ℕ → ℕ
  -- What a call does: the node, the call, the locks it is lent, the lane before it, its outcome, the lane after it.
  pub call_gives : ℕ → Call → Option HeldView → StoreLane V → Outcome → StoreLane V → Type 0
  -- The close actions that a node may be given, which values are closeable, and what a call of an action does.
  pub action_gives : ℕ → A → Type 0
  pub is_closeable : V → Bool
  pub close_gives : A → ℕ → V → Answer → A → Type 0

-- The setting for one suite of a type, from what is said of all suites of the type.
module _ {V S A : Type 0} (is_closeable : V → Bool) (suite_view : S → SuiteView) (enabled_gives : S → ℕ → Bool → Type 0)
    (registered : S → Kind → ℕ → ℕ)
    (call_gives : S → StoreView → ℕ → Call → Option HeldView → StoreLane V → Outcome → StoreLane V → Type 0)
    (action_gives : S → ℕ → A → Type 0) (close_gives : A → ℕ → V → Answer → A → Type 0) where
  abbrev pub setting_of : S → StoreView → LocksView → TreeSetting V A
  setting_of suite store locks = record {
    store = store;
    locks = locks;
    suite = suite_view suite;
    enabled_gives = enabled_gives suite;
    registered = registered suite;
    call_gives = call_gives suite store;
    action_gives = action_gives suite;
    is_closeable = is_closeable;
    close_gives = close_gives;
  }

-- The setting with other calls.
abbrev pub with_calls : {V A : Type 0} → (ℕ → Call → Option HeldView → StoreLane V → Outcome → StoreLane V → Type 0)
    → TreeSetting V A → TreeSetting V A
with_calls calls t = record {
  store = t.store;
  locks = t.locks;
  suite = t.suite;
  enabled_gives = t.enabled_gives;
  registered = t.registered;
  call_gives = calls;
  action_gives = t.action_gives;
  is_closeable = t.is_closeable;
  close_gives = t.close_gives;
}

-- Lanes of the store, and as many lanes of the locks.
abbrev pub Lanes : Type 0 → Type 0
Lanes V = Share (StoreLane V) Lane

-- ---- shares

-- The first of the lanes changes like this, and no other.
pub record OnFirst {X : Type 0} (R : X → X → Type 0) (before after : List X) : Type 0 where
  pub lane : X
  pub left : X
  pub rest : List X
  pub first_was : before ≡ lane ∷ rest
  pub change : R lane left
  pub first_is : after ≡ left ∷ rest

-- ---- the run of a node

module _ {V A : Type 0} (t : TreeSetting V A) where
  -- The node's context is closed with an action of the node, by one close or by several of which only the last was not
  -- refused. `faults` says how the closes of its values ended, in order.
  pub record ClosesNode (node : ℕ) (before : List (StoreLane V)) (faults : List (Option Fault))
      (after : List (StoreLane V)) : Type 0 where
    pub closer : CloserView
    pub closer_is : IsCloserOf t.store closer
    pub context_is : closer.context ≡ node
    pub action : A
    pub action_is : t.action_gives node action
    pub action_left : A
    pub closed : Closed
    pub closes : Closes t.is_closeable t.close_gives t.store closer before action (Ok closed) after action_left
    pub faults_are : faults ≡ map fault_in closes.closes.answers

  -- What a call of the node does to a lane, with the locks that it is lent.
  abbrev pub MakesOn : ℕ → Option HeldView → StoreLane V → Call → Outcome → StoreLane V → Type 0
  MakesOn node held before call outcome after = t.call_gives node call held before outcome after

  -- A test: the first lock lane takes its locks, all its calls are lent them, its context is closed with all lanes in
  -- hand, and the same lock lane gives the locks back.
  pub record TestRun (node : ℕ) (path : List ℕ) (before : Lanes V) (ran : List Ran) (after : Lanes V) : Type 0 where
    pub set : List (ℕ × LockMode)
    pub set_is : IsSetOf t.locks.names (locks_on t.suite path) set
    pub held : HeldView
    pub locked : List Lane
    pub takes : OnFirst (λ a b. TakesSet t.locks set a held b) before.second locked
    pub outcomes : List Outcome
    pub called : List (StoreLane V)
    pub calls : OnFirst (λ a b. MakesCalls (MakesOn node (Some held)) (befores_of t.registered true node path)
        (test_call node) (afters_of t.registered true node path) a outcomes b) before.first called
    pub faults : List (Option Fault)
    pub closes : ClosesNode node called faults after.first
    pub given_back : OnFirst (GivesBack held) locked after.second
    pub ran_is : ran ≡ record {
      result =
          result_of node true (endings_of outcomes) (computed_in outcomes) (found_in outcomes) faults;
      went_on = true;
    }
        ∷ []

  -- A node that the suite leaves out: nothing is done, and it is skipped with all nodes below it.
  pub record IsDisabled (node : ℕ) (before : Lanes V) (ran : List Ran) (after : Lanes V) : Type 0 where
    pub allowed : t.enabled_gives node false
    pub some_lane : 0 < length before.first
    pub ran_is : ran ≡ record { result = skipped_result node (t.suite.is_test node); went_on = false } ∷ []
    pub untouched : after ≡ before

  -- A container before its children: its before-callbacks are called on the first lane, up to the first that isn't
  -- successful.
  abbrev pub CallsBefores : ℕ → List ℕ → List (StoreLane V) → List Outcome → List (StoreLane V) → Type 0
  CallsBefores node path before befores opened =
      OnFirst (λ a b. MakesBefores (MakesOn node None) (befores_of t.registered false node path) a befores b) before
      opened

  -- A container after its children: all its after-callbacks are called on the first lane, its context is closed with
  -- all lanes in hand, and this is its result.
  pub record EndsContainer (node : ℕ) (path : List ℕ) (befores : List Outcome) (before : List (StoreLane V)) (own : Ran)
      (after : List (StoreLane V)) : Type 0 where
    pub afters : List Outcome
    pub called : List (StoreLane V)
    pub afters_made : OnFirst (λ a b. MakesAll (MakesOn node None) (afters_of t.registered false node path) a afters b)
        before called
    pub faults : List (Option Fault)
    pub closes : ClosesNode node called faults after
    pub own_is : own ≡ record {
      result = result_of node false (endings_of (befores ++ afters)) (computed_in (befores ++ afters))
          (found_in (befores ++ afters)) faults;
      went_on = all_successful (endings_of befores);
    }

-- ---- conditions

-- 1 to 32 lanes, all of the store, and as many lock lanes, all of these locks, that hold nothing.
pub record IsUsable {V : Type 0} (store : StoreView) (locks : LocksView) (s : Lanes V) : Type 0 where
  pub some : 0 < length s.first
  pub same : length s.second ≡ length s.first
  pub few : length s.first ≤ 32
  pub lanes : All (IsLaneOf store.id) s.first
  pub idle : All (IsIdle locks) s.second

-- The nodes of a suite can be run over this store with these locks: the locks have every name that a node asks for, and
-- no node is below a test.
pub record IsRunnable (store : StoreView) (locks : LocksView) (suite : SuiteView) : Type 0 where
  pub names : (node : ℕ) → node < length store.tree
      → All (λ asked. IsNamedLock locks.names asked.name) (suite.locks node)
  pub below : (node : ℕ) → node < length store.tree → suite.is_test node ≡ true → children_of store.tree node ≡ []

-- ---- faults

module _ {V A : Type 0} (t : TreeSetting V A) where
  -- A close of this context was refused and left these lanes. The number remained in the context, and none of the lanes
  -- knows its value.
  pub record IsRefusedClose (context number : ℕ) (after : List (StoreLane V)) : Type 0 where
    pub closer : CloserView
    pub closer_is : IsCloserOf t.store closer
    pub context_is : closer.context ≡ context
    pub action : A
    pub action_is : t.action_gives context action
    pub before : List (StoreLane V)
    pub own_lanes : All (IsLaneOf t.store.id) before
    pub refused : IsLeftUnjoined t.store closer before number after

  -- The same for some lanes.
  abbrev pub IsUnjoined : ℕ → ℕ → Type 0
  IsUnjoined context number = (after : List (StoreLane V)) × IsRefusedClose context number after

  -- Why a tree is not run to its end: memory ran out, or a context could not be closed.
  abbrev pub IsFault : EngineFault → Type 0
  IsFault faults.Memory = Unit {0}
  IsFault faults.NoThread = ⊥
  IsFault (faults.Unjoined context number) = IsUnjoined context number
