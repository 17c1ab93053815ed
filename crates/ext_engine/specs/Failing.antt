-- How the run of a node and those below it ends early: what was done until then, on which lanes, and why it did not go
-- on. Memory can be refused only before anything of a node is done, or before any of its concurrent children begins. If
-- several children are refused, the run reports the first in order. `NodeFailing` has what concerns one node alone; its
-- names are passed on.
-- The order of calls is that of the JUnit 5 User Guide, "Relative Execution Order of User Code and Extensions",
-- "Parallel Execution" and "Keeping State in Extensions". How a run ends early is not from JUnit.
use Rattle.std.specs.Prelude.{◌≡◌, ◌≢◌, ◌⊎◌, ℕ, zero, suc, Bool, true, false, List, [], ◌∷◌, ◌++◌, length, min, Result, Ok, Err, slice_index_or}
use Rattle.ext_lifecycle.specs.declared.outcome.Outcome.{Outcome}
use Rattle.ext_lifecycle.specs.Endings.{all_successful}
use Rattle.ext_lifecycle.specs.Lifecycle.{endings_of}
use Rattle.ext_tree.specs.Trees.{IsPathOf}
use Rattle.ext_store.specs.Stores.{StoreLane}
use Rattle.ext_closing.specs.Lanes.{IsUnknown}
use Rattle.ext_crew.specs.Dealing.{RunByDealing}
use Rattle.ext_engine.specs.declared.node.fault.EngineFault.{EngineFault}
use Rattle.ext_engine.specs.declared.node.fault.EngineFault.TheVariants as faults
use Rattle.ext_engine.specs.Meeting.{Forks, Joins}
use Rattle.ext_engine.specs.TreeRun.{Ran, TreeSetting, Lanes, CallsBefores, IsRefusedClose, IsFault, TreeRun, BodyMade, RanInTurn, concurrent_children, same_thread_children, with_lanes}
pub use Rattle.ext_engine.specs.NodeFailing.{IsFirstRefusal, IsLeftOpen, IsLeftUnclosed, IsNotBegun, LeavesOpen, TestEndsEarly}

-- ---- children

-- `Child` says what the run of a child does that reaches its end, and `Early` what one does that ends early.
module _ {V : Type 0} (Child : ℕ → Lanes V → List Ran → Lanes V → Type 0)
    (Early : ℕ → Lanes V → EngineFault → Lanes V → Type 0) where
  -- A child was run to its end, or ended early.
  abbrev pub EndsAs : ℕ → Lanes V → Result (List Ran) EngineFault → Lanes V → Type 0
  EndsAs node before (Ok ran) after = Child node before ran after
  EndsAs node before (Err why) after = Early node before why after

  -- All of these children were run beside one another. Some ended early, and the run reports the first of them.
  pub record EndsBeside (nodes : List ℕ) (before : Lanes V) (why : EngineFault) (after : Lanes V) : Type 0 where
    pub outcomes : List (Result (List Ran) EngineFault)
    pub dealt : RunByDealing (λ i s outcome u. EndsAs (slice_index_or nodes i 0) s outcome u) (length nodes)
        (min (length before.first) (length nodes)) before outcomes after
    pub told : IsFirstRefusal outcomes why

  -- These children were run one after another, each with the whole share, up to one that ended early. The rest were not
  -- run.
  pub record EndsInTurn (nodes : List ℕ) (before : Lanes V) (why : EngineFault) (after : Lanes V) : Type 0 where
    pub done : List ℕ
    pub ran : List Ran
    pub reached : Lanes V
    pub in_turn : RanInTurn Child done before ran reached
    pub child : ℕ
    pub ends : Early child reached why after
    pub rest : List ℕ
    pub nodes_are : nodes ≡ done ++ child ∷ rest

-- ---- containers

-- There was no memory for the workers of a container's concurrent children. None of its children was run.
pub record HasNoWorkers {V A : Type 0} (t : TreeSetting V A) (node : ℕ) (before : Lanes V) (why : EngineFault)
    (after : Lanes V) : Type 0 where
  pub some_beside : concurrent_children t node ≢ []
  pub told : why ≡ faults.Memory
  pub untouched : after ≡ before

module _ {V A : Type 0} (t : TreeSetting V A) (Child : ℕ → Lanes V → List Ran → Lanes V → Type 0)
    (Early : ℕ → Lanes V → EngineFault → Lanes V → Type 0) where
  -- The container's concurrent children reached their ends, and the first lane was shown what all have seen. Then one
  -- of the other children ended early.
  pub record EndsBehind (node : ℕ) (before : Lanes V) (why : EngineFault) (after : Lanes V) : Type 0 where
    pub beside : List (List Ran)
    pub between : Lanes V
    pub dealt : RunByDealing (λ i s ran u. Child (slice_index_or (concurrent_children t node) i 0) s ran u)
        (length (concurrent_children t node)) (min (length before.first) (length (concurrent_children t node))) before
        beside between
    pub joined : List (StoreLane V)
    pub joins : Joins t.store between.first joined
    pub in_turn : EndsInTurn Child Early (same_thread_children t node) (with_lanes joined between) why after

  -- The body of a container ended early: all lanes were shown what the first has seen, and then one of these happened.
  pub record BodyEndsEarly (node : ℕ) (before : Lanes V) (why : EngineFault) (after : Lanes V) : Type 0 where
    pub forked : List (StoreLane V)
    pub forks : Forks t.store before.first forked
    pub ends : HasNoWorkers t node (with_lanes forked before) why after
        ⊎ (EndsBeside Child Early (concurrent_children t node) (with_lanes forked before) why after
        ⊎ EndsBehind node (with_lanes forked before) why after)

  -- The container's body was run if it had to be, all its after-callbacks were made, and its context could not be
  -- closed.
  pub record EndsUnclosed (node : ℕ) (path : List ℕ) (go : Bool) (before : Lanes V) (why : EngineFault)
      (after : Lanes V) : Type 0 where
    pub body : Lanes V
    pub below : List Ran
    pub body_made : BodyMade t Child go node before below body
    pub unclosed : IsLeftUnclosed t node path body.first why after.first
    pub no_locks : after.second ≡ body.second

  -- A container's before-callbacks were made. Then its body ended early, with no after-callback and no close; or its
  -- context could not be closed.
  pub record ContainerEndsEarly (node : ℕ) (path : List ℕ) (before : Lanes V) (why : EngineFault) (after : Lanes V)
      : Type 0 where
    pub befores : List Outcome
    pub opened : List (StoreLane V)
    pub befores_made : CallsBefores t node path before.first befores opened
    pub ends : ((all_successful (endings_of befores) ≡ true) × BodyEndsEarly node (with_lanes opened before) why after)
        ⊎ EndsUnclosed node path (all_successful (endings_of befores)) (with_lanes opened before) why after

-- ---- nodes

module _ {V A : Type 0} (t : TreeSetting V A) where
  -- The run of a node and of those below it, down to `depth` levels, ended early.
  abbrev pub EndsEarly : ℕ → ℕ → Lanes V → EngineFault → Lanes V → Type 0
  EndsEarly zero node before why after = IsNotBegun before why after
  EndsEarly (suc depth) node before why after =
      IsNotBegun before why after
      ⊎ ((path : List ℕ) × IsPathOf t.store.tree node path
      × (t.suite.is_test node ≡ true → TestEndsEarly t node path before why after)
      × (t.suite.is_test node ≡ false
      → ContainerEndsEarly t (λ child s below u. TreeRun t depth child s below u)
      (λ child s y u. EndsEarly depth child s y u) node path before why after))

  -- ---- laws

  -- A run ends early only for lack of memory, or because a context could not be closed.
  abbrev pub EndsByFault : Type 0
  EndsByFault = (depth node : ℕ) (before : Lanes V) (why : EngineFault) (after : Lanes V)
      → EndsEarly depth node before why after → IsFault t why

  -- If no node runs beside others, no lane of the run knows the value of the number that the fault names.
  abbrev pub UnknownToAll : Type 0
  UnknownToAll = (depth top : ℕ) (before : Lanes V) (context number : ℕ) (after : Lanes V)
      → ((node : ℕ) → t.suite.is_concurrent node ≡ false)
      → EndsEarly depth top before (faults.Unjoined context number) after → IsRefusedClose t context number after.first
      × IsUnknown after.first number
