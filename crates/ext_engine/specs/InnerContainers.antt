-- What is in hand of a container between its before-callbacks and its end (JUnit 5 User Guide, "Relative Execution
-- Order of User Code and Extensions" and "Keeping State in Extensions"). What a run reports about a container is not
-- from JUnit.
use Rattle.std.specs.Prelude.{◌≡◌, ℕ, ◌<◌, ◌≤◌, ◌^◌, false, List, length, All, filter, map, not, [], vec_len, vec_capacity}
use Rattle.ext_lifecycle.specs.declared.call.Kind.{Kind}
use Rattle.ext_lifecycle.specs.declared.outcome.Outcome.{Outcome}
use Rattle.ext_lifecycle.specs.Callbacks.{afters_of}
use Rattle.ext_lifecycle.specs.Endings.{all_successful}
use Rattle.ext_lifecycle.specs.Lifecycle.{IsRoomy, endings_of, tally_of}
use Rattle.ext_tree.specs.Trees.{IsPathOf, children_of}
use Rattle.ext_store.specs.Stores.{StoreView, StoreLane, IsCloserOf}
use Rattle.ext_engine.specs.InnerClosers.{IsNode}
use Rattle.ext_engine.specs.NodeRun.{TreeSetting, CallsBefores}
use Rattle.ext_engine.specs.Suites.{SuiteView}
use Rattle.ext_engine.specs.declared.node.container.OpenContainer.{OpenContainer}
use Rattle.ext_engine.specs.declared.node.parts.Children.{Children}

-- The node's children in order, concurrent ones and others, each with the closers of its subtree; and an empty list
-- with room for the outcomes of those that run one after another.
pub record AreChildren (store : StoreView) (suite : SuiteView) (depth node : ℕ) (children : Children) : Type 0 where
  pub concurrent : map (λ i. i.node) children.beside.items ≡ filter suite.is_concurrent (children_of store.tree node)
  pub same_thread : map (λ i. i.node) children.in_turn.items
      ≡ filter (λ c. not (suite.is_concurrent c)) (children_of store.tree node)
  pub beside_below : All (IsNode store depth) children.beside.items
  pub in_turn_below : All (IsNode store depth) children.in_turn.items
  pub few : vec_len children.beside ≤ 65536
  pub none_yet : children.outcomes.items ≡ []
  pub room : vec_len children.in_turn ≤ vec_capacity children.outcomes

-- What is in hand of an open container: its closer, its after-callbacks, and a tally with room for them.
pub record IsOpen (store : StoreView) (node : ℕ) (begun : OpenContainer) : Type 0 where
  pub within : node < length store.tree
  pub closer_is : IsCloserOf store begun.closer
  pub context_is : begun.closer.context ≡ node
  pub room : IsRoomy (2 ^ 31) begun.tally
  pub few : vec_len begun.afters ≤ 16777216

-- The tally counts the outcomes of the container's before-callbacks, and the after-callbacks are those of a container
-- with this path.
pub record IsOpenBy (registered : Kind → ℕ → ℕ) (node : ℕ) (path : List ℕ) (befores : List Outcome)
    (begun : OpenContainer) : Type 0 where
  pub tally_is : begun.tally ≡ tally_of befores
  pub afters_are : begun.afters.items ≡ afters_of registered false node path
  pub went_on_is : begun.went_on ≡ all_successful (endings_of befores)

module _ {V A : Type 0} (t : TreeSetting V A) where
  -- The container's before-callbacks are called on the first lane, before its children run.
  pub record Opens (node : ℕ) (before : List (StoreLane V)) (begun : OpenContainer) (opened : List (StoreLane V))
      : Type 0 where
    pub path : List ℕ
    pub path_is : IsPathOf t.store.tree node path
    pub befores : List Outcome
    pub befores_made : CallsBefores t node path before befores opened
    pub begun_by : IsOpenBy t.registered node path befores begun
