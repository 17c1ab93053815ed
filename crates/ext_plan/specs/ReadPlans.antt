-- What is true of each plan that was read, whatever its text (`IsReadPlan`), and how much of that a run needs
-- (`IsRunnablePlan`). Both stand at the end.
use Rattle.std.specs.Prelude.{◌≡◌, ◌≢◌, ◌≤◌, ◌<◌, ◌++◌, ◌%◌, ℕ, true, List, [], All, AllPairs, HoldsAt, IfSome, length, map}
use Rattle.ext_lifecycle.specs.declared.call.Kind.{Kind}
use Rattle.ext_model.specs.Sizes.{most_contexts}
use Rattle.ext_tree.specs.Trees.{children_of, Id, IsTree}
use Rattle.ext_plan.specs.Plans.{StepKeyText, label, named, StepText, NodeText, PlanText, callbacks_of}
use Rattle.ext_plan.specs.Labels.{is_word, labels_of}
use Rattle.ext_plan.specs.StoreKeys.{different_keys, HasParts}
use Rattle.ext_plan.specs.LockNames.{lock_names, lock_limit}
use Rattle.ext_plan.specs.Steps.{step_key, height, step_limit, callback_limit}

-- ---- nodes

-- The ids of the nodes, in order.
abbrev pub ids_of_nodes : List NodeText → List Id
ids_of_nodes nodes = map (λ node. node.id) nodes

-- The nodes form a tree.
abbrev pub NodesAreTree : PlanText → Type 0
NodesAreTree plan = IsTree (ids_of_nodes plan.nodes)

-- There are no more nodes than a plan of this size may have.
abbrev pub HasFewNodes : PlanText → Type 0
HasFewNodes plan = length plan.nodes ≤ most_contexts plan.size

-- No test has children.
abbrev pub TestsHaveNoChildren : PlanText → Type 0
TestsHaveNoChildren plan = (k : ℕ) → k < length plan.nodes
    → HoldsAt (λ node. IfSome node.test (λ _. children_of (ids_of_nodes plan.nodes) k ≡ [])) plan.nodes k

-- A test, which has no children, registers no callbacks before or after all of them.
pub record HasNoContainerCallbacks (node : NodeText) : Type 0 where
  pub before_all : node.before_all ≡ []
  pub after_all : node.after_all ≡ []

abbrev pub TestsHaveNoContainerCallbacks : PlanText → Type 0
TestsHaveNoContainerCallbacks plan = All (λ node. IfSome node.test (λ _. HasNoContainerCallbacks node)) plan.nodes

-- ---- steps

-- `P` holds of the steps of each callback of the node, and of those of its test.
pub record OfAllSteps (P : List StepText → Type 0) (node : NodeText) : Type 0 where
  pub callbacks : (kind : Kind) → All P (callbacks_of kind node)
  pub test : IfSome node.test P

-- A label is below this count. A name may be anything.
abbrev pub IsLabelBelow : ℕ → StepKeyText → Type 0
IsLabelBelow count (label number) = number < count
IsLabelBelow count (named name) = Unit {0}

-- If the step names a label, it is below this count.
abbrev pub NamesLabelBelow : ℕ → StepText → Type 0
NamesLabelBelow count step = IfSome (step_key step) (IsLabelBelow count)

-- Each label that a step names is one of the plan's.
abbrev pub StepsNameLabels : PlanText → Type 0
StepsNameLabels plan = All (OfAllSteps (All (NamesLabelBelow (length plan.keys)))) plan.nodes

-- No test and no callback has more steps than 32 bits can count.
abbrev pub StepListsAreShort : PlanText → Type 0
StepListsAreShort plan = All (OfAllSteps (λ steps. length steps ≤ step_limit)) plan.nodes

-- No node has more callbacks of a kind than the limit.
abbrev pub CallbacksAreFew : PlanText → Type 0
CallbacksAreFew plan = All (λ node. (kind : Kind) → length (callbacks_of kind node) ≤ callback_limit) plan.nodes

-- ---- how far up steps go

-- On a path of this many contexts no step goes up past the end.
abbrev pub StayOnPath : ℕ → List StepText → Type 0
StayOnPath count steps = All (λ step. height step < count) steps

-- Steps that run in the node's own context stay on its path, which has as many contexts as the id has segments.
pub record StaysOnOwnPath (node : NodeText) : Type 0 where
  pub test : IfSome node.test (StayOnPath (length node.id))
  pub before_all : All (StayOnPath (length node.id)) node.before_all
  pub after_all : All (StayOnPath (length node.id)) node.after_all

-- The second id is the first, or that of a node below it.
abbrev pub IsAtOrBelow : Id → Id → Type 0
IsAtOrBelow above id = (rest : Id) × (id ≡ above ++ rest)

-- What a node at or above the test runs in the test's context stays on the test's path.
pub record StaysOnPathOf (test node : NodeText) : Type 0 where
  pub before_each : IsAtOrBelow node.id test.id → All (StayOnPath (length test.id)) node.before_each
  pub after_each : IsAtOrBelow node.id test.id → All (StayOnPath (length test.id)) node.after_each

-- No step goes up past the root, wherever it runs. A test and callbacks before and after all run in their own node's
-- context; callbacks before and after each run in that of every test at or below their node.
pub record StepsStayBelowRoot (plan : PlanText) : Type 0 where
  pub own : All StaysOnOwnPath plan.nodes
  pub each : All (λ test. IfSome test.test (λ _. All (StaysOnPathOf test) plan.nodes)) plan.nodes

-- ---- keys and locks

-- Steps can name 32 to 1,024 different keys, in blocks of 32.
pub record HasKeyPlaces (plan : PlanText) : Type 0 where
  pub whole : plan.key_places % 32 ≡ 0
  pub some : 32 ≤ plan.key_places
  pub few : plan.key_places ≤ 1024

-- No more different keys are declared than steps can name.
abbrev pub HasFewKeys : PlanText → Type 0
HasFewKeys plan = length (different_keys plan.keys) ≤ plan.key_places

-- The locks have at most 63 different names.
abbrev pub HasFewLocks : PlanText → Type 0
HasFewLocks plan = length (lock_names plan.nodes) ≤ lock_limit

-- Each label is a word, and no two keys have the same one.
pub record HasOwnLabels (plan : PlanText) : Type 0 where
  pub words : All (λ label. is_word label ≡ true) (labels_of plan.keys)
  pub different : AllPairs (λ label other. label ≢ other) (labels_of plan.keys)

-- Each namespace that is given has a part.
abbrev pub NamespacesHaveParts : PlanText → Type 0
NamespacesHaveParts plan = All HasParts plan.keys

-- ---- all of it

-- What a run on several lanes needs of a plan: its nodes form a tree whose tests are leaves, its namespaces can be
-- created, and its counts fit.
pub record IsRunnablePlan (plan : PlanText) : Type 0 where
  pub tree : NodesAreTree plan
  pub tests : TestsHaveNoChildren plan
  pub locks : HasFewLocks plan
  pub places : HasKeyPlaces plan
  pub namespaces : NamespacesHaveParts plan
  pub short : StepListsAreShort plan
  pub few : CallbacksAreFew plan

-- What is true of each plan that was read: it can be run; there are no more nodes than a plan of its size may have;
-- there is a place for each key that is declared; each label is a word of its own; steps name only labels that are
-- declared; no step goes up past the root; and no test has callbacks before or after all.
pub record IsReadPlan (plan : PlanText) : Type 0 where
  pub runnable : IsRunnablePlan plan
  pub nodes : HasFewNodes plan
  pub different : HasFewKeys plan
  pub labels : HasOwnLabels plan
  pub keys : StepsNameLabels plan
  pub up : StepsStayBelowRoot plan
  pub containers : TestsHaveNoContainerCallbacks plan
