-- What a run asks of a plan: which nodes are tests, which may run beside their siblings, which are isolated, which
-- locks they name, how many callbacks they registered, and which steps a call of a node makes. All of it is defined for
-- any number: a node that the plan does not have is a container that names and registers nothing.
-- The calls are those of `Callbacks` in ext_lifecycle (JUnit 5 User Guide, "Relative Execution Order of User Code and
-- Extensions", "Parallel Execution" and "Synchronization"). That callbacks are lists of steps is not from JUnit.
use Rattle.std.specs.Prelude.{ℕ, Bool, false, List, [], length, Option, Some, None, slice_get}
use Rattle.std.specs.List.{slice_index_or}
use Rattle.ext_lifecycle.specs.declared.call.Call.{Call}
use Rattle.ext_lifecycle.specs.declared.call.Kind.{Kind}
use Rattle.ext_lifecycle.specs.declared.call.Kind.TheVariants as kinds
use Rattle.ext_lifecycle.specs.Modes.{is_concurrent}
use Rattle.ext_plan.specs.Plans.{StepText, LockText, NodeText, PlanText, callbacks_of}

-- ---- the steps of a call

-- The callbacks of this kind, if the node is there.
abbrev pub callbacks_in : Kind → Option NodeText → List (List StepText)
callbacks_in kind None = []
callbacks_in kind (Some node) = callbacks_of kind node

-- The steps of the node, if it is a test.
abbrev pub test_in : Option NodeText → Option (List StepText)
test_in None = None
test_in (Some node) = node.test

abbrev pub or_no_steps : Option (List StepText) → List StepText
or_no_steps None = []
or_no_steps (Some steps) = steps

-- The steps of a callback with this kind and index, or of a test.
abbrev pub steps_called : Kind → ℕ → Option NodeText → List StepText
steps_called kinds.BeforeAll index node = slice_index_or (callbacks_in kinds.BeforeAll node) index []
steps_called kinds.BeforeEach index node = slice_index_or (callbacks_in kinds.BeforeEach node) index []
steps_called kinds.Test index node = or_no_steps (test_in node)
steps_called kinds.AfterEach index node = slice_index_or (callbacks_in kinds.AfterEach node) index []
steps_called kinds.AfterAll index node = slice_index_or (callbacks_in kinds.AfterAll node) index []

module _ (plan : PlanText) where
  -- The steps of the node, if it is a test.
  abbrev pub test_of : ℕ → Option (List StepText)
  test_of at = test_in (slice_get plan.nodes at)

  -- How many callbacks of this kind the node registered.
  abbrev pub registered : Kind → ℕ → ℕ
  registered kind node = length (callbacks_in kind (slice_get plan.nodes node))

  abbrev pub steps_of_call : Call → List StepText
  steps_of_call call = steps_called call.kind call.index (slice_get plan.nodes call.from)

-- ---- how a node is run beside others

abbrev pub concurrent_in : Option NodeText → Bool
concurrent_in None = false
concurrent_in (Some node) = is_concurrent node.mode

abbrev pub isolated_in : Option NodeText → Bool
isolated_in None = false
isolated_in (Some node) = node.isolated

abbrev pub locks_in : Option NodeText → List LockText
locks_in None = []
locks_in (Some node) = node.locks

module _ (plan : PlanText) where
  -- The node may run beside its siblings.
  abbrev pub concurrent_of : ℕ → Bool
  concurrent_of at = concurrent_in (slice_get plan.nodes at)

  -- No other test may run beside one at or below the node.
  abbrev pub isolated_of : ℕ → Bool
  isolated_of at = isolated_in (slice_get plan.nodes at)

  -- The locks that the node names.
  abbrev pub locks_of : ℕ → List LockText
  locks_of at = locks_in (slice_get plan.nodes at)
