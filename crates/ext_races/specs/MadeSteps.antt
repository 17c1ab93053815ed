-- The steps that a run of a plan may make, each with the node in whose context it runs: for each node its callbacks
-- before, its test and its callbacks after, in order. The callbacks around a test are those before and after each test,
-- of all nodes on its path. The calls are those of `Callbacks` in ext_lifecycle (JUnit 5 User Guide, "Relative
-- Execution Order of User Code and Extensions"). After a step that fails a run may leave out others.
--
-- Each step has the steps of its node that are sure to have succeeded when it runs. A call ends with its first step
-- that doesn't succeed. The callbacks before end with the first that isn't successful, and the body runs only if all
-- of them were: so when one of these calls is made, all steps of those before it have succeeded. Each callback after
-- runs whatever the others came to (`MakesCalls` in ext_lifecycle), so only its own steps count for it.
use Rattle.std.specs.Prelude.{ℕ, zero, suc, List, [], ◌∷◌, ◌++◌, length, Option, Some, None, is_some}
use Rattle.std.specs.List.{flat_map, position, range_with_len}
use Rattle.ext_ids.specs.Ids.{is_parent}
use Rattle.ext_tree.specs.Trees.{Id, id_at}
use Rattle.ext_lifecycle.specs.declared.call.Call.{Call}
use Rattle.ext_lifecycle.specs.Callbacks.{afters_of, befores_of, test_call}
use Rattle.ext_plan.specs.Plans.{StepText, PlanText}
use Rattle.ext_plan.specs.PlanCalls.{registered, steps_of_call, test_of}
use Rattle.ext_plan.specs.ReadPlans.{ids_of_nodes}

-- ---- the path of a node

-- The node whose id is this node's without its last segment.
abbrev pub parent_in : List Id → ℕ → Option ℕ
parent_in ids node = position (λ id. is_parent id (id_at ids node)) ids

abbrev pub path_above : (ℕ → List ℕ) → Option ℕ → List ℕ
path_above path None = []
path_above path (Some parent) = path parent

-- The node, its parent, and so on towards the root, but no more contexts than this.
unfoldable pub path_from : List Id → ℕ → ℕ → List ℕ
path_from ids zero node = []
path_from ids (suc more) node = node ∷ path_above (path_from ids more) (parent_in ids node)

-- The whole path of a node. It has no more contexts than the tree.
abbrev pub path_of : List Id → ℕ → List ℕ
path_of ids node = path_from ids (length ids) node

-- ---- the steps

-- A step, and those steps of its node that have succeeded when it runs.
pub record MadeText : Type 0 where
  pub node : ℕ
  pub step : StepText
  pub before : List StepText

abbrev pub made_by : ℕ → List StepText → StepText → MadeText
made_by node before step = record { node = node; step = step; before = before }

-- These steps of a call, after the ones in `before`.
abbrev pub made_after : ℕ → List StepText → List StepText → List MadeText
made_after node before [] = []
made_after node before (step ∷ more) = made_by node before step ∷ made_after node (before ++ step ∷ []) more

module _ (plan : PlanText) where
  abbrev pub plan_path : ℕ → List ℕ
  plan_path node = path_of (ids_of_nodes plan.nodes) node

  -- The callbacks before the body of a node.
  abbrev pub calls_before : ℕ → List Call
  calls_before node = befores_of (registered plan) (is_some (test_of plan node)) node (plan_path node)

  -- Those after it.
  abbrev pub calls_after : ℕ → List Call
  calls_after node = afters_of (registered plan) (is_some (test_of plan node)) node (plan_path node)

  -- The steps of the callbacks before the body of a node.
  abbrev pub steps_before : ℕ → List StepText
  steps_before node = flat_map (steps_of_call plan) (calls_before node)

  -- The calls of a node. The body of a container has no steps.
  abbrev pub calls_of : ℕ → List Call
  calls_of node = calls_before node ++ test_call node ∷ [] ++ calls_after node

  -- The steps of calls of which each is made only if those before it were successful, after the steps in `before`.
  abbrev pub made_in_turn : ℕ → List StepText → List Call → List MadeText
  made_in_turn node before [] = []
  made_in_turn node before (call ∷ more) = made_after node before (steps_of_call plan call)
      ++ made_in_turn node (before ++ steps_of_call plan call) more

  -- The steps of a node: those up to the end of its body, and those of each callback after it.
  abbrev pub made_of_node : ℕ → List MadeText
  made_of_node node = made_in_turn node [] (calls_before node ++ test_call node ∷ [])
      ++ flat_map (λ call. made_after node [] (steps_of_call plan call)) (calls_after node)

  -- The steps of all nodes.
  abbrev pub steps_made : List MadeText
  steps_made = flat_map made_of_node (range_with_len 0 (length plan.nodes))
