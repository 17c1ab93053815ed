-- Which nodes of a plain run are skipped: in which state each node begins, and whether it goes on to its body (JUnit 5
-- User Guide, "Relative Execution Order of User Code and Extensions"). That all nodes below a skipped body are skipped
-- is not from JUnit.
use Rattle.std.specs.Prelude.{◌≡◌, ◌⊎◌, ◌↔◌, ℕ, ◌-◌, Bool, false, List, [], ◌∷◌, fold, length, nat_eq, slice_get, IsSomeAnd, if◌then◌else◌}
use Rattle.ext_tree.specs.Trees.{IsPathOf, children_of}
use Rattle.ext_lifecycle.specs.declared.status.Status.TheVariants as statuses
use Rattle.ext_lifecycle.specs.FaultTexts.{NodeOutcome}
use Rattle.ext_lifecycle.specs.Modes.{in_run_order}
use Rattle.ext_plan.specs.Plans.{PlanText}
use Rattle.ext_plan.specs.PlanCalls.{concurrent_of}
use Rattle.ext_plan.specs.ReadPlans.{ids_of_nodes, NodesAreTree, TestsHaveNoChildren}
use Rattle.ext_plan_plain.specs.ValueStates.{Memory}
use Rattle.ext_plan_plain.specs.NodeCalls.{befores_run}
use Rattle.ext_plan_plain.specs.PlainRun.{RunState, node_run, plain_run_by, run_opening}
use Rattle.ext_plan_plain.specs.PlainRunLaws.{goes_on}

-- The nodes before this one.
abbrev pub before_node : ℕ → List ℕ → List ℕ
before_node at [] = []
before_node at (other ∷ more) = if nat_eq other at then [] else other ∷ before_node at more

module _ (memory : List Memory) (plan : PlanText) where
  -- The children of a container, in the order in which a single lane runs them.
  abbrev pub ordered : ℕ → List ℕ
  ordered at = in_run_order (concurrent_of plan) (children_of (ids_of_nodes plan.nodes) at)

  -- How many levels are left below the node with this path.
  abbrev pub levels_left : List ℕ → ℕ
  levels_left path = length plan.nodes - length path

  -- The run after the before-callbacks of the container with this path.
  abbrev pub opened : ℕ → List ℕ → RunState → RunState
  opened at path run = record { state = (befores_run plan false at path run.state).state; results = run.results }

  -- The run when the node with this path begins: its parent began, called its before-callbacks, and ran the children
  -- that come before the node.
  abbrev pub begins : List ℕ → RunState
  begins [] = run_opening memory plan
  begins (at ∷ []) = run_opening memory plan
  begins (child ∷ at ∷ above) =
      fold (λ run other. node_run plan (levels_left (at ∷ above)) (other ∷ at ∷ above) run)
      (opened at (at ∷ above) (begins (at ∷ above))) (before_node child (ordered at))

  -- The container with this path goes on to its children: all its before-callbacks were successful.
  abbrev pub went_on : List ℕ → Bool
  went_on path = goes_on plan path (begins path)

  -- A container on this walk to the root skipped its body.
  abbrev pub SkipsOn : List ℕ → Type 0
  SkipsOn [] = ⊥
  SkipsOn (at ∷ above) = (went_on (at ∷ above) ≡ false) ⊎ SkipsOn above

-- The result of the node with this number is `skipped`.
abbrev pub IsSkipped : ℕ → List NodeOutcome → Type 0
IsSkipped at results = IsSomeAnd (slice_get results at) (λ r. r.status ≡ statuses.Skipped)

-- A node is skipped exactly if an ancestor skipped its body.
abbrev pub SkipsBelow : Type 0
SkipsBelow =
    (memory : List Memory) (plan : PlanText) → NodesAreTree plan → TestsHaveNoChildren plan → (at : ℕ) (above : List ℕ)
    → IsPathOf (ids_of_nodes plan.nodes) at (at ∷ above)
    → IsSkipped at (plain_run_by memory plan) ↔ SkipsOn memory plan above
