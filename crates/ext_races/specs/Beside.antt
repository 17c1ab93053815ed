-- Which nodes may run beside one another: those in the subtrees of two different concurrent children of one container
-- (JUnit 5 User Guide, "Parallel Execution"). Neither locks nor isolation say which of the two goes first.
use Rattle.std.specs.Prelude.{ℕ, ◌≡◌, ◌≢◌, ◌⊎◌, ◌==◌, Bool, true, not, ◌&&◌, List, [], ◌∷◌, length, nat_lt, zip, drop}
use Rattle.std.specs.List.{list_any}
use Rattle.ext_plan.specs.Plans.{PlanText}
use Rattle.ext_plan.specs.PlanCalls.{concurrent_of}
use Rattle.ext_races.specs.MadeSteps.{plan_path}

-- On its way to the root the path passes the child and then its container.
abbrev pub PassesBy : List ℕ → ℕ → ℕ → Type 0
PassesBy [] child container = ⊥
PassesBy (first ∷ []) child container = ⊥
PassesBy (first ∷ next ∷ above) child container = ((first ≡ child) × (next ≡ container))
    ⊎ PassesBy (next ∷ above) child container

-- One path comes from at or below one concurrent child of a container, and the other from at or below another.
pub record AreBeside (plan : PlanText) (path second : List ℕ) : Type 0 where
  pub container : ℕ
  pub child : ℕ
  pub other : ℕ
  pub below : PassesBy path child container
  pub other_below : PassesBy second other container
  pub differ : child ≢ other
  pub concurrent : concurrent_of plan child ≡ true
  pub other_concurrent : concurrent_of plan other ≡ true

-- Two nodes of the plan may run beside one another.
abbrev pub IsBeside : PlanText → ℕ → ℕ → Type 0
IsBeside plan first second = AreBeside plan (plan_path plan first) (plan_path plan second)

-- ---- the same as a test that computes

-- Each node of a path with its parent.
abbrev pub turns : List ℕ → List (ℕ × ℕ)
turns path = zip path (drop 1 path)

module _ (plan : PlanText) where
  -- The path passes another concurrent child of the container than this one.
  abbrev pub comes_by_other : ℕ → ℕ → List ℕ → Bool
  comes_by_other child container path =
      list_any (λ turn. (turn.1 == container) && not (turn.0 == child) && concurrent_of plan turn.0) (turns path)

  abbrev pub are_beside : List ℕ → List ℕ → Bool
  are_beside path other =
      list_any (λ turn. concurrent_of plan turn.0 && comes_by_other turn.0 turn.1 other) (turns path)

  -- The test for two nodes of the plan.
  abbrev pub nodes_beside : ℕ → ℕ → Bool
  nodes_beside first second = nat_lt first (length plan.nodes) && nat_lt second (length plan.nodes)
      && are_beside (plan_path plan first) (plan_path plan second)
