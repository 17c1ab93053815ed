-- Where ` up N` in a callback before or after each test means its node, or one above, for some of the tests alone. Such a
-- step counts from the context of each test at or below the node, and tests that are repeated stand one deeper.
use Rattle.std.specs.Prelude.{ℕ, ◌+◌, ◌==◌, ◌&&◌, not, Bool, true, false, List, [], ◌∷◌, length, nat_le, Option, Some, None, is_some, slice_get, if◌then◌else◌}
use Rattle.std.specs.List.{list_any}
use Rattle.ext_lifecycle.specs.declared.call.Kind.{Kind}
use Rattle.ext_lifecycle.specs.declared.call.Kind.TheVariants as kinds
use Rattle.ext_tree.specs.Trees.{Id}
use Rattle.ext_plan.specs.Plans.{NodeText, PlanText}
use Rattle.ext_plan.specs.ReadPlans.{ids_of_nodes}
use Rattle.ext_plan.specs.Steps.{height}
use Rattle.ext_races.specs.MadeSteps.{path_of}
use Rattle.ext_lint.specs.Live.{is_among}
use Rattle.ext_lint.specs.NodeSteps.{NodeStepText}

-- ---- the depths of tests

-- The depths that there are. That of a node is how many segments its id has.
abbrev pub depth_range : List ℕ
depth_range = 1 ∷ 2 ∷ 3 ∷ 4 ∷ 5 ∷ 6 ∷ 7 ∷ 8 ∷ 9 ∷ 10 ∷ 11 ∷ 12 ∷ 13 ∷ 14 ∷ 15 ∷ 16 ∷ []

abbrev pub depth_in : Option NodeText → ℕ
depth_in None = 0
depth_in (Some node) = length node.id

-- Callbacks of this kind run for each test.
abbrev pub is_each : Kind → Bool
is_each kinds.BeforeAll = false
is_each kinds.BeforeEach = true
is_each kinds.Test = false
is_each kinds.AfterEach = true
is_each kinds.AfterAll = false

-- The first of these nodes that passes, by its number. The first has this number.
abbrev pub first_numbered : (ℕ → NodeText → Bool) → ℕ → List NodeText → Option ℕ
first_numbered test n [] = None
first_numbered test n (node ∷ more) = if test n node then Some n else first_numbered test (n + 1) more

-- The node with this number is a test at or below this one, and its depth passes.
abbrev pub is_test_below : List Id → ℕ → (ℕ → Bool) → ℕ → NodeText → Bool
is_test_below ids above passes number node =
    is_some node.test && is_among (path_of ids number) above && passes (length (path_of ids number))

module _ (plan : PlanText) where
  -- The first test at or below a node whose depth passes.
  abbrev pub first_test : ℕ → (ℕ → Bool) → Option ℕ
  first_test above passes = first_numbered (is_test_below (ids_of_nodes plan.nodes) above passes) 0 plan.nodes

  -- A test of this depth stands at or below the node.
  abbrev pub has_depth : ℕ → ℕ → Bool
  has_depth node depth = is_some (first_test node (λ other. other == depth))

  -- So does one of another depth.
  abbrev pub has_other : ℕ → ℕ → Bool
  has_other node depth = list_any (λ other. has_depth node other && not (other == depth)) depth_range

  -- ---- steps

  -- How deep a test stands at most for which a step acts on its callback's node or above.
  abbrev pub reach : NodeStepText → ℕ
  reach p = depth_in (slice_get plan.nodes p.node) + height p.step

  -- For some of the tests at or below its node, but not for all at one depth.
  unfoldable pub is_uneven_at : NodeStepText → ℕ → Bool
  is_uneven_at p depth = has_depth p.node depth && nat_le depth (reach p) && has_other p.node depth

  abbrev pub is_uneven : NodeStepText → Bool
  is_uneven p = is_each p.kind && list_any (is_uneven_at p) depth_range
