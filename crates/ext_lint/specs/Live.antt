-- Which nodes have a test at or below them.
use Rattle.std.specs.Prelude.{ℕ, ◌==◌, Bool, List, [], is_some, if◌then◌else◌}
use Rattle.std.specs.List.{list_any}
use Rattle.ext_tree.specs.Trees.{Id}
use Rattle.ext_plan.specs.Plans.{NodeText, PlanText}
use Rattle.ext_plan.specs.ReadPlans.{ids_of_nodes}
use Rattle.ext_races.specs.MadeSteps.{path_of}
use Rattle.ext_lint.specs.NodeSteps.{numbered}

-- The path of the node with this number, if it is a test.
abbrev pub path_of_test : List Id → ℕ → NodeText → List ℕ
path_of_test ids number node = if is_some node.test then path_of ids number else []

-- The nodes on the paths of all tests.
abbrev pub nodes_with_tests : PlanText → List ℕ
nodes_with_tests plan = numbered (path_of_test (ids_of_nodes plan.nodes)) 0 plan.nodes

abbrev pub is_among : List ℕ → ℕ → Bool
is_among nodes node = list_any (λ other. other == node) nodes

abbrev pub has_test : PlanText → ℕ → Bool
has_test plan node = is_among (nodes_with_tests plan) node
