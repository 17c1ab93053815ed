-- What is counted of a plan, in memory and as texts.
use Rattle.std.proofs.Common.{◌≡◌, ℕ, ◌+◌, List, [], ◌∷◌, cond, fold, is_some, refl}
use Rattle.std.specs.Prelude.{option_map}
use Rattle.std.specs.List.{count_by}
use Rattle.ext_plan_reading.specs.PlanNode.{PlanNode}
use Rattle.ext_plan_reading.specs.Plans.{nodes_view, steps_view}
use Rattle.ext_plan_plain.proofs.Outcomes.{is_some-map}
use Rattle.ext_run.specs.Checks.{test_count}

counted : (n : ℕ) (nodes : List PlanNode) → fold (λ n node. n + cond (is_some node.test) 1 0) n nodes ≡ fold (λ n node. n + cond (is_some node.test) 1 0) n (nodes_view nodes)
counted n [] = refl
counted n (node ∷ nodes) = rw (← is_some-map steps_view node.test) (counted (n + cond (is_some (option_map steps_view node.test)) 1 0) nodes)

pub tests-view : (nodes : List PlanNode) → count_by (λ node. is_some node.test) nodes ≡ test_count (nodes_view nodes)
tests-view nodes = counted 0 nodes
