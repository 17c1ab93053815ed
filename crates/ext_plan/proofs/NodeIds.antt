-- The ids of a plan's nodes, as they lie in memory and as a reader sees them.
use Rattle.std.proofs.Common.{◌≡◌, List, [], ◌∷◌, map, ap, refl}
use Rattle.ext_plan.specs.declared.plan.PlanNode.{PlanNode}
use Rattle.ext_plan.specs.Plans.{node_view}
use Rattle.ext_plan.specs.ReadPlans.{ids_of_nodes}

pub ids-map : (nodes : List PlanNode) → map (λ n. n.id) nodes ≡ ids_of_nodes (map node_view nodes)
ids-map [] = refl
ids-map (n ∷ nodes) = ap (λ ids. n.id ∷ ids) (ids-map nodes)
