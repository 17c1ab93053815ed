-- Contexts at or below a node of a plan, and the paths of its nodes.
use Rattle.std.proofs.Common.{◌≡◌, ℕ, suc, ◌<◌, ◌≤◌, inl, inr, true, false, List, [], ◌∷◌, length, refl, sym, subst, arith}
use Rattle.std.specs.Prelude.{Contains}
use Rattle.std.proofs.lemmas.List.{length-map}
use Rattle.ext_tree.specs.Trees.{Id, IsParentOf, IsPathOf, IsTree, IsWalk}
use Rattle.ext_engine.proofs.Above.{Under, parent_first, under_child, under_itself, under_order, under_root, within_tree}
use Rattle.ext_plan.specs.Plans.{NodeText, PlanText}
use Rattle.ext_plan.specs.ReadPlans.{NodesAreTree, ids_of_nodes}
use Rattle.ext_races.specs.MadeSteps.{plan_path}
use Rattle.ext_races.proofs.Paths.{path_is}
use Rattle.ext_one_report.specs.Within.{is_within}
use Rattle.ext_one_report.proofs.NodePlaces.{found_on, on_found}

-- a path is no longer than its node's number
walk_short : (ids : List Id) → IsTree ids → (walk : List ℕ) (node : ℕ) → IsWalk ids node walk → length walk ≤ node
walk_short ids tree [] node is = omega arith
walk_short ids tree (parent ∷ walk) node is = let first = parent_first ids tree parent node is.0 in let rest = walk_short ids tree walk parent is.1 in omega (arith, first, rest)

pub path_short : (ids : List Id) → IsTree ids → (path : List ℕ) (node : ℕ) → IsPathOf ids node path → length path ≤ suc node
path_short ids tree [] node is = absurd is
path_short ids tree (first ∷ walk) node is = let same = is.0 in let rest = walk_short ids tree walk first (subst (λ n. IsWalk ids n walk) (sym same) is.1) in omega (arith, same, rest)

module _ (plan : PlanText) (tree : NodesAreTree plan) where
  abbrev pub ids : List Id
  ids = ids_of_nodes plan.nodes

  pub long : length ids ≡ length plan.nodes
  long = length-map plan.nodes (λ (n : NodeText). n.id)

  pub its_path : (node : ℕ) (path : List ℕ) → IsPathOf ids node path → path ≡ plan_path plan node
  its_path node path is = path_is ids tree node path (within_tree ids node path tree is) is

  pub within_under : (top context : ℕ) → context < length ids → is_within plan top context ≡ true → Under ids top context
  within_under top context less is =
      let root = under_root ids tree context less in
      let its = its_path context (context ∷ root.walk) (refl, root.is_walk) in
      elim (found_on top (plan_path plan context) false is) [
        | inl none ↦ absurd (cc none)
        | inr there ↦ record { walk = root.walk; is_walk = root.is_walk; on_walk = subst (λ l. Contains l top) (sym its) there }
      ]

  pub under_within : (top context : ℕ) → Under ids top context → is_within plan top context ≡ true
  under_within top context u = on_found top (plan_path plan context) false (subst (λ l. Contains l top) (its_path context (context ∷ u.walk) (refl, u.is_walk)) u.on_walk)

  -- a node's own context
  pub within_itself : (node : ℕ) (path : List ℕ) → IsPathOf ids node path → is_within plan node node ≡ true
  within_itself node path is = under_within node node (under_itself ids node path is)

  -- what is at or below a child is below its parent,
  pub within_parent : (node child context : ℕ) → IsParentOf ids node child → context < length ids → is_within plan child context ≡ true → is_within plan node context ≡ true
  within_parent node child context parent less is = under_within node context (under_child ids tree node child context parent (within_under child context less is))

  pub on_its_path : (node : ℕ) (path : List ℕ) (context : ℕ) → IsPathOf ids node path → Contains path context → Under ids context node
  on_its_path node [] context is there = absurd is
  on_its_path node (first ∷ walk) context is there = record { walk = walk; is_walk = is.1; on_walk = subst (λ k. Contains (k ∷ walk) context) is.0 there }

  -- and what is on a node's path is at or below none of its children
  pub path_apart : (node : ℕ) (path : List ℕ) (child context : ℕ) → IsPathOf ids node path → IsParentOf ids node child → Contains path context → is_within plan child context ≡ true → ⊥
  path_apart node path child context is parent there within =
      let up = under_order ids tree context node (on_its_path node path context is there) in
      let less = within_tree ids node path tree is in
      let down = under_order ids tree child context (within_under child context (omega (arith, up, less)) within) in
      let first = parent_first ids tree node child parent in
      absurd (omega (arith, up, down, first))
