use Rattle.std.proofs.Common.{◌≡◌, ◌∙◌, map, ap, sym, subst, IfOk, List}
use Rattle.ext_tree.specs.Trees.{IsTree, Id}
use Rattle.ext_plan.proofs.NodeIds.{ids-map}
use Rattle.ext_plan_parallel.proofs.contexts.tree_of.Goals as goal

pub tree_of_nodes-requires : goal.tree_of_nodes-requires
tree_of_nodes-requires c = subst IsTree (sym (ap (map (λ n. n.id)) c.as_slice.ensures.value ∙ ids-map c.args.plan.now.nodes.items)) c.requires

pub returns : goal.returns
returns c =
    subst (λ (ids : List Id). IfOk c.tree_of_nodes.result (λ tree. tree ≡ ids)) (ap (map (λ n. n.id)) c.as_slice.ensures.value ∙ ids-map c.args.plan.now.nodes.items) c.tree_of_nodes.ensures
