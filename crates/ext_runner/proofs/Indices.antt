-- Indices that a selection chose, in their order or in that of a seed: each is one of the table's, and none stands twice.
use Rattle.std.proofs.Common.{◌≡◌, ◌∙◌, ℕ, List, Option, Some, None, length, map, ap, subst, sym}
use Rattle.std.proofs.lemmas.List.{length-map}
use Rattle.ext_tree.specs.Trees.{Id}
use Rattle.ext_selection.specs.declared.nodes.Node.{Node}
use Rattle.ext_selection.specs.declared.selection.Selection.{Selection}
use Rattle.ext_selection.specs.Nodes.{AreIndices}
use Rattle.ext_selection.proofs.Indices.{chosen_indices, moved_indices}
use Rattle.ext_table.specs.declared.row.Row.{Row}
use Rattle.ext_runner.specs.Selecting.{IsInOrder, AreOrdered, node_of}

ordered-indices : (seed : Option ℕ) (ids : List Id) (nodes : List Node) (chosen indices : List ℕ) → AreOrdered seed ids nodes chosen indices → AreIndices (length nodes) chosen → AreIndices (length nodes) indices
ordered-indices None ids nodes chosen indices order are = subst (AreIndices (length nodes)) (sym order) are
ordered-indices (Some seed) ids nodes chosen indices order are = moved_indices (length nodes) chosen indices order.0 are

pub selected-indices : {T : Type 0} (rows : List (Row T)) (selection : Selection) (seed : Option ℕ) (ids : List Id) (nodes : List Node) (indices : List ℕ) → nodes ≡ map node_of rows → IsInOrder selection seed ids nodes indices → AreIndices (length rows) indices
selected-indices rows selection seed ids nodes indices is order =
    let long : length nodes ≡ length rows = ap length is ∙ length-map rows node_of in
    subst (λ n. AreIndices n indices) long (ordered-indices seed ids nodes order.chosen indices order.order (chosen_indices nodes _ order.chosen order.are_chosen))

pub in_order-same : (selection : Selection) (seed : Option ℕ) (ids ids' : List Id) (nodes nodes' : List Node) (indices indices' : List ℕ) → ids ≡ ids' → nodes ≡ nodes' → indices ≡ indices'
    → IsInOrder selection seed ids nodes indices → IsInOrder selection seed ids' nodes' indices'
in_order-same selection seed ids ids' nodes nodes' indices indices' same_ids same_nodes same_indices order =
    subst (λ p. IsInOrder selection seed ids' nodes' p) same_indices (subst (λ n. IsInOrder selection seed ids' n indices) same_nodes (subst (λ i. IsInOrder selection seed i nodes indices) same_ids order))
