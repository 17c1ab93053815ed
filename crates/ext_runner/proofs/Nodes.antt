-- Results of the same nodes are of nodes of the same tree.
use Rattle.std.proofs.Common.{◌≡◌, ℕ, ◌<◌, List, arith, map, subst, sym}
use Rattle.std.specs.Prelude.{All}
use Rattle.std.proofs.lemmas.List.{length-map}
use Rattle.std.proofs.lemmas.List.Elements.{All-map}
use Rattle.std.proofs.Math.ListN.{get_or-map}
use Rattle.ext_lifecycle.specs.declared.node_result.NodeResult.{NodeResult}

abbrev node_of : NodeResult → ℕ
node_of r = r.node

pub nodes_within : (count : ℕ) (results reported : List NodeResult) → map (λ (r : NodeResult). r.node) reported ≡ map (λ (r : NodeResult). r.node) results → All (λ (r : NodeResult). r.node < count) results → All (λ (r : NodeResult). r.node < count) reported
nodes_within count results reported same within k d short =
    let all = subst (All (λ (n : ℕ). n < count)) (sym same) (All-map (λ (n : ℕ). n < count) node_of results within) in
    let long = length-map reported node_of in
    let below = all k (node_of d) (omega (arith, long, short)) in
    let is = get_or-map node_of reported k d in
    omega (arith, below, is)
