use Rattle.std.proofs.Common.{◌≡◌, length, map, rules, subst, sym}
use Rattle.std.proofs.lemmas.Result.{IfOk-weaker}
use Rattle.ext_selection.specs.Nodes.{AreIndices}
use Rattle.ext_runner.specs.Selecting.{node_of}
use Rattle.ext_runner.proofs.Indices.{in_order-same, selected-indices}
use Rattle.ext_runner.proofs.selecting.select.Goals as goal

pub arranged-requires : goal.arranged-requires
arranged-requires g c =
    let nodes_are : c.as_slice-2.result.now ≡ map node_of c.args.table.rows.items = search rules in
    subst (AreIndices (length c.args.table.rows.items)) (sym c.as_slice-3.ensures.value)
    (selected-indices c.args.table.rows.items c.args.selection.now c.args.seed c.as_slice-ids.result.now c.as_slice-2.result.now c.in_ok-indices.indices.items nodes_are c.in_ok-indices.ensures)

pub returns-clause-selected : goal.returns-clause-selected
returns-clause-selected g c =
    let nodes_are : c.as_slice-2.result.now ≡ map node_of c.args.table.rows.items = search rules in
    IfOk-weaker c.arranged.result _ _ (λ table arranged. record {
      indices = c.as_slice-3.result.now;
      in_order = in_order-same c.args.selection.now c.args.seed _ _ _ _ _ _ c.as_slice-ids.ensures.value nodes_are (sym c.as_slice-3.ensures.value) c.in_ok-indices.ensures;
      arranged = arranged;
    }) c.arranged.ensures.arranged
