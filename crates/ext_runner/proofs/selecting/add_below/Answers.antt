use Rattle.std.proofs.Common.{◌≡◌, None, ap, map, refl, rules, sym, true}
use Rattle.std.specs.List.{flat_map}
use Rattle.std.proofs.lemmas.Result.{IfOk-weaker}
use Rattle.ext_selection.specs.declared.selection.Selection.{Selection}
use Rattle.ext_runner.specs.InnerSelecting.{text_at}
use Rattle.ext_runner.specs.Selecting.{node_of}
use Rattle.ext_runner.proofs.IdTexts.{chosen-same}
use Rattle.ext_runner.proofs.selecting.add_below.Goals as goal

pub returns : goal.returns
returns g c =
    let nodes_are : c.as_slice-3.result.now ≡ map node_of c.args.table.now.rows.items = search rules in
    let below : Selection = record { texts = c.args.containers; exact = true; skips = c.new.result; shard = None; failed = None } in
    let indices = c.as_slice-5.result.now in
    IfOk-weaker c.add_ids.result _ _ (λ done grown. (
      flat_map (text_at c.as_slice-4.result.now) indices,
      record {
        below = below;
        texts = refl;
        whole = refl;
        skips = c.new.ensures.items;
        shard = refl;
        failed = refl;
        chosen = indices;
        are_chosen = chosen-same below _ _ _ _ _ _ c.as_slice-2.ensures.value nodes_are (sym c.as_slice-5.ensures.value) c.in_ok-indices.ensures.chosen;
        added_are = ap (λ ids. flat_map (text_at ids) indices) c.as_slice-4.ensures.value;
      },
      grown,
    )) c.add_ids.ensures
