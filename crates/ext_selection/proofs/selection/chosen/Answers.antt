use Rattle.std.proofs.Common.{◌≡◌, ◌∙◌, length, filter, ap, subst}
use Rattle.std.specs.List.{range_with_len}
use Rattle.std.proofs.lemmas.Result.{IfOk-weaker}
use Rattle.ext_selection.specs.Nodes.{AreClosed, AreIndices}
use Rattle.ext_selection.proofs.Indices.{chosen_indices, closed_indices}
use Rattle.ext_selection.specs.Selection.{flag_at, wanted_of, AreKept, AreChosen}
use Rattle.ext_selection.proofs.selection.chosen.Goals as goal

pub returns-clause-chosen : goal.returns-clause-chosen
returns-clause-chosen c =
    let nodes = c.args.nodes.now in
    let flags = c.in_ok-kept.kept.items in
    let wanted : c.as_slice.result.now ≡ wanted_of c.args.selection.now c.args.ids.now =
    c.as_slice.ensures.value ∙ c.in_ok-wanted.ensures in
    IfOk-weaker c.indices.result
    (λ indices. indices.items ≡ filter (flag_at c.as_slice-2.result.now) (range_with_len 0 (length c.as_slice-2.result.now)))
    (λ indices. AreChosen nodes (wanted_of c.args.selection.now c.args.ids.now) indices.items)
    (λ indices made. record {
      kept = flag_at flags;
      rule = subst (λ w. AreKept nodes w (flag_at flags)) wanted c.in_ok-kept.ensures.rule;
      exact = made
          ∙ ap (λ f. filter (flag_at f) (range_with_len 0 (length f))) c.as_slice-2.ensures.value
          ∙ ap (λ n. filter (flag_at flags) (range_with_len 0 n)) c.in_ok-kept.ensures.len;
    })
    c.indices.ensures

pub returns-clause-indices : goal.returns-clause-indices
returns-clause-indices c =
    IfOk-weaker c.indices.result
    (λ indices. AreChosen c.args.nodes.now (wanted_of c.args.selection.now c.args.ids.now) indices.items)
    (λ indices. AreIndices (length c.args.nodes.now) indices.items)
    (λ indices h. chosen_indices c.args.nodes.now (wanted_of c.args.selection.now c.args.ids.now) indices.items h)
    (returns-clause-chosen c)

pub returns-clause-closed : goal.returns-clause-closed
returns-clause-closed c =
    IfOk-weaker c.indices.result
    (λ indices. AreChosen c.args.nodes.now (wanted_of c.args.selection.now c.args.ids.now) indices.items)
    (λ indices. AreClosed c.args.nodes.now indices.items)
    (λ indices h. closed_indices c.args.nodes.now (wanted_of c.args.selection.now c.args.ids.now) indices.items h)
    (returns-clause-chosen c)
