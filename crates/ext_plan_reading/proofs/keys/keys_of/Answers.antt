use Rattle.std.proofs.Common.{◌≡◌, ◌∙◌, arith, rules, length, refl}
use Rattle.std.proofs.lemmas.List.{drop_all, length-map}
use Rattle.std.proofs.lemmas.Result.{err_from_is_err_and}
use Rattle.toml.specs.View.{table_view}
use Rattle.std.proofs.lemmas.List.Elements.{All-push}
use Rattle.ext_plan.specs.StoreKeys.{HasParts}
use Rattle.ext_plan.specs.Plans.{key_view, keys_view}
use Rattle.ext_plan.proofs.Lists.{map-push, map-drop}
use Rattle.ext_plan_reading.proofs.Turns.{keys_go, keys_stop, keys_end, Fails-whole}
use Rattle.ext_plan_reading.proofs.keys.keys_of.Goals as goal

pub returns-in_err-key-clause-exact : goal.returns-in_err-key-clause-exact
returns-in_err-key-clause-exact c =
    let p = err_from_is_err_and c.from_residual.result c.from_residual.ensures.1 in
    let more = map-drop (λ t. table_view t.now) c.args.tables.now c.loop-table.table-index c.table-item.result (omega arith) c.table-item.is in
    let number : c.len.result ≡ length (keys_view c.loop-table.keys.items) = search (rules, length-map) in
    let key = rw (number, c.loop-table.invariant.labels) at c.in_err-key.ensures.exact in
    rw (p.1, p.2) (Fails-whole _ _ _ (λ h. c.loop-table.invariant.rest ∙ rw more (keys_stop _ _ _ _ h)) key)

pub loop-table-preserved : goal.loop-table-preserved
loop-table-preserved c =
    let more = map-drop (λ t. table_view t.now) c.args.tables.now c.loop-table.table-index c.table-item.result (omega arith) c.table-item.is in
    let number : c.len.result ≡ length (keys_view c.loop-table.keys.items) = search (rules, length-map) in
    let key = rw (number, c.loop-table.invariant.labels) at c.in_ok-key.ensures.exact in
    record {
      rest = c.loop-table.invariant.rest ∙ rw more (keys_go _ _ _ _ key ∙ rw (c.in_ok-push.ensures.items, map-push) refl);
      labels = c.in_ok-key.ensures.labels ∙ rw (c.loop-table.invariant.labels, c.in_ok-push.ensures.items, map-push, map-push) refl;
      parts = rw (c.in_ok-push.ensures.items, map-push) (All-push HasParts (keys_view c.loop-table.keys.items) (key_view c.in_ok-key.key) c.loop-table.invariant.parts c.in_ok-key.ensures.parts);
    }

pub returns-clause-exact : goal.returns-clause-exact
returns-clause-exact c = c.loop-table.invariant.rest ∙ rw (drop_all c.loop-table.table-index c.args.tables.now (omega arith)) (keys_end _)
