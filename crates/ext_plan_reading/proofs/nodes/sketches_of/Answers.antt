use Rattle.std.proofs.Common.{◌≡◌, ◌∙◌, [], arith, length, rules, refl, map}
use Rattle.std.proofs.lemmas.List.{drop_all, length-map}
use Rattle.std.proofs.lemmas.List.Elements.{All-nil}
use Rattle.std.proofs.lemmas.Result.{err_from_is_err_and}
use Rattle.toml.specs.View.{table_view}
use Rattle.ext_plan.proofs.Lists.{map-push, map-drop}
use Rattle.ext_plan_reading.specs.InnerSketches.{sketch_view, HasRoom}
use Rattle.ext_plan_reading.proofs.Repetitions.{have_room}
use Rattle.ext_plan_reading.proofs.Turns.{sketches_go, sketches_stop, sketches_end, Fails-whole}
use Rattle.ext_plan_reading.proofs.nodes.sketches_of.Goals as goal

pub returns-in_err-sketch-clause-exact : goal.returns-in_err-sketch-clause-exact
returns-in_err-sketch-clause-exact c =
    let p = err_from_is_err_and c.from_residual.result c.from_residual.ensures.1 in
    let more = map-drop (λ t. table_view t.now) c.args.tables.now c.loop-table.table-index c.table-item.result (omega arith) c.table-item.is in
    let number : c.len.result ≡ length (map sketch_view c.loop-table.sketches.items) = search (rules, length-map) in
    let sketch = rw number at c.in_err-sketch.ensures in
    rw (p.1, p.2) (Fails-whole _ _ _ (λ h. c.loop-table.invariant ∙ rw more (sketches_stop _ _ _ _ h)) sketch)

pub loop-table-preserved : goal.loop-table-preserved
loop-table-preserved c =
    let more = map-drop (λ t. table_view t.now) c.args.tables.now c.loop-table.table-index c.table-item.result (omega arith) c.table-item.is in
    let number : c.len.result ≡ length (map sketch_view c.loop-table.sketches.items) = search (rules, length-map) in
    let sketch = rw number at c.in_ok-sketch.ensures in
    c.loop-table.invariant ∙ rw more (sketches_go _ _ _ _ sketch ∙ rw (c.in_ok-push.ensures.items, map-push) refl)

pub returns-clause-exact : goal.returns-clause-exact
returns-clause-exact c = c.loop-table.invariant ∙ rw (drop_all c.loop-table.table-index c.args.tables.now (omega arith)) (sketches_end _)

pub returns-clause-room : goal.returns-clause-room
returns-clause-room c = have_room [] _ _ (All-nil HasRoom) (c.loop-table.invariant ∙ rw (drop_all c.loop-table.table-index c.args.tables.now (omega arith)) (sketches_end _))
