use Rattle.std.proofs.Common.{◌≡◌, ◌∙◌, ap, rules, arith, refl, map, length}
use Rattle.std.proofs.lemmas.List.{drop_all, length-map}
use Rattle.std.proofs.lemmas.Result.{err_from_is_err_and}
use Rattle.ext_plan.specs.Plans.{nodes_view}
use Rattle.ext_plan.proofs.Lists.{map-push, map-drop}
use Rattle.ext_plan_reading.specs.InnerSketches.{sketch_view}
use Rattle.ext_plan_reading.specs.Depths.{least_test_depth}
use Rattle.ext_plan_reading.specs.NodeReading.{outlines_of}
use Rattle.ext_plan_reading.proofs.ChildDepths.{id_here}
use Rattle.ext_plan_reading.proofs.Turns.{nodes_end, Fails-whole}
use Rattle.ext_plan_reading.proofs.Parents.{tree_go, tree_stop}
use Rattle.ext_plan_reading.proofs.nodes.nodes_in_order.Goals as goal

pub returns-in_err-node-clause-exact : goal.returns-in_err-node-clause-exact
returns-in_err-node-clause-exact c =
    let p = err_from_is_err_and c.from_residual.result c.from_residual.ensures.1 in
    let all = map sketch_view c.args.sketches.now in
    let more = map-drop sketch_view c.args.sketches.now c.loop-sketch.sketch-index c.sketch-item.result (omega arith) c.sketch-item.is in
    let number : c.len-number.result ≡ length (nodes_view c.loop-sketch.nodes.items) = search (rules, length-map) in
    let here = id_here c.args.sketches.now c.args.tree.now c.loop-sketch.sketch-index c.len-number.result c.sketch-item.result c.requires (omega (arith, c.loop-sketch.invariant.count)) (omega arith) c.sketch-item.is in
    let least = c.least_test_depth-least.ensures ∙ ap (least_test_depth (outlines_of all)) here in
    let stop = tree_stop c.args.labels.now c.args.tree.now all _ (sketch_view c.sketch-item.result) _ _ c.children.result.now _ _ c.requires number c.children.ensures c.is_empty-is_parent.ensures least in
    rw (p.1, p.2) (Fails-whole _ _ _ (λ h. c.loop-sketch.invariant.rest ∙ rw more (stop _ h)) c.in_err-node.ensures)

pub loop-sketch-preserved : goal.loop-sketch-preserved
loop-sketch-preserved c =
    let all = map sketch_view c.args.sketches.now in
    let more = map-drop sketch_view c.args.sketches.now c.loop-sketch.sketch-index c.sketch-item.result (omega arith) c.sketch-item.is in
    let number : c.len-number.result ≡ length (nodes_view c.loop-sketch.nodes.items) = search (rules, length-map) in
    let here = id_here c.args.sketches.now c.args.tree.now c.loop-sketch.sketch-index c.len-number.result c.sketch-item.result c.requires (omega (arith, c.loop-sketch.invariant.count)) (omega arith) c.sketch-item.is in
    let least = c.least_test_depth-least.ensures ∙ ap (least_test_depth (outlines_of all)) here in
    let go = tree_go c.args.labels.now c.args.tree.now all _ (sketch_view c.sketch-item.result) _ _ c.children.result.now _ _ c.requires number c.children.ensures c.is_empty-is_parent.ensures least in
    record {
      rest = c.loop-sketch.invariant.rest ∙ rw more (go _ c.in_ok-node.ensures ∙ rw (c.in_ok-push.ensures.items, map-push) refl);
      count = omega (arith, c.loop-sketch.invariant.count, c.in_ok-push.ensures.len);
    }

pub returns-clause-exact : goal.returns-clause-exact
returns-clause-exact c = c.loop-sketch.invariant.rest ∙ rw (drop_all c.loop-sketch.sketch-index c.args.sketches.now (omega arith)) (nodes_end _ _ _)
