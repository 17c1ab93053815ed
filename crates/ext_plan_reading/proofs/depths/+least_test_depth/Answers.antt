use Rattle.std.proofs.Common.{◌∙◌, ◌<◌, length, map, get_or, sym, ap, subst, arith, true, false}
use Rattle.std.specs.Prelude.{fold}
use Rattle.std.proofs.lemmas.List.{drop_all, length-map}
use Rattle.ext_tree.specs.Trees.{id_at}
use Rattle.ext_plan_reading.specs.Depths.{least_test_depth}
use Rattle.ext_plan_reading.specs.InnerSketches.{sketch_view}
use Rattle.ext_plan_reading.specs.NodeReading.{outlines_of}
use Rattle.ext_plan_reading.proofs.ChildDepths.{with_child, sketch_at, sketched_test, test_depth, container_depth, child_behind}
use Rattle.ext_plan_reading.proofs.depths.+least_test_depth.Goals as goal

pub returns-then-is_some : goal.returns-then-is_some
returns-then-is_some t c =
    let sketches = c.args.sketches.now in
    let sketch = c.index-sketches-node.result in
    let less : c.args.node < length (map sketch_view sketches) = omega (arith, c.requires.within, length-map sketches sketch_view) in
    let is = sketch_at sketches c.args.node sketch c.requires.within c.index-sketches-node.is in
    c.len.ensures.count ∙ test_depth (map sketch_view sketches) c.args.tree.now c.requires.tree c.args.node (sketch_view sketch) less is (sketched_test sketch.test true c.if-is_some.ensures) c.len.ensures.id.few

pub least_test_depth-requires : goal.least_test_depth-requires
least_test_depth-requires t c =
    let sketches = c.args.sketches.now in
    let count = length-map sketches sketch_view in
    let less : c.args.node < length (map sketch_view sketches) = omega (arith, c.requires.within, count) in
    let behind = child_behind (map sketch_view sketches) c.args.tree.now c.len-count.ensures.tree c.requires.tree c.args.node c.loop-child.child-index 0 less in
    let child = subst (λ xs. c.loop-child.child-index < length xs → (c.args.node < get_or xs c.loop-child.child-index 0) × (get_or xs c.loop-child.child-index 0 < length (map sketch_view sketches))) (sym c.children-child-items.ensures) behind c.loop-child-test.true in
    let before = child.0 in
    let end = child.1 in
    (omega (arith, before, end, count), (c.requires.tree, omega (arith, end, count)))

pub returns : goal.returns
returns t c =
    let sketches = c.args.sketches.now in
    let sketch = c.index-sketches-node.result in
    let less : c.args.node < length (map sketch_view sketches) = omega (arith, c.requires.within, length-map sketches sketch_view) in
    let is = sketch_at sketches c.args.node sketch c.requires.within c.index-sketches-node.is in
    let depth = container_depth (map sketch_view sketches) c.args.tree.now c.len-count.ensures.tree c.requires.tree c.args.node (sketch_view sketch) less is (sketched_test sketch.test false c.if-is_some.ensures) in
    let step = with_child (λ k. least_test_depth (outlines_of (map sketch_view sketches)) (id_at c.args.tree.now k)) in
    let all = c.loop-child.invariant ∙ ap (fold step c.loop-child.least) (drop_all c.loop-child.child-index c.children-child-items.result.now c.loop-child-test.false) in
    sym all ∙ ap (fold step 16) c.children-child-items.ensures ∙ depth
