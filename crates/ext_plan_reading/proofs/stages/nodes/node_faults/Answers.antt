use Rattle.std.proofs.Common.{◌∙◌, ◌++◌, arith, ap, map, not, refl, sym}
use Rattle.std.proofs.lemmas.List.{drop_all}
use Rattle.ext_plan.proofs.Lists.{map-drop}
use Rattle.ext_plan.specs.Plans.{node_view}
use Rattle.ext_plan_reading.specs.AllFaults.{node_faults}
use Rattle.ext_plan_reading.specs.Depths.{least_test_depth}
use Rattle.ext_plan_reading.specs.InnerSketches.{sketch_view}
use Rattle.ext_plan_reading.specs.NodeReading.{node_at, outlines_of}
use Rattle.ext_plan_reading.proofs.AllFaults.{all_nodes, at_number, read_fault, second_turn}
use Rattle.ext_plan_reading.proofs.ChildDepths.{id_here}
use Rattle.ext_plan_reading.proofs.stages.nodes.node_faults.Goals as goal

pub loop-number-preserved : goal.loop-number-preserved
loop-number-preserved c =
    let all = map sketch_view c.args.all.now in
    let labels = c.args.labels.now in
    let number = c.loop-number.number in
    let sketch = sketch_view c.index-all-number.result in
    let more = map-drop sketch_view c.args.all.now number c.index-all-number.result (omega arith) c.index-all-number.is in
    let here = id_here c.args.all.now c.args.tree.now number number c.index-all-number.result c.requires refl (omega arith) c.index-all-number.is in
    let least = c.least_test_depth-least.ensures ∙ ap (least_test_depth (outlines_of all)) here in
    let read = node_at labels (not c.is_empty-is_parent.result) c.least_test_depth-least.result sketch in
    let fault = read_fault node_view c.node_of-read.result read c.err.result c.node_of-read.ensures c.err.ensures.value c.in_ok-noted.ensures.known in
    let is = fault ∙ at_number labels c.args.tree.now all sketch number c.children.result.now c.is_empty-is_parent.result c.least_test_depth-least.result c.requires c.children.ensures c.is_empty-is_parent.ensures least in
    second_turn c.loop-number.faults.items c.add_node_fault.new.faults.items _ labels all c.loop-number.noted c.in_ok-noted.noted number sketch _ c.err.result
    (ap (λ l. c.loop-number.faults.items ++ node_faults labels all c.loop-number.noted number l) (sym more) ∙ c.loop-number.invariant) is c.in_ok-noted.ensures.faults c.in_ok-noted.ensures.noted

pub returns : goal.returns
returns c = all_nodes c.loop-number.faults.items _ c.args.labels.now (map sketch_view c.args.all.now) c.loop-number.noted c.loop-number.number _ (ap (map sketch_view) (drop_all c.loop-number.number c.args.all.now (omega arith))) c.loop-number.invariant
