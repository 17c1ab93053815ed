use Rattle.std.proofs.Common.{◌≡◌, drop, map, length, []}
use Rattle.ext_plan.specs.Plans.{nodes_view}
use Rattle.ext_plan_reading.specs.InnerSketches.{sketch_view}
use Rattle.ext_plan_reading.specs.NodeReading.{nodes_after}
use Rattle.ext_plan_reading.proofs.nodes.nodes_in_order.Given as goal

abbrev pub invariant-loop-sketch : goal.invariant-loop-sketch
invariant-loop-sketch l = record {
  rest : nodes_after l.labels (map sketch_view l.sketches) [] (map sketch_view l.sketches) ≡ nodes_after l.labels (map sketch_view l.sketches) (nodes_view l.nodes.items) (map sketch_view (drop l.sketch-index l.sketches));
  count : length l.nodes.items ≡ l.sketch-index;
}
