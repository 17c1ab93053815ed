use Rattle.std.proofs.Common.{◌≡◌, ◌++◌, map}
use Rattle.ext_plan_reading.specs.InnerSketches.{sketch_view}
use Rattle.ext_plan_reading.specs.NodeReading.{with_repetitions}
use Rattle.ext_plan_reading.proofs.repeats.with_repetitions.Given as goal

abbrev pub invariant-loop-sketch : goal.invariant-loop-sketch
invariant-loop-sketch l = record {
  can : goal.iterator-loop-sketch.can_next l.sketch-iterator;
  finite : goal.iterator-loop-sketch.is_finite l.sketch-iterator;
  items : l.yielded ++ l.sketch-iterator.rest.items ≡ l.fn.sketches.items;
  nodes : map sketch_view l.nodes.items ≡ with_repetitions (map sketch_view l.yielded);
}
