use Rattle.std.proofs.Common.{◌≡◌, map, take}
use Rattle.ext_plan_reading.specs.InnerSketches.{sketch_view}
use Rattle.ext_plan_reading.specs.NodeReading.{ids_of}
use Rattle.ext_plan_reading.proofs.nodes.ids_of.Given as goal

abbrev pub invariant-loop-sketch : goal.invariant-loop-sketch
invariant-loop-sketch l = l.ids.items ≡ ids_of (map sketch_view (take l.sketch-index l.sketches))
