use Rattle.std.proofs.Common.{◌≡◌, ◌-◌, drop, length, map}
use Rattle.std.specs.Prelude.{fold}
use Rattle.ext_tree.specs.Trees.{id_at}
use Rattle.ext_plan_reading.specs.Depths.{least_test_depth}
use Rattle.ext_plan_reading.specs.InnerSketches.{sketch_view}
use Rattle.ext_plan_reading.specs.NodeReading.{outlines_of}
use Rattle.ext_plan_reading.proofs.ChildDepths.{with_child}
use Rattle.ext_plan_reading.proofs.depths.+least_test_depth.Given as goal

abbrev pub decreases-least_test_depth : goal.decreases-least_test_depth
decreases-least_test_depth l = length l.sketches.now - l.node

abbrev pub invariant-loop-child : goal.invariant-loop-child
invariant-loop-child l =
    fold (with_child (λ k. least_test_depth (outlines_of (map sketch_view l.sketches)) (id_at l.tree k))) 16 l.child-items
    ≡ fold (with_child (λ k. least_test_depth (outlines_of (map sketch_view l.sketches)) (id_at l.tree k))) l.least (drop l.child-index l.child-items)
