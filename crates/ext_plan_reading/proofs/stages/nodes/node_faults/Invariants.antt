use Rattle.std.proofs.Common.{◌≡◌, ◌++◌, None, drop, map}
use Rattle.ext_plan_reading.specs.AllFaults.{node_faults}
use Rattle.ext_plan_reading.specs.InnerSketches.{sketch_view}
use Rattle.ext_plan_reading.proofs.stages.nodes.node_faults.Given as goal

abbrev pub invariant-loop-number : goal.invariant-loop-number
invariant-loop-number l =
    l.faults.items ++ node_faults l.labels (map sketch_view l.all) l.noted l.number (map sketch_view (drop l.number l.all))
    ≡ node_faults l.labels (map sketch_view l.all) None 0 (map sketch_view l.all)
