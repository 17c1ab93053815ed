use Rattle.std.proofs.Common.{◌≡◌, map}
use Rattle.ext_store.specs.Stores.{fresh_store_lane}
use Rattle.ext_store.proofs.opening.lanes_of.Given as goal

abbrev pub invariant-loop-cells : goal.invariant-loop-cells
invariant-loop-cells g l =
    (goal.iterator-loop-cells g).can_next l.cells-iterator ×
    (goal.iterator-loop-cells g).is_finite l.cells-iterator ×
    (l.lanes.items ≡ map (fresh_store_lane l.values l.faults l.keys) l.yielded)
