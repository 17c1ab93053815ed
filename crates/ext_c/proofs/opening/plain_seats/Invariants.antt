use Rattle.std.specs.Prelude.{[]}
use Rattle.std.specs.Arc.{arc_value}
use Rattle.std.specs.List.{AllZip}
use Rattle.ext_c.specs.Opening.{IsSeatOf}
use Rattle.ext_c.proofs.opening.plain_seats.Given as goal

abbrev pub invariant-loop-lane : goal.invariant-loop-lane
invariant-loop-lane l =
    goal.iterator-loop-lane.can_next l.lane-iterator ×
    goal.iterator-loop-lane.is_finite l.lane-iterator ×
    AllZip (λ lane seat. IsSeatOf (arc_value l.store) [] lane seat.value) l.yielded l.seats.items
