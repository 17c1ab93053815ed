use Rattle.std.proofs.Common.{rules}
use Rattle.std.specs.Prelude.{[]}
use Rattle.std.specs.Arc.{arc_value}
use Rattle.ext_c.specs.Opening.{IsSeatOf}
use Rattle.ext_c.proofs.Opened.{seat_as, seat_next}
use Rattle.ext_c.proofs.opening.plain_seats.Goals as goal

pub loop-lane-preserved : goal.loop-lane-preserved
loop-lane-preserved c = (
  search rules,
  search rules,
  seat_next (λ lane seat. IsSeatOf (arc_value c.args.store.now) [] lane seat.value) c.loop-lane.yielded c.loop-lane.seats.items c.push.new.self.items c.in-Some.lane c.in_ok-seat.seat
      c.loop-lane.invariant.2 c.in-Ok-push.ensures.items
      (seat_as _ _ _ _ _ c.in_ok-seat.ensures (search rules) c.new.ensures.items),
)
