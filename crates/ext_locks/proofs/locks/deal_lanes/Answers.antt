use Rattle.std.proofs.Common.{ap, arith}
use Rattle.ext_locks.proofs.Seats.{deals, dealt_lane}
use Rattle.ext_locks.proofs.locks.deal_lanes.Goals as goal

pub split_seat-seat-requires : goal.split_seat-seat-requires
split_seat-seat-requires c =
    let counts = c.requires.lanes.0 in
    let less = c.loop-number-test.true in
    (c.loop-number.invariant.0, c.requires.table.1, deals _ _ _ c.loop-number.number c.loop-number.dealer.me.0 c.loop-number.invariant.1 (omega (arith, counts, less)))

pub invariant_of-push_reserved : goal.invariant_of-push_reserved
invariant_of-push_reserved c =
    dealt_lane c.loop-number.dealer.me.0 c.split_seat-seat.result.me.0 c.loop-number.number c.args.lanes (ap (λ m. m.0) c.split_seat-seat.ensures.4) c.loop-number.invariant.1 c.loop-number.invariant.2
    c.loop-number-test.true c.requires.lanes.1
