use Rattle.std.proofs.Common.{◌+◌, ◌<◌, length, sym, subst, arith}
use Rattle.atomic_table.specs.declared.shared.Seat.{Seat}
use Rattle.ext_locks.specs.declared.seat.SeatView.{SeatView}
use Rattle.ext_locks.proofs.Holding.{stepped_held}
use Rattle.ext_locks.proofs.Fronts.{stepped_makes}
use Rattle.ext_locks.proofs.Trying.{stepped_adds}
use Rattle.ext_locks.proofs.Whole.{GaveBelow, gave_same, gave_more}
use Rattle.ext_locks.proofs.taking.give_locks.Goals as goal
use Rattle.ext_locks.proofs.taking.give_locks.Goals.{in-Some, in_default}

pub loop-lock-preserved : goal.loop-lock-preserved
loop-lock-preserved c =
    let below : c.loop-lock.lock < length c.args.modes.now = omega arith in
    let P = λ (x : Seat (Unit {0}) SeatView). GaveBelow c.args.seat.now x c.args.lane c.args.modes.now (c.loop-lock.lock + 1) c.args.end in
    elim c.match-modes-lock.branch [
      | in-Some w ↦ subst P (sym w.seat-is)
          (gave_more c.args.seat.now c.loop-lock.seat c.args.lane c.args.modes.now c.loop-lock.lock below w.give_back.new.seat _ w.in-Some.is c.args.end c.loop-lock.invariant (stepped_adds _ _ _ _ _ _ w.give_back.ensures.step)
          (stepped_makes _ _ _ _ _ _ w.give_back.ensures.table w.give_back.ensures.step) (stepped_held _ _ _ _ _ _ w.give_back.ensures.step))
      | in_default w ↦ subst P (sym w.seat-is) (gave_same c.args.seat.now c.loop-lock.seat c.args.lane c.args.modes.now c.loop-lock.lock below c.args.end c.loop-lock.invariant w.in_default.is)
    ]
