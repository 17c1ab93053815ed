use Rattle.std.proofs.Common.{◌≡◌, ◌+◌, ◌<◌, length, sym, subst, arith}
use Rattle.atomic_table.specs.declared.shared.Seat.{Seat}
use Rattle.ext_locks.specs.declared.seat.SeatView.{SeatView}
use Rattle.ext_locks.proofs.Fronts.{lane_makes}
use Rattle.ext_locks.proofs.Whole.{TookBelow, took_same, took_more, took_all}
use Rattle.ext_locks.proofs.waiting.wait_for_locks.Goals as goal
use Rattle.ext_locks.proofs.waiting.wait_for_locks.Goals.{in-Some, in_default}

pub loop-lock-preserved : goal.loop-lock-preserved
loop-lock-preserved g c =
    let below : c.loop-lock.lock < length c.args.modes.now = omega arith in
    let P = λ (x : Seat (Unit {0}) SeatView). TookBelow c.args.seat.now x c.args.lane c.args.modes.now (c.loop-lock.lock + 1) in
    elim c.match-modes-lock.branch [
      | in-Some w ↦ subst P (sym w.seat-is)
          (took_more c.args.seat.now c.loop-lock.seat c.args.lane c.args.modes.now c.loop-lock.lock below w.wait_for_lock.new.seat _ w.in-Some.is c.loop-lock.invariant w.wait_for_lock.ensures.taken w.wait_for_lock.ensures.held)
      | in_default w ↦ subst P (sym w.seat-is) (took_same c.args.seat.now c.loop-lock.seat c.args.lane c.args.modes.now c.loop-lock.lock below c.loop-lock.invariant w.in_default.is)
    ]

pub wait_for_lock-requires-clause-lane : goal.wait_for_lock-requires-clause-lane
wait_for_lock-requires-clause-lane g c = lane_makes _ _ c.args.lane c.args.seat.now c.loop-lock.seat _ c.requires.lane c.loop-lock.invariant.makes

pub wait_for_lock-requires-clause-lock : goal.wait_for_lock-requires-clause-lock
wait_for_lock-requires-clause-lock g c = c.requires.locks.each c.loop-lock.lock c.in-Some.mode c.in-Some.is

pub returns-clause-taken : goal.returns-clause-taken
returns-clause-taken g c =
    let end : c.loop-lock.lock ≡ length c.args.modes.now = omega arith in
    (took_all c.args.seat.now c.loop-lock.seat c.args.lane c.args.modes.now (subst (λ k. TookBelow c.args.seat.now c.loop-lock.seat c.args.lane c.args.modes.now k) end c.loop-lock.invariant)).0

pub returns-clause-held : goal.returns-clause-held
returns-clause-held g c =
    let end : c.loop-lock.lock ≡ length c.args.modes.now = omega arith in
    (took_all c.args.seat.now c.loop-lock.seat c.args.lane c.args.modes.now (subst (λ k. TookBelow c.args.seat.now c.loop-lock.seat c.args.lane c.args.modes.now k) end c.loop-lock.invariant)).1
