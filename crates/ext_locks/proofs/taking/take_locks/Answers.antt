use Rattle.std.proofs.Common.{◌≡◌, ◌+◌, ◌<◌, [], length, sym, subst, arith}
use Rattle.atomic_table.specs.declared.shared.Seat.{Seat}
use Rattle.ext_locks.specs.declared.seat.SeatView.{SeatView}
use Rattle.ext_locks.proofs.Fronts.{lane_makes}
use Rattle.ext_locks.proofs.Whole.{TriedBelow, tried_none, tried_same, tried_more, tried_all, took_all, refused_makes, refused_steps, refused_why}
use Rattle.ext_locks.proofs.taking.take_locks.Goals as goal
use Rattle.ext_locks.proofs.taking.take_locks.Goals.{in-Some+in_default-take_lock, in_default}

pub loop-lock-init : goal.loop-lock-init
loop-lock-init c = tried_none c.args.seat.now c.args.seat.now c.args.lane c.args.modes.now c.args.tries c.requires.lane.legal c.requires.nothing

pub take_lock-requires-clause-lane : goal.take_lock-requires-clause-lane
take_lock-requires-clause-lane c = lane_makes _ _ c.args.lane c.args.seat.now c.loop-lock.seat _ c.requires.lane c.loop-lock.invariant.taken.makes

pub take_lock-requires-clause-lock : goal.take_lock-requires-clause-lock
take_lock-requires-clause-lock c = c.requires.locks.each c.loop-lock.lock c.in-Some.mode c.in-Some.is

pub give_locks-requires-clause-lane : goal.give_locks-requires-clause-lane
give_locks-requires-clause-lane c =
    lane_makes _ _ c.args.lane c.loop-lock.seat c.take_lock.new.seat [] (lane_makes _ _ c.args.lane c.args.seat.now c.loop-lock.seat _ c.requires.lane c.loop-lock.invariant.taken.makes) c.in-Err.ensures.missed

pub give_locks-requires-clause-locks : goal.give_locks-requires-clause-locks
give_locks-requires-clause-locks c = c.requires.locks

pub returns-in-Err-clause-undone : goal.returns-in-Err-clause-undone
returns-in-Err-clause-undone c =
    refused_makes c.args.seat.now c.loop-lock.seat c.take_lock.new.seat c.give_locks.new.seat c.args.lane c.args.modes.now c.loop-lock.lock c.in-Some.mode c.in-Some.is c.args.tries c.loop-lock.invariant c.in-Err.ensures.missed c.give_locks.ensures.events c.in-Err.refusal c.in-Err.ensures.lock

pub returns-in-Err-clause-why : goal.returns-in-Err-clause-why
returns-in-Err-clause-why c =
    refused_why c.args.seat.now c.loop-lock.seat c.take_lock.new.seat c.give_locks.new.seat c.args.lane c.args.modes.now c.loop-lock.lock c.in-Some.mode c.in-Some.is c.args.tries c.loop-lock.invariant c.in-Err.ensures.missed c.give_locks.ensures.events c.in-Err.refusal c.in-Err.ensures.lock c.in-Err.ensures.why

pub returns-in-Err-clause-refused_steps : goal.returns-in-Err-clause-refused_steps
returns-in-Err-clause-refused_steps c =
    refused_steps c.args.seat.now c.loop-lock.seat c.take_lock.new.seat c.give_locks.new.seat c.args.lane c.args.modes.now c.loop-lock.lock c.in-Some.mode c.in-Some.is c.args.tries c.loop-lock.invariant c.in-Err.ensures.missed c.give_locks.ensures.events c.in-Err.refusal c.in-Err.ensures.lock c.take_lock.ensures.steps c.give_locks.ensures.steps

pub loop-lock-preserved : goal.loop-lock-preserved
loop-lock-preserved c =
    let below : c.loop-lock.lock < length c.args.modes.now = omega arith in
    let P = λ (x : Seat (Unit {0}) SeatView). TriedBelow c.args.seat.now x c.args.lane c.args.modes.now c.args.tries (c.loop-lock.lock + 1) in
    elim c.match-modes-lock.branch [
      | in-Some+in_default-take_lock w ↦ subst P (sym w.seat-is)
          (tried_more c.args.seat.now c.loop-lock.seat c.args.lane c.args.modes.now c.loop-lock.lock below w.take_lock.new.seat _ w.in-Some.is c.args.tries c.loop-lock.invariant w.take_lock.ensures.steps w.in_default-take_lock.ensures.taken w.in_default-take_lock.ensures.held)
      | in_default w ↦ subst P (sym w.seat-is) (tried_same c.args.seat.now c.loop-lock.seat c.args.lane c.args.modes.now c.loop-lock.lock below c.args.tries c.loop-lock.invariant w.in_default.is)
    ]

pub returns-clause-steps : goal.returns-clause-steps
returns-clause-steps c =
    let end : c.loop-lock.lock ≡ length c.args.modes.now = omega arith in
    tried_all c.args.seat.now c.loop-lock.seat c.args.lane c.args.modes.now c.args.tries (subst (λ k. TriedBelow c.args.seat.now c.loop-lock.seat c.args.lane c.args.modes.now c.args.tries k) end c.loop-lock.invariant)

pub returns-clause-taken : goal.returns-clause-taken
returns-clause-taken c =
    let end : c.loop-lock.lock ≡ length c.args.modes.now = omega arith in
    (took_all c.args.seat.now c.loop-lock.seat c.args.lane c.args.modes.now (subst (λ k. TriedBelow c.args.seat.now c.loop-lock.seat c.args.lane c.args.modes.now c.args.tries k) end c.loop-lock.invariant).taken).0

pub returns-clause-held : goal.returns-clause-held
returns-clause-held c =
    let end : c.loop-lock.lock ≡ length c.args.modes.now = omega arith in
    (took_all c.args.seat.now c.loop-lock.seat c.args.lane c.args.modes.now (subst (λ k. TriedBelow c.args.seat.now c.loop-lock.seat c.args.lane c.args.modes.now c.args.tries k) end c.loop-lock.invariant).taken).1
