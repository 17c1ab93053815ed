use Rattle.ext_locks.proofs.Waited.{waited_none, waited_more, waited_takes, waited_holds, waited_lane, waited_unheld}
use Rattle.ext_locks.proofs.waiting.wait_for_lock.Goals as goal

pub loop-init : goal.loop-init
loop-init g c = waited_none c.args.seat.now c.args.lane c.requires.lane.legal

pub take_lock-requires-clause-lane : goal.take_lock-requires-clause-lane
take_lock-requires-clause-lane g c = waited_lane c.args.seat.now c.loop.seat c.args.lane c.loop.invariant _ _ c.requires.lane

pub take_lock-requires-clause-lock : goal.take_lock-requires-clause-lock
take_lock-requires-clause-lock g c = c.requires.lock

pub take_lock-requires-clause-unheld : goal.take_lock-requires-clause-unheld
take_lock-requires-clause-unheld g c = waited_unheld c.args.seat.now c.loop.seat c.args.lane c.loop.invariant c.args.lock c.requires.unheld

pub returns-in-Ok-clause-held : goal.returns-in-Ok-clause-held
returns-in-Ok-clause-held g c = waited_holds c.args.seat.now c.loop.seat c.take_lock.new.seat c.args.lane c.loop.invariant c.args.lock c.args.mode c.in-Ok.ensures.held

pub returns-in-Ok-clause-taken : goal.returns-in-Ok-clause-taken
returns-in-Ok-clause-taken g c = waited_takes c.args.seat.now c.loop.seat c.take_lock.new.seat c.args.lane c.loop.invariant c.args.lock c.args.mode c.in-Ok.ensures.taken

pub loop-preserved-in-Err-Taken : goal.loop-preserved-in-Err-Taken
loop-preserved-in-Err-Taken g c = waited_more c.args.seat.now c.loop.seat c.take_lock.new.seat c.args.lane c.loop.invariant c.in-Err-Taken.ensures.missed c.in-Err-Taken.ensures.unheld

pub loop-preserved : goal.loop-preserved
loop-preserved g c = waited_more c.args.seat.now c.loop.seat c.take_lock.new.seat c.args.lane c.loop.invariant c.in-Err-Contended.ensures.missed c.in-Err-Contended.ensures.unheld
