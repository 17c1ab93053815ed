use Rattle.std.proofs.Common.{arith}
use Rattle.ext_engine.proofs.Fresh.{fresh_usable}
use Rattle.ext_engine.proofs.opening.open_run.Goals as goal

pub returns-clause-usable : goal.returns-clause-usable
returns-clause-usable g c =
    let fit = c.in_ok-store.ensures.within.others_fit.lanes_fit in
    let is = c.lanes-most.ensures.lanes in
    let most = c.lanes-most.ensures.within in
    fresh_usable c.in_ok-store.store c.in_ok-locks.locks c.args.limits.lanes c.in_ok-store.lanes.items c.in_ok-locks.lock_lanes.items
    (fit.0, omega (arith, fit.1, is, most.1)) c.in_ok-store.ensures.lanes c.in_ok-store.ensures.own_lanes c.in_ok-locks.ensures.opened.lanes_made
