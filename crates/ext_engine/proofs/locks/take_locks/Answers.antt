use Rattle.ext_engine.proofs.locks.take_locks.Goals as goal

pub returns-clause-takes : goal.returns-clause-takes
returns-clause-takes g c =
    let taken = c.take_wait.ensures in
    record { events = taken.taken_events; holds = taken.taken; held_set = taken.held.0; names = taken.names; is_held = taken.held.1 }
