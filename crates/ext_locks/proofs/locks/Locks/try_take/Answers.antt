use Rattle.std.proofs.Common.{◌+◌, length, sym, ap, ◌∙◌}
use Rattle.std.proofs.lemmas.List.{length-map}
use Rattle.ext_locks.specs.Opening.{LocksView}
use Rattle.ext_locks.proofs.Calling.{kept, called, takes_same, within}
use Rattle.ext_locks.proofs.locks.Locks.try_take.Goals as goal

pub take_locks-requires-clause-locks : goal.take_locks-requires-clause-locks
take_locks-requires-clause-locks c =
    within c.modes.result.now c.args.set.now _ _ c.modes.ensures c.requires.set
    (sym (c.self.invariant.1 ∙ (ap (λ n. n + 1) (sym (length-map c.self.inside.names.items _)) ∙ ap (λ (v : LocksView). length v.names + 1) c.self.view_is)))

pub invariant_of-lane : goal.invariant_of-lane
invariant_of-lane c = kept c.lane.inside.seat c.take_locks.new.seat c.lane.inside.number _ c.lane.invariant c.in-Ok.ensures.taken

pub invariant_of-lane-in-Err : goal.invariant_of-lane-in-Err
invariant_of-lane-in-Err c = kept c.lane.inside.seat c.take_locks.new.seat c.lane.inside.number _ c.lane.invariant c.in-Err.ensures.undone

pub returns-in-Ok-clause-taken_events : goal.returns-in-Ok-clause-taken_events
returns-in-Ok-clause-taken_events c =
    called c.args.lane.now c.lane.inside.seat c.take_locks.new.seat c.lane.inside.number _ _ c.lane.view_is c.in-Ok.ensures.taken
    (takes_same c.args.lane.now c.lane.inside.seat c.lane.inside.number c.lane.view_is _ _ c.modes.ensures)
