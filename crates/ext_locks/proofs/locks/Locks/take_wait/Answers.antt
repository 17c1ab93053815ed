use Rattle.std.proofs.Common.{◌+◌, length, sym, ap, ◌∙◌}
use Rattle.std.proofs.lemmas.List.{length-map}
use Rattle.ext_locks.specs.Opening.{LocksView}
use Rattle.ext_locks.proofs.Calling.{kept, called, takes_same, within}
use Rattle.ext_locks.proofs.locks.Locks.take_wait.Goals as goal

pub wait_for_locks-requires-clause-locks : goal.wait_for_locks-requires-clause-locks
wait_for_locks-requires-clause-locks g c =
    within c.modes.result.now c.args.set.now _ _ c.modes.ensures c.requires.set
    (sym (c.self.invariant.1 ∙ (ap (λ n. n + 1) (sym (length-map c.self.inside.names.items _)) ∙ ap (λ (v : LocksView). length v.names + 1) c.self.view_is)))

pub invariant_of-lane : goal.invariant_of-lane
invariant_of-lane g c = kept c.lane.inside.seat c.wait_for_locks.new.seat c.lane.inside.number _ c.lane.invariant c.wait_for_locks.ensures.taken

pub returns-clause-taken_events : goal.returns-clause-taken_events
returns-clause-taken_events g c =
    called c.args.lane.now c.lane.inside.seat c.wait_for_locks.new.seat c.lane.inside.number _ _ c.lane.view_is c.wait_for_locks.ensures.taken
    (takes_same c.args.lane.now c.lane.inside.seat c.lane.inside.number c.lane.view_is _ _ c.modes.ensures)
