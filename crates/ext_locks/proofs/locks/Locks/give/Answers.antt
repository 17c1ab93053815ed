use Rattle.std.proofs.Common.{sym, ap, ◌∙◌}
use Rattle.ext_locks.specs.Opening.{LocksView}
use Rattle.std.proofs.Math.Seq.{take-length}
use Rattle.ext_locks.specs.Sets.{HeldView, locks_of}
use Rattle.ext_locks.proofs.Calling.{kept, called, gives_same, within, still_held}
use Rattle.ext_locks.proofs.locks.Locks.give.Goals as goal

pub give_locks-requires-clause-locks : goal.give_locks-requires-clause-locks
give_locks-requires-clause-locks c =
    within c.modes-modes.result.now c.held.inside.set _ _ c.modes-modes.ensures c.held.invariant.1
    (ap (λ t. t.words) (ap (λ (h : HeldView). h.table) c.held.view_is ∙ (sym c.requires.held.same_table ∙ (c.requires.lane ∙ sym (ap (λ (v : LocksView). v.table) c.self.view_is)))) ∙ sym c.self.invariant.0)

pub give_locks-requires-clause-held : goal.give_locks-requires-clause-held
give_locks-requires-clause-held c =
    still_held _ c.held.inside.taken.value c.args.lane.now c.args.held c.lane.inside.seat c.lane.inside.number c.modes-modes.result.now c.held.inside.set c.lane.view_is c.modes-modes.ensures c.held.view_is c.held.invariant.0 c.requires.held

pub invariant_of-lane : goal.invariant_of-lane
invariant_of-lane c = kept c.lane.inside.seat c.give_locks.new.seat c.lane.inside.number _ c.lane.invariant c.give_locks.ensures.events

pub returns-clause-events : goal.returns-clause-events
returns-clause-events c =
    called c.args.lane.now c.lane.inside.seat c.give_locks.new.seat c.lane.inside.number _ _ c.lane.view_is c.give_locks.ensures.events
    (gives_same c.args.lane.now c.lane.inside.seat c.lane.inside.number c.lane.view_is _ _ (ap locks_of (take-length c.modes-modes.result.now) ∙ (c.modes-modes.ensures ∙ ap (λ (h : HeldView). h.set) c.held.view_is)))
