use Rattle.std.proofs.Common.{ℕ, List, subst}
use Rattle.ext_history.proofs.Composed.{same_number}
use Rattle.ext_locks.specs.declared.event.LockMode.{LockMode}
use Rattle.ext_locks.specs.Views.{LaneCalls}
use Rattle.ext_locks.specs.Sets.{gives_of}
use Rattle.test_waiting.proofs.locks.taking.take_and_give.Goals as goal

pub returns-in-Ok-clause-held : goal.returns-in-Ok-clause-held
returns-in-Ok-clause-held c =
    let taken = c.in-Ok.ensures.taken_events in
    c.lock_laws.ensures.compose c.args.lane.now c.try_take.new.lane c.give.new.lane _ _ taken
    (subst (λ (x : ℕ × List (ℕ × LockMode)). LaneCalls c.try_take.new.lane c.give.new.lane (gives_of x.0 x.1)) (λ i. (same_number taken.calls i, c.in-Ok.ensures.held.0 i)) c.give.ensures.events)
