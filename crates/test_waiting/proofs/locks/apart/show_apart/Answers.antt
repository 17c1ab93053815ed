use Rattle.test_waiting.proofs.locks.apart.show_apart.Goals as goal

pub returns-then-number-clause-one : goal.returns-then-number-clause-one
returns-then-number-clause-one c = c.lock_laws.ensures.none c.args.one.now

pub returns-then-number-clause-other : goal.returns-then-number-clause-other
returns-then-number-clause-other c = c.lock_laws.ensures.none c.args.other.now
