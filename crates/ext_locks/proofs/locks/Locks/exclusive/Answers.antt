use Rattle.std.proofs.Common.{refl}
use Rattle.ext_locks.proofs.Calling.{kept, called}
use Rattle.ext_locks.proofs.locks.Locks.exclusive.Goals as goal

pub invariant_of-one : goal.invariant_of-one
invariant_of-one c = kept c.one.inside.seat c.exclude.new.one c.one.inside.number _ c.one.invariant c.exclude.ensures.one

pub invariant_of-other : goal.invariant_of-other
invariant_of-other c = kept c.other.inside.seat c.exclude.new.other c.other.inside.number _ c.other.invariant c.exclude.ensures.other

pub returns-clause-one : goal.returns-clause-one
returns-clause-one c = called c.args.one.now c.one.inside.seat c.exclude.new.one c.one.inside.number _ _ c.one.view_is c.exclude.ensures.one refl

pub returns-clause-other : goal.returns-clause-other
returns-clause-other c = called c.args.other.now c.other.inside.seat c.exclude.new.other c.other.inside.number _ _ c.other.view_is c.exclude.ensures.other refl
