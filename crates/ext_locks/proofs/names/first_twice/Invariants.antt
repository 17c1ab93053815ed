use Rattle.std.proofs.Common.{take}
use Rattle.ext_locks.specs.Names.{texts_of, AreDifferent}
use Rattle.ext_locks.proofs.names.first_twice.Given as goal

abbrev pub invariant-loop-at : goal.invariant-loop-at
invariant-loop-at l = AreDifferent (take l.at (texts_of l.names))
