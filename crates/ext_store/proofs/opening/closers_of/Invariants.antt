use Rattle.std.proofs.Common.{◌≡◌}
use Rattle.ext_store.specs.Stores.{closers_below}
use Rattle.ext_store.proofs.opening.closers_of.Given as goal

abbrev pub invariant-loop-context : goal.invariant-loop-context
invariant-loop-context l = l.closers.items ≡ closers_below l.cells.id l.context
