use Rattle.ext_store.specs.Stores.{IsLaneOf}
use Rattle.test_store.proofs.large.keep_many.Given as goal

abbrev pub invariant-loop-before : goal.invariant-loop-before
invariant-loop-before g l = IsLaneOf l.store.id l.lane
