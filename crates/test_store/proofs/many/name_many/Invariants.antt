use Rattle.ext_store.specs.Stores.{IsLaneOf}
use Rattle.test_store.proofs.many.name_many.Given as goal

abbrev pub invariant-loop-number : goal.invariant-loop-number
invariant-loop-number g l = IsLaneOf l.store.id l.lane
