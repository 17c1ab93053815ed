use Rattle.ext_store.specs.Stores.{IsLaneOf}
use Rattle.test_store.proofs.large.put_in_all.Given as goal

abbrev pub invariant-loop-at : goal.invariant-loop-at
invariant-loop-at g l = IsLaneOf l.store.id l.lane
