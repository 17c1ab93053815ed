use Rattle.ext_store.specs.Stores.{IsLaneOf}
use Rattle.test_threads.proofs.naming.ask.Given as goal

abbrev pub invariant-loop-at : goal.invariant-loop-at
invariant-loop-at g l = IsLaneOf l.store.id l.lane
