use Rattle.ext_store.specs.Stores.{IsLaneOf}
use Rattle.test_threads.proofs.naming.name_all.Given as goal

abbrev pub invariant-loop-turn : goal.invariant-loop-turn
invariant-loop-turn l = IsLaneOf l.store.id l.lane
