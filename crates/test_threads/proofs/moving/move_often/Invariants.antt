use Rattle.ext_store.specs.Stores.{IsLaneOf}
use Rattle.test_threads.proofs.moving.move_often.Given as goal

abbrev pub invariant-loop-round : goal.invariant-loop-round
invariant-loop-round l = IsLaneOf l.store.id l.lane
