use Rattle.ext_store.specs.Stores.{IsLaneOf}
use Rattle.test_waiting.proofs.crowd.make_all_calls.Given as goal

abbrev pub invariant-loop-round : goal.invariant-loop-round
invariant-loop-round g l = IsLaneOf l.store.id l.lane
