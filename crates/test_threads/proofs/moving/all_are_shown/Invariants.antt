use Rattle.ext_store.specs.Stores.{IsLaneOf}
use Rattle.test_threads.proofs.moving.all_are_shown.Given as goal

abbrev pub invariant-loop-number : goal.invariant-loop-number
invariant-loop-number l = IsLaneOf l.store.id l.lane
