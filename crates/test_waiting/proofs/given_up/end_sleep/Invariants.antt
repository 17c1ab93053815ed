use Rattle.ext_store.specs.Stores.{IsLaneOf}
use Rattle.test_waiting.proofs.given_up.end_sleep.Given as goal

abbrev pub invariant-loop : goal.invariant-loop
invariant-loop l = IsLaneOf l.store.id l.lane
