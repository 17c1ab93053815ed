use Rattle.ext_store.specs.Stores.{IsLaneOf}
use Rattle.test_waiting.proofs.given_up.race.Given as goal

abbrev pub invariant-loop : goal.invariant-loop
invariant-loop g l = IsLaneOf l.store.id l.lane
