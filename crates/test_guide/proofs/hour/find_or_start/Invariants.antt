use Rattle.ext_store.specs.Stores.{IsLaneOf}
use Rattle.test_guide.proofs.hour.find_or_start.Given as goal

abbrev pub invariant-loop : goal.invariant-loop
invariant-loop g l = IsLaneOf l.store.id l.lane
