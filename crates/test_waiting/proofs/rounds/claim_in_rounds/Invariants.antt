use Rattle.ext_store.specs.Stores.{IsLaneOf}
use Rattle.test_waiting.proofs.rounds.claim_in_rounds.Given as goal

abbrev pub invariant-loop-before : goal.invariant-loop-before
invariant-loop-before g l = IsLaneOf l.store.id l.lane
