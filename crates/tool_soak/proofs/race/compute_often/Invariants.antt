use Rattle.ext_store.specs.Stores.{IsLaneOf}
use Rattle.tool_soak.proofs.race.compute_often.Given as goal

abbrev pub invariant-loop-number : goal.invariant-loop-number
invariant-loop-number l = IsLaneOf l.deep.store.id l.lane
