use Rattle.ext_store.specs.Stores.{IsLaneOf}
use Rattle.tool_refused_allocations.proofs.store_keys.numbers.Given as goal

abbrev pub invariant-loop-number : goal.invariant-loop-number
invariant-loop-number l = IsLaneOf l.store.id l.lane
