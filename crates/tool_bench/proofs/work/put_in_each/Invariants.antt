use Rattle.ext_store.specs.Stores.{IsLaneOf}
use Rattle.tool_bench.proofs.work.put_in_each.Given as goal

abbrev pub invariant-loop-context : goal.invariant-loop-context
invariant-loop-context l = IsLaneOf l.store.id l.lane
