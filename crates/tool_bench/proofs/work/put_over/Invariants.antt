use Rattle.ext_store.specs.Stores.{IsLaneOf}
use Rattle.tool_bench.proofs.work.put_over.Given as goal

abbrev pub invariant-loop-value : goal.invariant-loop-value
invariant-loop-value l = IsLaneOf l.store.id l.lane
