use Rattle.ext_store.specs.Stores.{IsLaneOf}
use Rattle.tool_bench.proofs.work.compute_all.Given as goal

abbrev pub invariant-loop-name : goal.invariant-loop-name
invariant-loop-name l = IsLaneOf l.store.id l.lane
