use Rattle.std.specs.Prelude.{◌<◌, length}
use Rattle.ext_store.specs.Stores.{IsLaneOf}
use Rattle.tool_bench.proofs.work.look_up_in_turn.Given as goal

abbrev pub invariant-loop : goal.invariant-loop
invariant-loop l = IsLaneOf l.store.id l.lane × (l.context < length l.store.tree) × (l.last < length l.store.tree)
