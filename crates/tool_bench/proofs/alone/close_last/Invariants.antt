use Rattle.std.specs.Prelude.{All}
use Rattle.ext_store.specs.Stores.{IsCloserOf, IsLaneOf}
use Rattle.tool_bench.proofs.alone.close_last.Given as goal

abbrev pub invariant-loop : goal.invariant-loop
invariant-loop l = All (IsLaneOf l.store.id) l.lanes × All (IsCloserOf l.store) l.closers.items
