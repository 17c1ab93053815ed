use Rattle.std.specs.Prelude.{All}
use Rattle.ext_store.specs.Stores.{IsCloserOf, IsLaneOf}
use Rattle.tool_soak.proofs.closing.close_all.Given as goal

abbrev pub invariant-loop : goal.invariant-loop
invariant-loop l = All (IsLaneOf l.shared.store.id) l.lanes × All (IsCloserOf l.shared.store) l.closers.items
