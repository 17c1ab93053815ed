use Rattle.std.specs.Prelude.{All}
use Rattle.ext_store.specs.Stores.{IsCloserOf, IsLaneOf}
use Rattle.tool_soak.proofs.closing.close_beside.Given as goal

abbrev pub invariant-loop : goal.invariant-loop
invariant-loop g l = All (IsLaneOf l.shared.store.id) l.hand × IsCloserOf l.shared.store l.closer
