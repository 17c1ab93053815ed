use Rattle.std.specs.Prelude.{All}
use Rattle.ext_store.specs.Stores.{IsCloserOf, IsLaneOf}
use Rattle.tool_soak.proofs.closing.close_some.Given as goal

abbrev pub invariant-loop : goal.invariant-loop
invariant-loop g l = record {
  lanes : All (IsLaneOf l.shared.store.id) l.hand;
  closers : All (IsCloserOf l.shared.store) l.closers.items;
  left : All (IsCloserOf l.shared.store) l.left.items;
}
