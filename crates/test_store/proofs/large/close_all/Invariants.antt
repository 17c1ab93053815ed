use Rattle.std.specs.Prelude.{All}
use Rattle.ext_store.specs.Stores.{IsCloserOf, IsLaneOf}
use Rattle.test_store.proofs.large.close_all.Given as goal

abbrev pub invariant-loop-after : goal.invariant-loop-after
invariant-loop-after g l = IsLaneOf l.store.id l.lane × All (IsCloserOf l.store) l.closers.items
