use Rattle.std.specs.Prelude.{All}
use Rattle.ext_store.specs.Stores.{IsLaneOf}
use Rattle.test_threads.proofs.naming.ask_all.Given as goal

abbrev pub invariant-loop-at : goal.invariant-loop-at
invariant-loop-at g l = All (IsLaneOf l.store.id) l.lanes
