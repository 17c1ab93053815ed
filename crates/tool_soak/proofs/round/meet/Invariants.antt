use Rattle.std.specs.Prelude.{All}
use Rattle.ext_store.specs.Stores.{IsLaneOf}
use Rattle.tool_soak.proofs.round.meet.Given as goal

abbrev pub invariant-loop-at : goal.invariant-loop-at
invariant-loop-at l = IsLaneOf l.shared.store.id l.lane × All (IsLaneOf l.shared.store.id) l.others
