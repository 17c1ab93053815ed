use Rattle.ext_store.specs.Stores.{IsLaneOf}
use Rattle.tool_soak.proofs.moving.move_often.Given as goal

abbrev pub invariant-loop : goal.invariant-loop
invariant-loop g l = IsLaneOf l.shared.store.id l.lane
