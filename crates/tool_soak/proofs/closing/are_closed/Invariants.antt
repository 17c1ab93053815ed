use Rattle.ext_store.specs.Stores.{IsLaneOf}
use Rattle.tool_soak.proofs.closing.are_closed.Given as goal

abbrev pub invariant-loop-context : goal.invariant-loop-context
invariant-loop-context l = IsLaneOf l.shared.store.id l.lane
