use Rattle.ext_store.specs.Stores.{IsLaneOf}
use Rattle.tool_soak.proofs.closing.is_closed.Given as goal

abbrev pub invariant-loop-number : goal.invariant-loop-number
invariant-loop-number l = IsLaneOf l.shared.store.id l.lane
