use Rattle.ext_store.specs.Stores.{IsLaneOf}
use Rattle.tool_soak.proofs.calls.make_calls.Given as goal

abbrev pub invariant-loop-call : goal.invariant-loop-call
invariant-loop-call g l = IsLaneOf l.shared.store.id l.lane
