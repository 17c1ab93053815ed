use Rattle.std.proofs.Common.{◌≤◌, take, map}
use Rattle.ext_plan_plain.specs.ContextEnds.{closeables}
use Rattle.ext_plan_plain.specs.InnerSteps.{state_view, HasClosed}
use Rattle.ext_plan_plain.proofs.value_store.ValueStore.close_values.Given as goal
use Rattle.ext_plan.specs.Values.{close_fault}

abbrev pub invariant-loop-number : goal.invariant-loop-number
invariant-loop-number g l = record {
  closed : HasClosed l.closes (map close_fault (closeables (state_view l.self).values (take l.number-index l.numbers)));
  bounded : l.closes.more_faults ≤ l.closes.closed;
  few : l.closes.closed ≤ l.number-index;
}
