use Rattle.std.proofs.Common.{◌≡◌, ◌≤◌, drop, map}
use Rattle.ext_plan.specs.Plans.{step_view}
use Rattle.ext_store.specs.Stores.{IsLaneOf}
use Rattle.ext_plan_parallel.specs.InnerKeys.{plan_keys}
use Rattle.ext_plan_parallel.specs.StoreCalls.{HasFrame}
use Rattle.ext_plan_parallel.proofs.StepLists.{IsLeft}
use Rattle.ext_plan_parallel.proofs.steps.store_steps.StoreSteps.run.Given as goal

abbrev pub invariant-loop-step : goal.invariant-loop-step
invariant-loop-step g l = record {
  left : IsLeft l.store (plan_keys l.self) l.path (map step_view l.steps) (map step_view (drop l.step-index l.steps)) l.initial.lane l.lane l.computed l.found;
  computed : l.computed ≤ l.step-index;
  found : l.found ≤ l.step-index;
  passed : l.passed ≡ l.step-index;
  lane : IsLaneOf l.store.id l.lane;
  frame : HasFrame l.store l.initial.lane l.lane;
}
