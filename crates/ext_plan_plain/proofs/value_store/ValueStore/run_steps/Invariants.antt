use Rattle.std.proofs.Common.{◌≡◌, ◌≤◌, List, [], drop, map}
use Rattle.ext_plan.specs.Plans.{step_view}
use Rattle.ext_plan_plain.specs.StepRuns.{steps_run}
use Rattle.ext_plan_plain.specs.ValueStates.{Memory, with_memory}
use Rattle.ext_plan_plain.specs.InnerSteps.{state_view}
use Rattle.ext_plan_plain.proofs.Stepping.{after_steps}
use Rattle.ext_plan_plain.proofs.value_store.ValueStore.run_steps.Given as goal
use Rattle.ext_plan.specs.StepCalls.{keys_in}

abbrev pub invariant-loop-step : goal.invariant-loop-step
invariant-loop-step l = record {
  rest : (later : List Memory) → (memory : List Memory)
      × (steps_run (keys_in l.keys) l.path (map step_view l.steps) (with_memory memory (state_view l.initial.self))
      ≡ after_steps l.computed l.found (steps_run (keys_in l.keys) l.path (map step_view (drop l.step-index l.steps)) (with_memory later (state_view l.self))))
      × (later ≡ [] → memory ≡ []);
  computed : l.computed ≤ l.step-index;
  found : l.found ≤ l.step-index;
  passed : l.passed ≡ l.step-index;
}
