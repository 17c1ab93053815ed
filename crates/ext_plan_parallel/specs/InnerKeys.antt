-- The keys of the plan whose steps are made.
use Rattle.std.specs.Prelude.{List}
use Rattle.ext_plan.specs.Plans.{KeyText}
use Rattle.ext_plan.specs.StepCalls.{keys_in}
use Rattle.ext_plan_parallel.specs.declared.steps.store_steps.StoreSteps.{StoreSteps}

-- The keys by whose labels the steps name them.
abbrev pub plan_keys : StoreSteps → List KeyText
plan_keys s = keys_in s.names
