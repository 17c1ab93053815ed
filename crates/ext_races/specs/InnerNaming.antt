-- The keys that steps name, by a plan's declared keys.
use Rattle.std.specs.Prelude.{List, [], map}
use Rattle.std.specs.Borrow.{Bor}
use Rattle.ext_tree.specs.Keys.{KeyValue}
use Rattle.ext_plan.specs.Plans.{KeyText, step_key_view}
use Rattle.ext_plan.specs.StoreKeys.{key_of_step}
use Rattle.ext_plan.specs.declared.plan.StepKey.{StepKey}
use Rattle.ext_races.specs.MadeSteps.{MadeText}
use Rattle.ext_races.specs.Touches.{keys_of_steps}

abbrev pub keys_of : List KeyText → List (Bor StepKey) → List KeyValue
keys_of keys names = map (λ k. key_of_step keys (step_key_view k.now)) names

-- The keys that these steps name.
abbrev pub keys_listed : List KeyText → List MadeText → List KeyValue
keys_listed declared steps = keys_of_steps declared [] steps
