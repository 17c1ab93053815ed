-- What the fields of a suite keep. No public contract cites it.
use Rattle.std.specs.Prelude.{◌≡◌, List, map}
use Rattle.ext_tree.specs.Keys.{KeyValue}
use Rattle.ext_plan.specs.StoreKeys.{named_key}
use Rattle.ext_plan.specs.ReadPlans.{CallbacksAreFew, StepListsAreShort}
use Rattle.ext_plan.specs.Plans.{PlanText}

-- The keys are those of the plan's labels, and the plan's lists are not too long.
pub record IsSuiteOf (plan : PlanText) (keys : List KeyValue) : Type 0 where
  pub keyed : keys ≡ map named_key plan.keys
  pub short : StepListsAreShort plan
  pub few : CallbacksAreFew plan
