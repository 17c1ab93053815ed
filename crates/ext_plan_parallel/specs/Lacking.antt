-- Whether the results of a run tell that a step or close lacked something (`Lacks` of ext_model). A step of a plan that is
-- refused for it says so (`StepTexts` of ext_plan). JUnit has no such results.
use Rattle.std.specs.Prelude.{Bool, List}
use Rattle.std.specs.List.{list_any}
use Rattle.ext_lifecycle.specs.FaultTexts.{NodeOutcome}

abbrev pub may_have_lacked : List NodeOutcome → Bool
may_have_lacked results = list_any (λ r. r.lacked) results
