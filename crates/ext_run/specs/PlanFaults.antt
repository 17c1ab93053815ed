-- All faults of a plan that is refused, by the bytes of its input.
use Rattle.std.specs.Prelude.{ℕ, List, [], ◌∷◌, if◌then◌else◌}
use Rattle.std.specs.Str.{is_utf8}
use Rattle.ext_model.specs.declared.size.Size.{Size}
use Rattle.ext_plan_reading.specs.declared.fault.PlanFault.{PlanFault}
use Rattle.ext_plan_reading.specs.declared.fault.PlanFault.TheVariants as plan
use Rattle.ext_plan_reading.specs.AllFaults.{faults_of_text}

-- Those of the text that these bytes are, of which a plan may be as large as this; or that they are no text.
unfoldable pub faults_of_bytes : Size → List ℕ → List PlanFault
faults_of_bytes size input = if is_utf8 input then faults_of_text size input else plan.NotUtf8 ∷ []
