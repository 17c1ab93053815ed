-- What is listed of all faults that were reported of a plan's nodes: a line of each, and one behind them if faults were
-- lost. As JSON a line is an object.
use Rattle.std.specs.Prelude.{Bool, codes, List, [], ◌++◌, ℕ, if◌then◌else◌}
use Rattle.ext_plan_reading.specs.Plans.{PlanText}
use Rattle.ext_plan_reading.specs.ReadPlans.{ids_of_nodes}
use Rattle.ext_tree.specs.Trees.{Id}
use Rattle.ext_run.specs.declared.failures.ReportedFaults.{ReportedFaults}
use Rattle.ext_run.specs.declared.list_form.ListForm.{ListForm}
use Rattle.ext_run.specs.declared.list_form.ListForm.TheVariants as forms
use Rattle.ext_run.specs.FailureJson.{failure_json}
use Rattle.ext_run.specs.Failures.{Listing, failure_line, failures_of}

-- What is listed of a fault in a plan with these ids.
abbrev pub line_in : ListForm → List Id → Listing
line_in forms.Lines ids = failure_line ids
line_in forms.Json ids = failure_json ids

-- That faults were lost.
abbrev pub lost_line : ListForm → List ℕ
lost_line forms.Lines = codes "further faults were lost: no memory"
lost_line forms.Json = codes "{\"lost\":true}"

abbrev pub lost_as : ListForm → Bool → List ℕ
lost_as form are_lost = if are_lost then lost_line form ++ codes "\n" else []

abbrev pub reported_as : ListForm → ReportedFaults → PlanText → List ℕ
reported_as form reported plan =
    failures_of (line_in form (ids_of_nodes plan.nodes)) (ids_of_nodes plan.nodes) reported.faults.items
    ++ lost_as form reported.lost
