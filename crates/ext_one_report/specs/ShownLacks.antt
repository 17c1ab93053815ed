-- What the results of a run on several lanes show of what it lacked, so that laws of runs that lack nothing can be
-- applied to a run by its report (JUnit 5 User Guide, "Parallel Execution"). `Lacking` of ext_plan_parallel says which
-- results show a lack.
use Rattle.std.specs.Prelude.{◌≡◌, ℕ, false, List, map}
use Rattle.ext_model.specs.declared.look.Fault.{Fault}
use Rattle.ext_lifecycle.specs.FaultTexts.{fault_text}
use Rattle.ext_lifecycle.specs.Results.{ResultOf, map_fault}
use Rattle.ext_plan.specs.Plans.{PlanText}
use Rattle.ext_plan.specs.ReadPlans.{IsReadPlan}
use Rattle.ext_plan_parallel.specs.Lacking.{may_have_lacked}
use Rattle.ext_plan_parallel.specs.ParallelRun.{ParallelRun}
use Rattle.ext_plan_plain.specs.PlainRun.{plain_run}
use Rattle.ext_one_report.specs.FullRuns.{LacksNothing}
use Rattle.ext_races.specs.OneReports.{HasOneReport}

-- If no result tells of a lack, the run lacks nothing. A call or a close that lacks something says so in its fault, and
-- a node's result tells whether one of all its faults does.
abbrev pub TellsLacks : Type 0
TellsLacks =
    (plan : PlanText) (lanes : ℕ) (results : List (ResultOf Fault)) → IsReadPlan plan
    → (run : ParallelRun plan lanes results)
    → may_have_lacked (map (map_fault fault_text) results) ≡ false → LacksNothing plan lanes results run

-- Such a run of a plan that has one report reports of each node what the plain run does.
abbrev pub OneReportWithoutLack : Type 0
OneReportWithoutLack =
    (plan : PlanText) (lanes : ℕ) (results : List (ResultOf Fault)) → IsReadPlan plan → HasOneReport plan
    → ParallelRun plan lanes results
    → may_have_lacked (map (map_fault fault_text) results) ≡ false
    → map (map_fault fault_text) results ≡ plain_run plan
