-- One report: for a plan that `OneReports` of ext_races describes, whose nodes keep apart, each run on several lanes that
-- lacks nothing reports the same as the plain run (JUnit 5 User Guide, "Parallel Execution").
use Rattle.std.specs.Prelude.{◌≡◌, ℕ, List, length, map, Some, slice_get}
use Rattle.std.specs.List.{sum_by}
use Rattle.ext_model.specs.declared.look.Fault.{Fault}
use Rattle.ext_lifecycle.specs.FaultTexts.{NodeOutcome, fault_text}
use Rattle.ext_lifecycle.specs.Results.{ResultOf, map_fault}
use Rattle.ext_plan.specs.Plans.{PlanText}
use Rattle.ext_plan.specs.ReadPlans.{IsReadPlan}
use Rattle.ext_plan_parallel.specs.ParallelRun.{ParallelRun}
use Rattle.ext_plan_plain.specs.PlainRun.{plain_run}
use Rattle.ext_races.specs.OneReports.{HasNearReport, HasOneReport}
use Rattle.ext_one_report.specs.Shares.{SharedValues, shares_in, AreNearResults}
use Rattle.ext_one_report.specs.FullRuns.{LacksNothing}

-- Each run of such a plan that lacks nothing reports of each node what the plain run does, on however many lanes and in
-- whatever order they go.
abbrev pub OneReport : Type 0
OneReport =
    (plan : PlanText) (lanes : ℕ) (results : List (ResultOf Fault)) → IsReadPlan plan → HasOneReport plan
    → (run : ParallelRun plan lanes results) → LacksNothing plan lanes results run
    → map (map_fault fault_text) results ≡ plain_run plan

-- The reports are the same for each node, except for which shared values it computed and which it found. All nodes
-- together have computed as many.
pub record AreNearReports (shares : ℕ → SharedValues) (here there : List NodeOutcome) : Type 0 where
  pub count : length here ≡ length there
  pub computed : sum_by (λ outcome. outcome.computed) here ≡ sum_by (λ outcome. outcome.computed) there
  pub near : (node : ℕ) (one other : NodeOutcome) → slice_get here node ≡ Some one → slice_get there node ≡ Some other
      → AreNearResults (shares node) one other

-- Each run of such a plan that lacks nothing reports of each node what the plain run does, with this exception. So all
-- lines of its report are the same, that of sums with them.
abbrev pub NearReport : Type 0
NearReport =
    (plan : PlanText) (lanes : ℕ) (results : List (ResultOf Fault)) → IsReadPlan plan → HasNearReport plan
    → (run : ParallelRun plan lanes results) → LacksNothing plan lanes results run
    → AreNearReports (shares_in plan) (map (map_fault fault_text) results) (plain_run plan)
