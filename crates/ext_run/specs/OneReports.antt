-- What a run writes of a plan that has one report: that of the plan's plain run, in the form that was asked for, on
-- however many lanes and over whichever store it went. `OneReports` of ext_races says which plans have one, and `check`
-- with `--races` tells it of a plan (JUnit has no such rule).
use Rattle.std.specs.Prelude.{◌≡◌, Bool, true, false, List, Result, Ok, Err}
use Rattle.ext_lifecycle.specs.FaultTexts.{NodeOutcome}
use Rattle.ext_plan_reading.specs.Plans.{PlanText}
use Rattle.ext_plan_plain.specs.PlainRun.{plain_run}
use Rattle.ext_races.specs.OneReports.{HasNearReport, HasOneReport}
use Rattle.ext_one_report.specs.OneReport.{AreNearReports}
use Rattle.ext_one_report.specs.Shares.{shares_in}
use Rattle.ext_report.specs.declared.form.ReportForm.{ReportForm}
use Rattle.ext_report.specs.declared.form.ReportForm.TheVariants as forms
use Rattle.ext_run.specs.declared.fault.RunFault.{RunFault}
use Rattle.ext_run.specs.declared.options.Options.{Options}
use Rattle.ext_run.specs.Reports.{RunReport, run_report_of}

-- The report of the plain run whose steps all find enough memory.
abbrev pub plain_report : ReportForm → PlanText → RunReport
plain_report form plan = run_report_of form plan (plain_run plan) false

-- The report of results that differ from those of the plain run only in which shared values a node computed, and which
-- it found.
pub record IsNearReport (form : ReportForm) (plan : PlanText) (given : RunReport) : Type 0 where
  pub results : List NodeOutcome
  pub near : AreNearReports (shares_in plan) results (plain_run plan)
  pub report_is : given ≡ run_report_of form plan results false

-- The form tells what each node computed and found. Any other tells the sums at most.
abbrev pub tells_each : ReportForm → Bool
tells_each forms.Text = false
tells_each forms.Json = true
tells_each forms.Tree = false
tells_each forms.Junit = false
tells_each (forms.Terminal colored) = false

-- What a run gave that lacked nothing. The report of a plain run is always that one.
pub record IsOneReport (options : Options) (plan : PlanText) (given : RunReport) : Type 0 where
  pub plain : options.plain ≡ true → given ≡ plain_report options.form plan
  pub one : HasOneReport plan → given ≡ plain_report options.form plan
  pub near : HasNearReport plan → IsNearReport options.form plan given
  pub sums : HasNearReport plan → tells_each options.form ≡ false → given ≡ plain_report options.form plan

-- What was read is a plan, and if the run lacked nothing, this is what it gave.
abbrev pub ReportsOne : Options → Result PlanText RunFault → RunReport → Type 0
ReportsOne options (Ok plan) given = given.lacked ≡ false → IsOneReport options plan given
ReportsOne options (Err fault) given = ⊥
