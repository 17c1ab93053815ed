-- What a run makes of the bytes of its input: the report of a run of the plan that they write (`Reports`), or the fault
-- of a refused plan (`RefusedAs`). Texts are lists of bytes.
use Rattle.std.specs.Prelude.{◌≡◌, ℕ, Bool, true, false, List, length, map, nat_lt, Result, Ok, Err, IsOk, if◌then◌else◌}
use Rattle.std.specs.Str.{is_utf8}
use Rattle.ext_plan_parallel.specs.Fault.{Fault}
use Rattle.ext_lifecycle.specs.FaultTexts.{NodeOutcome, fault_text}
use Rattle.ext_lifecycle.specs.Results.{ResultOf, map_fault}
use Rattle.ext_model.specs.declared.size.Size.{Size}
use Rattle.ext_model.specs.declared.size.Size.TheVariants as sizes
use Rattle.ext_plan_reading.specs.declared.fault.PlanFault.{PlanFault}
use Rattle.ext_plan_reading.specs.declared.fault.PlanFault.TheVariants as plan
use Rattle.ext_plan_reading.specs.Plans.{PlanText}
use Rattle.ext_plan_reading.specs.Reading.{plan_of_text}
use Rattle.ext_plan_reading.specs.ReadPlans.{ids_of_nodes}
use Rattle.ext_report.specs.Report.{any_failed}
use Rattle.ext_report.specs.Forms.{report_in}
use Rattle.ext_report.specs.declared.form.ReportForm.{ReportForm}
use Rattle.ext_plan_plain.specs.PlainRun.{ArePlain}
use Rattle.ext_plan_parallel.specs.EngineFault.{EngineFault}
use Rattle.ext_plan_parallel.specs.Lacking.{may_have_lacked}
use Rattle.ext_plan_parallel.specs.ParallelRun.{IsRefusedRun, ParallelRun}
use Rattle.ext_run.specs.declared.fault.RunFault.{RunFault}
use Rattle.ext_run.specs.declared.fault.RunFault.TheVariants as faults
use Rattle.ext_run.specs.declared.options.Options.{Options}

-- How many bytes a plan of this size has at most: 1 MiB, or 64 MiB.
abbrev pub input_limit : Size → ℕ
input_limit sizes.Usual = 1048576
input_limit sizes.Large = 67108864

-- ---- the plan that is read

-- What was read, with a plan's fault as a run's.
abbrev pub plan_or_fault : Result PlanText PlanFault → Result PlanText RunFault
plan_or_fault (Ok read) = Ok read
plan_or_fault (Err fault) = Err (faults.Plan fault)

-- The plan that these bytes write, which may be as large as this.
unfoldable pub plan_of_bytes : Size → List ℕ → Result PlanText RunFault
plan_of_bytes size input = if is_utf8 input then plan_or_fault (plan_of_text size input)
    else Err (faults.Plan plan.NotUtf8)

-- The plan that an input writes. An input that is too long is refused as such, whatever its bytes.
unfoldable pub plan_of_input : Size → List ℕ → Result PlanText RunFault
plan_of_input size input = if nat_lt (input_limit size) (length input) then Err faults.TooLong
    else plan_of_bytes size input

-- ---- its run, and the report

-- The results of some run on `lanes` lanes, with the texts of their faults.
pub record RunsOnLanes (plan : PlanText) (lanes : ℕ) (results : List NodeOutcome) : Type 0 where
  pub ran : List (ResultOf Fault)
  pub run : ParallelRun plan lanes ran
  pub texts : results ≡ map (map_fault fault_text) ran

-- The results of the nodes, and whether a step may have lacked something. A plain run can only lack memory. A run on
-- several lanes may lack anything, as the results show.
abbrev pub IsRunBy : Bool → ℕ → PlanText → List NodeOutcome → Bool → Type 0
IsRunBy true lanes plan results lacked = ArePlain plan results lacked
IsRunBy false lanes plan results lacked = RunsOnLanes plan lanes results × (lacked ≡ may_have_lacked results)

abbrev pub IsRunAs : Options → PlanText → List NodeOutcome → Bool → Type 0
IsRunAs options plan results lacked = IsRunBy options.plain options.lanes plan results lacked

-- What a run gives: a report, whether a node failed, and whether a step may have lacked something.
pub record RunReport : Type 0 where
  pub report : List ℕ
  pub failed : Bool
  pub lacked : Bool

-- The report of these results in this form.
abbrev pub run_report_of : ReportForm → PlanText → List NodeOutcome → Bool → RunReport
run_report_of form plan results lacked = record {
  report = report_in form (ids_of_nodes plan.nodes) results;
  failed = any_failed results;
  lacked = lacked;
}

-- It is the report of a run of this plan.
pub record IsReportOf (options : Options) (plan : PlanText) (given : RunReport) : Type 0 where
  pub results : List NodeOutcome
  pub run : IsRunAs options plan results given.lacked
  pub report_is : given ≡ run_report_of options.form plan results given.lacked

-- It is the report of a run of this plan that had these results.
pub record IsReportBy (options : Options) (plan : PlanText) (results : List NodeOutcome) (given : RunReport) : Type 0 where
  pub run : IsRunAs options plan results given.lacked
  pub report_is : given ≡ run_report_of options.form plan results given.lacked

-- What was read is a plan, and this is the report of a run of it.
abbrev pub Reports : Options → Result PlanText RunFault → RunReport → Type 0
Reports options (Ok plan) given = IsReportOf options plan given
Reports options (Err fault) given = ⊥

-- ---- what a fault means

-- Why no input is handed out. The other faults come later in a run.
abbrev pub IsReadFault : RunFault → Type 0
IsReadFault faults.Read = Unit {0}
IsReadFault faults.Write = ⊥
IsReadFault faults.TooLong = Unit {0}
IsReadFault (faults.Plan fault) = ⊥
IsReadFault (faults.Engine fault) = ⊥
IsReadFault faults.Memory = Unit {0}

-- The plan is refused with this fault. A lack of memory says nothing of the plan.
abbrev pub RefusedPlan : PlanFault → Result PlanText RunFault → Type 0
RefusedPlan plan.Memory read = Unit {0}
RefusedPlan fault read = read ≡ Err (faults.Plan fault)

-- The plan was read, and its run on several lanes was refused with this fault.
abbrev pub RefusedRun : Bool → ℕ → EngineFault → Result PlanText RunFault → Type 0
RefusedRun plain lanes fault (Ok plan) = (plain ≡ false) × IsRefusedRun plan lanes fault
RefusedRun plain lanes fault (Err other) = ⊥

-- A plan that is too long or refused is answered as such, and so is a plan whose run was refused. If a write failed
-- there was a report to write. A failed read and a lack of memory say nothing of the plan.
abbrev pub RefusedBy : Bool → ℕ → RunFault → Result PlanText RunFault → Type 0
RefusedBy plain lanes faults.Read read = Unit {0}
RefusedBy plain lanes faults.Write read = IsOk read
RefusedBy plain lanes faults.TooLong read = read ≡ Err faults.TooLong
RefusedBy plain lanes (faults.Plan fault) read = RefusedPlan fault read
RefusedBy plain lanes (faults.Engine fault) read = RefusedRun plain lanes fault read
RefusedBy plain lanes faults.Memory read = Unit {0}

abbrev pub RefusedAs : Options → RunFault → Result PlanText RunFault → Type 0
RefusedAs options fault read = RefusedBy options.plain options.lanes fault read

-- The fault is of a run: of a plan that was read it is never said that it is too long or refused.
abbrev pub IsRunFault : RunFault → Type 0
IsRunFault faults.Read = ⊥
IsRunFault faults.Write = Unit {0}
IsRunFault faults.TooLong = ⊥
IsRunFault (faults.Plan fault) = ⊥
IsRunFault (faults.Engine fault) = Unit {0}
IsRunFault faults.Memory = Unit {0}
