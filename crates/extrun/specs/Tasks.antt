-- What was done once a plan was run or checked, as a command line asks for. Texts are lists of bytes.
use Rattle.std.specs.Prelude.{◌≡◌, ◌<◌, ◌≤◌, ◌⊎◌, ℕ, Bool, true, false, List, All, length, Option, Result, Ok, Err, IfErr, IfOk}
use Rattle.std.specs.Io.KnownBytes.{Appends}
use Rattle.ext_plan_reading.specs.Plans.{PlanText}
use Rattle.ext_plan_reading.specs.ReadPlans.{ids_of_nodes}
use Rattle.ext_report.specs.declared.form.ReportForm.{ReportForm}
use Rattle.ext_report.specs.declared.form.ReportForm.TheVariants as forms
use Rattle.ext_run.specs.OneReports.{ReportsOne}
use Rattle.ext_run.specs.Reports.{IsReadFault, RefusedAs, Reports, RunReport, plan_of_input}
use Rattle.ext_run.specs.declared.fault.RunFault.{RunFault}
use Rattle.ext_run.specs.declared.request_fault.RequestFault.{RequestFault}
use Rattle.ext_run.specs.declared.request_fault.RequestFault.TheVariants as requests
use Rattle.ext_run.specs.Checks.{IsCountsOf, IsRacesOf, RefusedUnrun}
use Rattle.ext_run.specs.Drawings.{IsTextOf, drawing_of}
use Rattle.ext_run.specs.Lints.{IsNotesOf}
use Rattle.ext_run.specs.declared.options.Options.{Options}
use Rattle.ext_run.specs.declared.options.Summary.{Summary}
use Rattle.ext_run.specs.declared.runs.PlanRun.{PlanRun}
use Rattle.extrun.specs.declared.command.Task.{Task}
use Rattle.extrun.specs.declared.command.Task.TheVariants as tasks

-- A number of lanes that a command line may ask for.
pub record AsksLanes (options : Options) : Type 0 where
  pub some : 1 ≤ options.lanes
  pub few : options.lanes ≤ 16

-- A report was written of which this is true.
abbrev pub IsReportWritten : (RunReport → Type 0) → Summary → (List ℕ → Type 0) → Type 0
IsReportWritten Is summary Written =
    (report : List ℕ) × Is (record { report = report; failed = summary.failed; lacked = summary.lacked })
    × Written report

-- The plan of this input was run with exactly these options, and its report written.
abbrev pub IsReported : Options → List ℕ → Summary → (List ℕ → Type 0) → Type 0
IsReported options input summary Written =
    IsReportWritten (Reports options (plan_of_input options.size input)) summary Written

-- If the run lacked nothing, and that plan has one report, what was written is the report of its plain run.
abbrev pub IsOneReported : Options → List ℕ → Summary → (List ℕ → Type 0) → Type 0
IsOneReported options input summary Written =
    IsReportWritten (ReportsOne options (plan_of_input options.size input)) summary Written

-- The task was done with the plan of this input. What was written is the report of a run with exactly these options,
-- the line of the plan's counts, its drawing, or its races or notes in this form; then the summary says whether there
-- is one.
abbrev pub IsDone : Task → List ℕ → Summary → (List ℕ → Type 0) → Type 0
IsDone (tasks.Run options asked color asides) input summary Written =
    AsksLanes options → IsReported options input summary Written
IsDone (tasks.Check size) input summary Written = (line : List ℕ) × IsCountsOf (plan_of_input size input) line
    × Written line
IsDone (tasks.CheckAll size) input summary Written = (line : List ℕ) × IsCountsOf (plan_of_input size input) line
    × Written line
IsDone (tasks.Draw size) input summary Written = (text : List ℕ) × IsTextOf drawing_of (plan_of_input size input) text
    × Written text
IsDone (tasks.CheckRaces size form) input summary Written = (text : List ℕ)
    × IsRacesOf form (plan_of_input size input) text summary.failed × Written text
IsDone (tasks.Lint size form) input summary Written = (text : List ℕ)
    × IsNotesOf form (plan_of_input size input) text summary.failed × Written text

-- If the task is a run, what was written is the one report in this sense. Other tasks run no plan.
abbrev pub IsOneDone : Task → List ℕ → Summary → (List ℕ → Type 0) → Type 0
IsOneDone (tasks.Run options asked color asides) input summary Written =
    AsksLanes options → IsOneReported options input summary Written
IsOneDone (tasks.Check size) input summary Written = Unit {0}
IsOneDone (tasks.CheckAll size) input summary Written = Unit {0}
IsOneDone (tasks.Draw size) input summary Written = Unit {0}
IsOneDone (tasks.CheckRaces size form) input summary Written = Unit {0}
IsOneDone (tasks.Lint size form) input summary Written = Unit {0}

-- Why a run with exactly these options has no report. An input that is too long, a refused plan and a refused run are
-- reported as such, and nothing else is.
abbrev pub IsRefused : Options → List ℕ → RunFault → Type 0
IsRefused options input fault = RefusedAs options fault (plan_of_input options.size input)

-- The task was not done with the plan of this input, which is refused as by the call of `ext_run`.
abbrev pub IsUndone : Task → List ℕ → RunFault → Type 0
IsUndone (tasks.Run options asked color asides) input fault = AsksLanes options → IsRefused options input fault
IsUndone (tasks.Check size) input fault = RefusedUnrun fault (plan_of_input size input)
IsUndone (tasks.CheckAll size) input fault = RefusedUnrun fault (plan_of_input size input)
IsUndone (tasks.Draw size) input fault = RefusedUnrun fault (plan_of_input size input)
IsUndone (tasks.CheckRaces size form) input fault = RefusedUnrun fault (plan_of_input size input)
IsUndone (tasks.Lint size form) input fault = RefusedUnrun fault (plan_of_input size input)

-- What a run of this plan with exactly these options came to, if it was read: a report of it was written, which is the
-- one report if the plan has one, or why there is none.
pub record IsRunOutcome (options : Options) (read : Result PlanText RunFault) (outcome : Result Summary RunFault)
    (Written : List ℕ → Type 0) : Type 0 where
  pub done : IfOk outcome (λ summary. IsReportWritten (Reports options read) summary Written)
  pub one_report : IfOk outcome (λ summary. IsReportWritten (ReportsOne options read) summary Written)
  pub refused : IfErr outcome (λ fault. RefusedAs options fault read)

-- The same of a run of this plan, with its results, which are of the plan's nodes.
pub record IsPlanOutcome (options : Options) (plan : PlanText) (outcome : Result PlanRun RunFault)
    (Written : List ℕ → Type 0) : Type 0 where
  pub done : IfOk outcome (λ ran. IsReportWritten (Reports options (Ok plan)) ran.summary Written)
  pub one_report : IfOk outcome (λ ran. IsReportWritten (ReportsOne options (Ok plan)) ran.summary Written)
  pub in_tree : IfOk outcome (λ ran. All (λ r. r.node < length (ids_of_nodes plan.nodes)) ran.results.items)
  pub refused : IfErr outcome (λ fault. RefusedAs options fault (Ok plan))

-- ---- for people

abbrev pub form_is_for_people : ReportForm → Bool
form_is_for_people forms.Text = false
form_is_for_people forms.Json = false
form_is_for_people forms.Tree = false
form_is_for_people forms.Junit = false
form_is_for_people (forms.Terminal colored) = true

-- The task is a run whose report is for people. Behind it the time of the run is written.
abbrev pub is_for_people : Task → Bool
is_for_people (tasks.Run options asked color asides) = form_is_for_people options.form
is_for_people (tasks.Check size) = false
is_for_people (tasks.CheckAll size) = false
is_for_people (tasks.Draw size) = false
is_for_people (tasks.CheckRaces size form) = false
is_for_people (tasks.Lint size form) = false

-- This text was appended and nothing else, unless it is for people.
abbrev pub AppendsFor : Task → Option (List ℕ) → Option (List ℕ) → List ℕ → Type 0
AppendsFor task old new text = is_for_people task ≡ false → Appends old new text

-- ---- requests

-- The outcome of a task as that of its request.
abbrev pub request_outcome : {T : Type 0} → Result T RunFault → Result T RequestFault
request_outcome (Ok done) = Ok done
request_outcome (Err fault) = Err (requests.Run fault)

-- The request was not done, since the task was not done with the plan of this input.
abbrev pub IsUndoneRequest : Task → List ℕ → RequestFault → Type 0
IsUndoneRequest task input requests.CommandLine = ⊥
IsUndoneRequest task input (requests.Id fault) = ⊥
IsUndoneRequest task input (requests.Parts fault) = ⊥
IsUndoneRequest task input (requests.Run fault) = IsUndone task input fault

-- The request was not done, since its input was not read.
abbrev pub IsUnreadRequest : RequestFault → Type 0
IsUnreadRequest requests.CommandLine = ⊥
IsUnreadRequest (requests.Id fault) = ⊥
IsUnreadRequest (requests.Parts fault) = ⊥
IsUnreadRequest (requests.Run fault) = IsReadFault fault

-- What became of the request, whatever its input was.
pub record IsRequestDone (task : Task) (outcome : Result Summary RequestFault) (Written : List ℕ → Type 0) : Type 0 where
  pub done : IfOk outcome (λ summary. (input : List ℕ) × IsDone task input summary Written
      × IsOneDone task input summary Written)
  pub refused : IfErr outcome (λ fault. IsUnreadRequest fault ⊎ ((input : List ℕ) × IsUndoneRequest task input fault))
