-- The outcome of a task as that of its request, and what is written behind a report.
use Rattle.std.proofs.Common.{◌≡◌, ℕ, List, false, Option, Result, Ok, Err, IfOk, subst, sym}
use Rattle.std.specs.Prelude.{IfErr}
use Rattle.std.specs.Io.KnownBytes.{Appends}
use Rattle.ext_run.specs.OneReports.{ReportsOne}
use Rattle.ext_run.specs.Reports.{Reports, RunReport, plan_of_input}
use Rattle.ext_run.specs.declared.fault.RunFault.{RunFault}
use Rattle.ext_run.specs.declared.options.Summary.{Summary}
use Rattle.extrun.specs.Tasks.{AppendsFor, IsDone, IsOneDone, IsReportWritten, IsUndone, IsUndoneRequest, is_for_people, request_outcome}
use Rattle.extrun.specs.declared.command.Task.{Task}
use Rattle.extrun.specs.declared.command.Task.TheVariants as tasks

module _ (Written Weaker : List ℕ → Type 0) (weaker : (text : List ℕ) → Written text → Weaker text) where
  written-weaker : (Is : RunReport → Type 0) (summary : Summary) → IsReportWritten Is summary Written → IsReportWritten Is summary Weaker
  written-weaker Is summary is = (is.0, is.1, weaker is.0 is.2)

  done-weaker : (task : Task) (input : List ℕ) (summary : Summary) → IsDone task input summary Written → IsDone task input summary Weaker
  done-weaker (tasks.Run options asked color asides) input summary is = λ lanes. written-weaker (Reports options (plan_of_input options.size input)) summary (is lanes)
  done-weaker (tasks.Check size) input summary is = (is.0, is.1, weaker is.0 is.2)
  done-weaker (tasks.CheckAll size) input summary is = (is.0, is.1, weaker is.0 is.2)
  done-weaker (tasks.Draw size) input summary is = (is.0, is.1, weaker is.0 is.2)
  done-weaker (tasks.CheckRaces size form) input summary is = (is.0, is.1, weaker is.0 is.2)
  done-weaker (tasks.Lint size form) input summary is = (is.0, is.1, weaker is.0 is.2)

  one_done-weaker : (task : Task) (input : List ℕ) (summary : Summary) → IsOneDone task input summary Written → IsOneDone task input summary Weaker
  one_done-weaker (tasks.Run options asked color asides) input summary is = λ lanes. written-weaker (ReportsOne options (plan_of_input options.size input)) summary (is lanes)
  one_done-weaker (tasks.Check size) input summary is = tt
  one_done-weaker (tasks.CheckAll size) input summary is = tt
  one_done-weaker (tasks.Draw size) input summary is = tt
  one_done-weaker (tasks.CheckRaces size form) input summary is = tt
  one_done-weaker (tasks.Lint size form) input summary is = tt

module _ (task : Task) (input : List ℕ) (old done now : Option (List ℕ)) (kept : is_for_people task ≡ false → now ≡ done) where
  appended : (text : List ℕ) → Appends old done text → AppendsFor task old now text
  appended text is = λ others. subst (λ contents. Appends old contents text) (sym (kept others)) is

  pub plan-done : (outcome : Result Summary RunFault) → IfOk outcome (λ summary. IsDone task input summary (Appends old done)) → IfOk (request_outcome outcome) (λ summary. IsDone task input summary (AppendsFor task old now))
  plan-done (Ok summary) is = done-weaker (Appends old done) (AppendsFor task old now) appended task input summary is
  plan-done (Err fault) is = tt

  pub plan-one_done : (outcome : Result Summary RunFault) → IfOk outcome (λ summary. IsOneDone task input summary (Appends old done)) → IfOk (request_outcome outcome) (λ summary. IsOneDone task input summary (AppendsFor task old now))
  plan-one_done (Ok summary) is = one_done-weaker (Appends old done) (AppendsFor task old now) appended task input summary is
  plan-one_done (Err fault) is = tt

pub plan-undone : (task : Task) (input : List ℕ) (outcome : Result Summary RunFault) → IfErr outcome (λ fault. IsUndone task input fault) → IfErr (request_outcome outcome) (λ fault. IsUndoneRequest task input fault)
plan-undone task input (Ok summary) is = tt
plan-undone task input (Err fault) is = is
