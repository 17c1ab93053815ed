use Rattle.std.proofs.Common.{Ok, subst, sym}
use Rattle.ext_lifecycle.specs.FaultTexts.{results_view}
use Rattle.ext_plan_reading.specs.Plans.{plan_view}
use Rattle.ext_run.specs.OneReports.{ReportsOne}
use Rattle.ext_run.specs.Reports.{IsReportBy, IsRunFault, RefusedAs, Reports}
use Rattle.ext_run.proofs.ReadBytes.{fault_is}
use Rattle.ext_run.proofs.RunReports.{IsRunFault-read, RefusedAs-read, reported, unwritten}
use Rattle.ext_run.proofs.runs.run_plan.Goals as goal

pub returns-in_err-output-clause-refused : goal.returns-in_err-output-clause-refused
returns-in_err-output-clause-refused g c =
    let plan = plan_view c.args.plan.now in
    fault_is (λ fault. RefusedAs c.args.options fault (Ok plan)) c.from_residual.result _ c.from_residual.ensures.1
    (RefusedAs-read c.args.options plan _ c.in_err-output.ensures.fault)

pub returns-in_err-output-clause-of_run : goal.returns-in_err-output-clause-of_run
returns-in_err-output-clause-of_run g c =
    fault_is IsRunFault c.from_residual.result _ c.from_residual.ensures.1
    (IsRunFault-read c.args.options (plan_view c.args.plan.now) _ c.in_err-output.ensures.fault)

pub returns-in_err-write_whole-clause-refused : goal.returns-in_err-write_whole-clause-refused
returns-in_err-write_whole-clause-refused g c =
    unwritten c.args.options (plan_view c.args.plan.now) c.from_residual-in_err-write_whole.result _ c.from_residual-in_err-write_whole.ensures.1 c.in_err-write_whole.ensures.fault

pub returns-in_err-write_whole-clause-of_run : goal.returns-in_err-write_whole-clause-of_run
returns-in_err-write_whole-clause-of_run g c =
    fault_is IsRunFault c.from_residual-in_err-write_whole.result _ c.from_residual-in_err-write_whole.ensures.1 (subst IsRunFault (sym c.in_err-write_whole.ensures.fault) tt)

pub returns-clause-written : goal.returns-clause-written
returns-clause-written g c = reported (Reports c.args.options (Ok (plan_view c.args.plan.now))) _ _ _ _ _ c.in_ok-output.ensures.run c.as_slice.ensures.value c.in_ok-write_whole.ensures.written

pub returns-clause-one_report : goal.returns-clause-one_report
returns-clause-one_report g c = reported (ReportsOne c.args.options (Ok (plan_view c.args.plan.now))) _ _ _ _ _ c.in_ok-output.ensures.one c.as_slice.ensures.value c.in_ok-write_whole.ensures.written

pub returns-clause-results : goal.returns-clause-results
returns-clause-results g c =
    reported (IsReportBy c.args.options (plan_view c.args.plan.now) (results_view c.in_ok-output.output.results.items)) _ _ _ _ _ c.in_ok-output.ensures.results c.as_slice.ensures.value c.in_ok-write_whole.ensures.written
