use Rattle.std.proofs.Common.{Ok}
use Rattle.ext_plan_reading.specs.Plans.{plan_view}
use Rattle.ext_run.specs.OneReports.{ReportsOne}
use Rattle.ext_run.specs.Reports.{RefusedPlan, Reports}
use Rattle.ext_run.proofs.RunReports.{of_whole, written}
use Rattle.ext_run.proofs.runs.run.Goals as goal

pub returns-in-Err-clause-refused : goal.returns-in-Err-clause-refused
returns-in-Err-clause-refused g c =
    let input = c.in_ok-input.ensures in
    of_whole c.args.options.size _ _ _ input.whole input.short c.as_slice.ensures.value (RefusedPlan c.in-Err.fault) c.in-Err.ensures.refused

pub returns-in-Ok-run_plan-clause-written : goal.returns-in-Ok-run_plan-clause-written
returns-in-Ok-run_plan-clause-written g c =
    let input = c.in_ok-input.ensures in
    written c.args.options.size _ _ _ input.whole input.short c.as_slice.ensures.value (Reports c.args.options) (plan_view c.in-Ok.plan) (Ok c.in-Ok-run_plan.ran.summary) _ c.in-Ok.ensures.read c.in-Ok-run_plan.ensures.written

pub returns-in-Ok-run_plan-clause-one_report : goal.returns-in-Ok-run_plan-clause-one_report
returns-in-Ok-run_plan-clause-one_report g c =
    let input = c.in_ok-input.ensures in
    written c.args.options.size _ _ _ input.whole input.short c.as_slice.ensures.value (ReportsOne c.args.options) (plan_view c.in-Ok.plan) (Ok c.in-Ok-run_plan.ran.summary) _ c.in-Ok.ensures.read c.in-Ok-run_plan.ensures.one_report
