use Rattle.std.proofs.Common.{◌≡◌, ◌∙◌, ◌<◌, All, length, ap, sym, subst}
use Rattle.std.proofs.lemmas.List.{length-map}
use Rattle.ext_lifecycle.specs.FaultTexts.{results_view}
use Rattle.ext_plan_reading.specs.Plans.{node_view, nodes_view, plan_view}
use Rattle.ext_plan_reading.specs.ReadPlans.{ids_of_nodes}
use Rattle.ext_report.specs.Report.{any_failed}
use Rattle.ext_report.specs.Forms.{report_in}
use Rattle.ext_run.specs.InnerOutputs.{output_view}
use Rattle.ext_run.specs.Reports.{IsReportOf, run_report_of}
use Rattle.ext_run.specs.declared.runs.Output.{Output}
use Rattle.ext_run.proofs.OneReports.{reports_one}
use Rattle.ext_run.proofs.RunReports.{run_report_is}
use Rattle.ext_run.proofs.runs.output_of.Goals as goal

pub results_of-requires-clause-runnable : goal.results_of-requires-clause-runnable
results_of-requires-clause-runnable g c κs within = c.requires.plan.runnable

pub returns-in-Err-clause-fault : goal.returns-in-Err-clause-fault
returns-in-Err-clause-fault g c = c.in-Err.ensures.fault

pub report_in-requires : goal.report_in-requires
report_in-requires g c =
    let nodes = c.args.plan.now.nodes.items in
    let count : length nodes ≡ length c.tree.result.now = sym (ap length c.tree.ensures ∙ length-map (nodes_view nodes) (λ n. n.id) ∙ length-map nodes node_view) in
    let within = subst (λ n. All (λ r. r.node < n) c.in-Ok.ran.results.items) count c.in-Ok.ensures.in_tree in
    record { in_tree = subst (All (λ r. r.node < length c.tree.result.now)) (sym c.as_slice.ensures.value) within }

pub returns : goal.returns
returns g c =
    let plan = plan_view c.args.plan.now in
    let nodes = c.args.plan.now.nodes.items in
    let results = results_view c.in-Ok.ran.results.items in
    let output : Output = record { results = c.in-Ok.ran.results; report = c.in_ok-report.report; failed = c.any_failed-failed.result; lacked = c.in-Ok.ran.lacked } in
    let first : results_view c.as_slice.result.now ≡ results = ap results_view c.as_slice.ensures.value in
    let again : results_view c.as_slice-2.result.now ≡ results = ap results_view c.as_slice-2.ensures.value in
    let same : output_view output ≡ run_report_of c.args.options.form plan results c.in-Ok.ran.lacked = run_report_is _ _ _ _ _
    (c.in_ok-report.ensures ∙ ap (report_in c.args.options.form c.tree.result.now) first ∙ ap (λ ids. report_in c.args.options.form ids results) c.tree.ensures) (c.any_failed-failed.ensures ∙ ap any_failed again) in
    let of : IsReportOf c.args.options plan (output_view output) = record { results = results; run = c.in-Ok.ensures.run; report_is = same } in
    let count : length nodes ≡ length (ids_of_nodes plan.nodes) = sym (length-map (nodes_view nodes) (λ n. n.id) ∙ length-map nodes node_view) in
    record {
      run = of;
      one = reports_one c.args.options plan (output_view output) c.requires.plan of;
      results = record { run = c.in-Ok.ensures.run; report_is = same };
      in_tree = subst (λ n. All (λ r. r.node < n) c.in-Ok.ran.results.items) count c.in-Ok.ensures.in_tree;
      fault = tt;
    }
