-- What a run that lacked nothing gave, of a plan that has one report.
use Rattle.std.proofs.Common.{◌≡◌, ℕ, Bool, true, false, List, map, Some, Ok, refl, ap, sym, subst, ◌∙◌}
use Rattle.ext_lifecycle.specs.FaultTexts.{NodeOutcome}
use Rattle.ext_plan_plain.specs.PlainRun.{plain_run}
use Rattle.ext_plan_parallel.specs.Lacking.{may_have_lacked}
use Rattle.ext_plan_reading.specs.Plans.{PlanText}
use Rattle.ext_plan_reading.specs.ReadPlans.{IsReadPlan}
use Rattle.ext_races.specs.OneReports.{HasNearReport, HasOneReport}
use Rattle.ext_one_report.specs.OneReport.{AreNearReports}
use Rattle.ext_one_report.specs.Shares.{AreNearResults, SharedValues, shares_in}
use Rattle.ext_one_report.proofs.Near.{near_report, one_report}
use Rattle.ext_one_report.proofs.ShownLacks.{tells_lacks}
use Rattle.ext_plan_reading.specs.ReadPlans.{ids_of_nodes}
use Rattle.ext_report.specs.Report.{sums_of}
use Rattle.ext_report.specs.declared.form.ReportForm.{ReportForm}
use Rattle.ext_run.proofs.NearForms.{bare, bare_lists, failed_same, near_form, same_sums}
use Rattle.ext_run.specs.declared.options.Options.{Options}
use Rattle.ext_run.specs.OneReports.{IsOneReport, ReportsOne, plain_report, tells_each}
use Rattle.ext_run.specs.Reports.{IsReportOf, IsRunBy, RunReport, run_report_of}

-- ---- results

-- results are near to themselves
near_itself : (shares : ℕ → SharedValues) (results : List NodeOutcome) → AreNearReports shares results results
near_itself shares results = record {
  count = refl;
  computed = refl;
  near = λ node one other is is_too.
      let both : Some one ≡ Some other = sym is ∙ is_too in
      let same : one ≡ other = cc both in
      subst (λ there. AreNearResults (shares node) one there) same (record { same = refl; counts = refl; exact = λ nothing. refl });
}

module _ (plan : PlanText) (lanes : ℕ) (results : List NodeOutcome) (lacked : Bool) (nothing : lacked ≡ false) (read : IsReadPlan plan) where
  plain_is : IsRunBy true lanes plan results lacked → results ≡ plain_run plan
  plain_is run = run.unlacked nothing

  spared : (run : IsRunBy false lanes plan results lacked) → may_have_lacked results ≡ false
  spared run = sym run.1 ∙ nothing

  one_is : HasOneReport plan → (plain : Bool) → IsRunBy plain lanes plan results lacked → results ≡ plain_run plan
  one_is has true run = plain_is run
  one_is has false run =
      let on = run.0 in
      on.texts ∙ one_report plan lanes on.ran read has on.run (tells_lacks plan lanes on.ran read on.run (ap may_have_lacked (sym on.texts) ∙ spared run))

  near_is : HasNearReport plan → (plain : Bool) → IsRunBy plain lanes plan results lacked → AreNearReports (shares_in plan) results (plain_run plan)
  near_is has true run = subst (AreNearReports (shares_in plan) results) (plain_is run) (near_itself (shares_in plan) results)
  near_is has false run =
      let on = run.0 in
      subst (λ here. AreNearReports (shares_in plan) here (plain_run plan)) (sym on.texts)
      (near_report plan lanes on.ran read has on.run (tells_lacks plan lanes on.ran read on.run (ap may_have_lacked (sym on.texts) ∙ spared run)))

-- ---- forms that tell the sums alone

module _ (shares : ℕ → SharedValues) (here there : List NodeOutcome) (near : AreNearReports shares here there) where
  same_but_counts : map bare here ≡ map bare there
  same_but_counts = bare_lists here there near.count (λ node one other is also. (near.near node one other is also).same) (λ node one other is also. (near.near node one other is also).counts) near.computed

  same_totals : sums_of here ≡ sums_of there
  same_totals = same_sums here there near.count (λ node one other is also. (near.near node one other is also).same) (λ node one other is also. (near.near node one other is also).counts) near.computed

  same_report : (form : ReportForm) (plan : PlanText) → tells_each form ≡ false → run_report_of form plan here false ≡ run_report_of form plan there false
  same_report form plan off = λ i. record {
    report = near_form here there same_but_counts same_totals form (ids_of_nodes plan.nodes) off i;
    failed = failed_same here there same_but_counts i;
    lacked = false;
  }

-- ---- what was given

module _ (options : Options) (plan : PlanText) (given : RunReport) (read : IsReadPlan plan) (of : IsReportOf options plan given) (nothing : given.lacked ≡ false) where
  given_is : given ≡ run_report_of options.form plan of.results false
  given_is = of.report_is ∙ ap (run_report_of options.form plan of.results) nothing

  as_plain : of.results ≡ plain_run plan → given ≡ plain_report options.form plan
  as_plain same = given_is ∙ ap (λ results. run_report_of options.form plan results false) same

  is_one : IsOneReport options plan given
  is_one = record {
    plain = λ plain. as_plain (plain_is plan options.lanes of.results given.lacked nothing read (subst (λ b. IsRunBy b options.lanes plan of.results given.lacked) plain of.run));
    one = λ has. as_plain (one_is plan options.lanes of.results given.lacked nothing read has options.plain of.run);
    near = λ has. record { results = of.results; near = near_is plan options.lanes of.results given.lacked nothing read has options.plain of.run; report_is = given_is };
    sums = λ has off. given_is ∙ same_report (shares_in plan) of.results (plain_run plan) (near_is plan options.lanes of.results given.lacked nothing read has options.plain of.run) options.form plan off;
  }

pub reports_one : (options : Options) (plan : PlanText) (given : RunReport) → IsReadPlan plan → IsReportOf options plan given → ReportsOne options (Ok plan) given
reports_one options plan given read of = λ nothing. is_one options plan given read of nothing
