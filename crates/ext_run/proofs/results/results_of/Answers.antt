use Rattle.std.proofs.Common.{◌∙◌, Bool, map, ap, sym, subst}
use Rattle.ext_lifecycle.specs.FaultTexts.{results_view}
use Rattle.ext_lifecycle.specs.Results.{as_result}
use Rattle.ext_plan_parallel.specs.Lacking.{may_have_lacked}
use Rattle.ext_plan_reading.specs.Plans.{plan_view}
use Rattle.ext_run.specs.declared.fault.RunFault.TheVariants as faults
use Rattle.ext_run.specs.Reports.{IsRunBy}
use Rattle.ext_run.specs.InnerOutputs.{IsPlanFault}
use Rattle.ext_run.proofs.ReadBytes.{fault_is, not_ok}
use Rattle.ext_run.proofs.RunReports.{with_texts}
use Rattle.ext_run.proofs.results.results_of.Goals as goal

pub plain_results-requires : goal.plain_results-requires
plain_results-requires g c = c.requires.runnable

pub returns-in_err-plain_results : goal.returns-in_err-plain_results
returns-in_err-plain_results g c = record {
  run = not_ok _ _ c.from_residual.result c.from_residual.ensures.1;
  in_tree = not_ok _ _ c.from_residual.result c.from_residual.ensures.1;
  fault = fault_is (IsPlanFault c.args.options (plan_view c.args.plan.now)) c.from_residual.result faults.Memory c.from_residual.ensures.1 tt;
}

pub returns-then-options : goal.returns-then-options
returns-then-options g c =
    let ran = c.in_ok-plain_results.field-0 in
    let P : Bool → Type 0 = λ plain. IsRunBy plain c.args.options.lanes (plan_view c.args.plan.now) (results_view ran.results.items) ran.lacked in
    record { run = subst P (sym c.if-options.true) c.in_ok-plain_results.ensures.run; in_tree = c.in_ok-plain_results.ensures.in_tree; fault = tt }

pub returns-in-Ok-clause-run : goal.returns-in-Ok-clause-run
returns-in-Ok-clause-run g c =
    let results = c.in-Ok.results.items in
    let lacked = c.may_have_lacked-lacked.result in
    let P : Bool → Type 0 = λ plain. IsRunBy plain c.args.options.lanes (plan_view c.args.plan.now) (results_view results) lacked in
    subst P (sym c.if-options.false) (record { ran = map as_result results; run = c.in-Ok.ensures.run; texts = with_texts results }, c.may_have_lacked-lacked.ensures ∙ ap (λ l. may_have_lacked (results_view l)) c.as_slice.ensures.value)

pub returns-in-Ok-clause-fault : goal.returns-in-Ok-clause-fault
returns-in-Ok-clause-fault g c = tt

pub returns-in-Err : goal.returns-in-Err
returns-in-Err g c = record { run = tt; in_tree = tt; fault = (c.if-options.false, c.in-Err.ensures.fault) }
