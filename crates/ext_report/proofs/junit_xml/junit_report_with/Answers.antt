use Rattle.std.proofs.Common.{arith, string_bytes}
use Rattle.ext_lifecycle.specs.FaultTexts.{results_view}
use Rattle.ext_report.specs.Extras.{texts_view}
use Rattle.ext_report.proofs.SuiteCases.{cases_in_tree, read_cases, suite_told}
use Rattle.ext_report.proofs.Suites.{no-suite, suites-more}
use Rattle.ext_report.proofs.junit_xml.junit_report_with.Goals as goal

pub loop-suite-init : goal.loop-suite-init
loop-suite-init c = no-suite c.args.extras.now (texts_view c.args.earlier.now) c.args.tree.now (results_view c.args.results.now) _

pub write_suite-requires-clause-in_tree : goal.write_suite-requires-clause-in_tree
write_suite-requires-clause-in_tree c =
    let rs = results_view c.args.results.now in
    let ok = c.in_ok-suites.suites.ok in
    let count = c.in_ok-suites.ensures.count in
    cases_in_tree c.args.tree.now _ c.loop-suite.suite c.args.results.now c.as_slice-cases.result.now c.requires.in_tree
    (read_cases c.args.tree.now rs c.in_ok-suites.suites.items c.loop-suite.suite c.index.result.now c.as_slice-cases.result.now (omega arith) (omega (arith, ok, count)) c.index.ensures c.as_slice-cases.ensures.value
    c.in_ok-suites.ensures.cases)

pub loop-suite-preserved : goal.loop-suite-preserved
loop-suite-preserved c =
    let rs = results_view c.args.results.now in
    let ok = c.in_ok-suites.suites.ok in
    let count = c.in_ok-suites.ensures.count in
    suites-more c.args.extras.now (texts_view c.args.earlier.now) c.args.tree.now rs c.loop-suite.suite _ (string_bytes c.loop-suite.text) _ c.loop-suite.invariant
    (suite_told c.args.extras.now (texts_view c.args.earlier.now) c.args.tree.now c.loop-suite.suite rs c.as_slice-cases.result.now (string_bytes c.loop-suite.text) _
    (read_cases c.args.tree.now rs c.in_ok-suites.suites.items c.loop-suite.suite c.index.result.now c.as_slice-cases.result.now (omega arith) (omega (arith, ok, count)) c.index.ensures c.as_slice-cases.ensures.value
    c.in_ok-suites.ensures.cases) c.in_ok-write_suite.ensures)
