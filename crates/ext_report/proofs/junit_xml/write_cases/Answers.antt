use Rattle.std.proofs.Common.{◌++◌, ◌∙◌, ap, arith, sym, string_bytes, take}
use Rattle.std.specs.List.{flat_map}
use Rattle.ext_lifecycle.specs.FaultTexts.{result_view}
use Rattle.ext_report.specs.Extras.{texts_view}
use Rattle.ext_report.specs.InnerSuites.{cases_view}
use Rattle.ext_report.specs.JunitCases.{case_element}
use Rattle.ext_report.proofs.SuiteCases.{case_in_tree, cases_more}
use Rattle.ext_report.proofs.Lines.{joined}
use Rattle.ext_report.proofs.junit_xml.write_cases.Goals as goal

pub write_case-requires : goal.write_case-requires
write_case-requires c = record { in_tree = case_in_tree _ c.loop-case.case-index c.args.cases.now c.case-item.result (omega arith) c.case-item.is c.requires.in_tree }

pub loop-case-preserved : goal.loop-case-preserved
loop-case-preserved c =
    let tell = case_element c.args.extras.now (texts_view c.args.earlier.now) c.args.tree.now c.args.suite.now in
    let before = flat_map tell (cases_view (take c.loop-case.case-index c.args.cases.now)) in
    joined (string_bytes c.args.text.now) (string_bytes c.loop-case.text) _ before (tell (result_view c.case-item.result.now)) c.loop-case.invariant c.in_ok-write_case.ensures
    ∙ ap (λ t. string_bytes c.args.text.now ++ t) (sym (cases_more tell c.args.cases.now c.loop-case.case-index c.case-item.result (omega arith) c.case-item.is))
