use Rattle.std.proofs.Common.{◌≡◌, ◌++◌, string_bytes, take}
use Rattle.std.specs.List.{flat_map}
use Rattle.ext_report.specs.Extras.{texts_view}
use Rattle.ext_report.specs.InnerSuites.{cases_view}
use Rattle.ext_report.specs.JunitCases.{case_element}
use Rattle.ext_report.proofs.junit_xml.write_cases.Given as goal

abbrev pub invariant-loop-case : goal.invariant-loop-case
invariant-loop-case l =
    string_bytes l.text ≡ string_bytes l.initial.text ++ flat_map (case_element l.extras (texts_view l.earlier) l.tree l.suite) (cases_view (take l.case-index l.cases))
