use Rattle.std.proofs.Common.{◌≡◌, ◌++◌, string_bytes}
use Rattle.ext_lifecycle.specs.FaultTexts.{results_view}
use Rattle.ext_report.specs.Extras.{texts_view}
use Rattle.ext_report.specs.JunitXml.{suites_below}
use Rattle.ext_report.proofs.junit_xml.junit_report_with.Given as goal

abbrev pub invariant-loop-suite : goal.invariant-loop-suite
invariant-loop-suite l = string_bytes l.text ≡ string_bytes l.initial.text ++ suites_below l.extras (texts_view l.earlier) l.tree (results_view l.results) l.suite
