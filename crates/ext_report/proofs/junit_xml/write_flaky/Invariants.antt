use Rattle.std.proofs.Common.{◌≡◌, ◌++◌, map, string_bytes}
use Rattle.ext_report.specs.JunitCases.{flaky_elements}
use Rattle.ext_report.proofs.junit_xml.write_flaky.Given as goal

abbrev pub invariant-loop-before : goal.invariant-loop-before
invariant-loop-before l = string_bytes l.text ≡ string_bytes l.initial.text ++ flaky_elements (map string_bytes l.said) l.before
