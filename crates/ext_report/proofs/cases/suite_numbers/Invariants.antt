use Rattle.std.proofs.Common.{take}
use Rattle.std.specs.List.{AllZip}
use Rattle.ext_report.specs.InnerSuites.{IsSuiteOf}
use Rattle.ext_report.proofs.cases.suite_numbers.Given as goal

abbrev pub invariant-loop-node : goal.invariant-loop-node
invariant-loop-node l = AllZip (IsSuiteOf l.tree) (take l.node-index l.results) l.numbers.items
