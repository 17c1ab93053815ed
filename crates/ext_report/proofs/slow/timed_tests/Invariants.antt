use Rattle.std.proofs.Common.{◌≡◌, take}
use Rattle.ext_lifecycle.specs.FaultTexts.{results_view}
use Rattle.ext_report.specs.Slow.{timed_tests}
use Rattle.ext_report.proofs.slow.timed_tests.Given as goal

abbrev pub invariant-loop-node : goal.invariant-loop-node
invariant-loop-node l = l.timed.items ≡ timed_tests l.extras (results_view (take l.node-index l.results))
