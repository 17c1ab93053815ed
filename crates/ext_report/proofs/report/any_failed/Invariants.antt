use Rattle.std.proofs.Common.{◌≡◌, drop}
use Rattle.ext_lifecycle.specs.FaultTexts.{results_view}
use Rattle.ext_report.specs.Report.{any_failed}
use Rattle.ext_report.proofs.report.any_failed.Given as goal

abbrev pub invariant-loop-r : goal.invariant-loop-r
invariant-loop-r l = any_failed (results_view l.results) ≡ any_failed (results_view (drop l.r-index l.results))
