use Rattle.std.proofs.Common.{◌≡◌, take, string_bytes}
use Rattle.ext_lifecycle.specs.FaultTexts.{results_view}
use Rattle.ext_report.specs.Report.{lines_of}
use Rattle.ext_report.proofs.report.report_text_with.Given as goal

abbrev pub invariant-loop-node : goal.invariant-loop-node
invariant-loop-node l = string_bytes l.text ≡ lines_of l.extras l.tree (results_view (take l.node-index l.results))
