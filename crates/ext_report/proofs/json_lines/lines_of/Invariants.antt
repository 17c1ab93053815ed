use Rattle.std.proofs.Common.{◌≡◌, take}
use Rattle.ext_lifecycle.specs.FaultTexts.{results_view}
use Rattle.ext_report.specs.JsonLines.{json_lines}
use Rattle.ext_report.proofs.json_lines.lines_of.Given as goal

abbrev pub invariant-loop-node : goal.invariant-loop-node
invariant-loop-node l = l.lines.items ≡ json_lines l.extras l.tree (results_view (take l.node-index l.results))
