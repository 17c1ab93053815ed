use Rattle.std.proofs.Common.{◌≡◌, take, string_bytes}
use Rattle.std.specs.List.{flat_map}
use Rattle.ext_lifecycle.specs.FaultTexts.{results_view}
use Rattle.ext_report.specs.TreeLines.{tree_line}
use Rattle.ext_report.proofs.tree_lines.tree_report_with.Given as goal

abbrev pub invariant-loop-context : goal.invariant-loop-context
invariant-loop-context l = string_bytes l.text ≡ flat_map (tree_line l.extras l.tree (results_view l.results)) (take l.context-index l.context-items)
