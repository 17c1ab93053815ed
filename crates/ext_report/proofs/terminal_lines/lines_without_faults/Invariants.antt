use Rattle.std.proofs.Common.{◌≡◌, take, string_bytes}
use Rattle.ext_lifecycle.specs.FaultTexts.{results_view}
use Rattle.ext_report.specs.TerminalLines.{each_line, line_unless_fault}
use Rattle.ext_report.proofs.terminal_lines.lines_without_faults.Given as goal

abbrev pub invariant-loop-node : goal.invariant-loop-node
invariant-loop-node l = string_bytes l.text ≡ each_line (line_unless_fault l.colored) l.tree (results_view (take l.node-index l.results))
