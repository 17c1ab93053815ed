use Rattle.std.proofs.Common.{◌∙◌, ◌++◌, ap, sym, rules}
use Rattle.ext_lifecycle.specs.FaultTexts.{result_view}
use Rattle.ext_report.specs.TerminalLines.{line_unless_fault}
use Rattle.ext_report.proofs.Lines.{lines-more}
use Rattle.ext_report.proofs.terminal_lines.lines_without_faults.Goals as goal

pub loop-node-preserved : goal.loop-node-preserved
loop-node-preserved c =
    let more = lines-more (line_unless_fault c.args.colored) c.args.tree.now c.args.results.now c.loop-node.node-index c.node-item.result c.id.result.now (search rules) c.node-item.is c.id.ensures in
    c.in_ok-write_unless_fault.ensures ∙ ap (λ before. before ++ line_unless_fault c.args.colored c.id.result.now (result_view c.node-item.result)) c.loop-node.invariant ∙ sym more
