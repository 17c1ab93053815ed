use Rattle.std.proofs.Common.{◌∙◌, ◌++◌, ap, sym, rules}
use Rattle.ext_lifecycle.specs.FaultTexts.{result_view}
use Rattle.ext_report.specs.Report.{line_of}
use Rattle.ext_report.proofs.Lines.{lines_of-more}
use Rattle.ext_report.proofs.report.report_text_with.Goals as goal

pub loop-node-preserved : goal.loop-node-preserved
loop-node-preserved c =
    let more = lines_of-more c.args.extras.now c.args.tree.now c.args.results.now c.loop-node.node-index c.node-item.result c.id.result.now (search rules) c.node-item.is c.id.ensures in
    c.in_ok-write_line.ensures ∙ ap (λ before. before ++ line_of c.args.extras.now c.id.result.now (result_view c.node-item.result)) c.loop-node.invariant ∙ sym more
