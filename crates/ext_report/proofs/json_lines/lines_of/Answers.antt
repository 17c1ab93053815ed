use Rattle.std.proofs.Common.{◌++◌, ◌∙◌, ap, sym, rules}
use Rattle.ext_lifecycle.specs.FaultTexts.{result_view}
use Rattle.ext_report.specs.JsonLines.{json_line}
use Rattle.ext_report.proofs.Lines.{lines-more}
use Rattle.ext_report.proofs.json_lines.lines_of.Goals as goal

pub loop-node-preserved : goal.loop-node-preserved
loop-node-preserved c =
    let more = lines-more (json_line c.args.extras.now) c.args.tree.now c.args.results.now c.loop-node.node-index c.node-item.result c.id.result.now (search rules) c.node-item.is c.id.ensures in
    c.in_ok-extend_from_slice.ensures.items
    ∙ ap (λ line. c.loop-node.lines.items ++ line) (c.as_bytes.ensures.value ∙ c.in_ok-line.ensures)
    ∙ ap (λ before. before ++ json_line c.args.extras.now c.id.result.now (result_view c.node-item.result)) c.loop-node.invariant
    ∙ sym more
