use Rattle.std.proofs.Common.{◌<◌, All, arith, length, string_bytes, subst, sym}
use Rattle.ext_report.proofs.ContextLines.{told_more}
use Rattle.ext_report.proofs.tree_lines.tree_report_with.Goals as goal

pub loop-context-preserved : goal.loop-context-preserved
loop-context-preserved c =
    let ids = c.args.tree.now in
    let order = c.as_slice-context-items.result.now in
    let in_tree : All (λ k. k < length ids) order = subst (All (λ k. k < length ids)) (sym c.as_slice-context-items.ensures.value) c.in_ok-order.ensures.in_tree in
    let ok = c.in_ok-of_contexts.of_contexts.ok in
    let count = c.in_ok-of_contexts.ensures.count in
    told_more c.args.extras.now ids c.args.results.now c.in_ok-of_contexts.of_contexts.items order c.loop-context.context-index c.index.result.now c.as_slice-of_context.result.now c.id.result.now (string_bytes c.loop-context.text)
    (string_bytes c.write_tree_lines.new.text) in_tree (omega arith) (omega (arith, ok, count)) c.index.ensures c.as_slice-of_context.ensures.value c.in_ok-of_contexts.ensures.groups c.id.ensures c.loop-context.invariant
    c.in_ok-write_tree_lines.ensures
