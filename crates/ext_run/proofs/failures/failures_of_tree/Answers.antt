use Rattle.std.proofs.Common.{◌++◌, ◌∙◌, ap, arith, length, string_bytes}
use Rattle.std.proofs.lemmas.List.{length-map}
use Rattle.ext_run.specs.FailureForms.{line_in}
use Rattle.ext_run.proofs.Drawn.{failures-more, no-failures}
use Rattle.ext_run.proofs.FaultGroups.{group_lines}
use Rattle.ext_run.proofs.failures.failures_of_tree.Goals as goal

pub grouped-requires : goal.grouped-requires
grouped-requires c = ap length (c.as_slice.ensures.value ∙ c.in_ok-nodes.ensures) ∙ length-map c.args.faults.now (λ fault. fault.node)

pub loop-node-init : goal.loop-node-init
loop-node-init c = no-failures (line_in c.args.form c.args.tree.now) c.args.tree.now c.args.faults.now (string_bytes c.new-text.result) c.new-text.ensures.bytes

pub loop-node-preserved : goal.loop-node-preserved
loop-node-preserved c =
    let faults = c.args.faults.now in
    let line = line_in c.args.form c.args.tree.now in
    let ok = c.in_ok-groups.groups.ok in
    let count = c.in_ok-groups.ensures.count in
    let lines =
    group_lines line c.id.result.now c.len.result c.loop-node.node faults c.as_slice.result.now c.in_ok-groups.groups.items c.index.result.now c.as_slice-in-loop-node.result.now (omega arith) (omega (arith, ok, count)) c.index.ensures
    c.as_slice-in-loop-node.ensures.value (c.as_slice.ensures.value ∙ c.in_ok-nodes.ensures) c.in_ok-groups.ensures.groups in
    failures-more line c.args.tree.now faults c.loop-node.node c.id.result.now (string_bytes c.loop-node.text) (string_bytes c.write_failures.new.text) c.id.ensures c.loop-node.invariant
    (c.in_ok-write_failures.ensures ∙ ap (λ t. string_bytes c.loop-node.text ++ t) lines)
