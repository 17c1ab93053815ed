use Rattle.std.proofs.Common.{◌≡◌, length, map, rules}
use Rattle.ext_lifecycle.specs.declared.node_result.NodeResult.{NodeResult}
use Rattle.ext_runner.proofs.Nodes.{nodes_within}
use Rattle.ext_runner.proofs.telling.text_report.Goals as goal

pub report_text_with-requires : goal.report_text_with-requires
report_text_with-requires c =
    let nodes : map (λ (r : NodeResult). r.node) c.as_slice-2.result.now ≡ map (λ (r : NodeResult). r.node) c.args.reported.now.results.items = search rules in
    record { in_tree = nodes_within (length c.args.tree.now) c.args.reported.now.results.items c.as_slice-2.result.now nodes c.requires }
