use Rattle.std.proofs.Common.{rules, ◌≡◌, ◌∙◌, is_some}
use Rattle.std.specs.List.{count_by}
use Rattle.ext_run.proofs.CheckCounts.{tests-view}
use Rattle.ext_run.proofs.checks.test_count.Goals as goal

pub returns : goal.returns
returns c =
    let counted : c.count.result ≡ count_by (λ node. is_some node.test) c.args.nodes.now = search rules in
    counted ∙ tests-view c.args.nodes.now
