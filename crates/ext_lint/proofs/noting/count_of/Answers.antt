use Rattle.std.proofs.Common.{rules, ◌≡◌, ◌∙◌}
use Rattle.std.specs.List.{count_by}
use Rattle.ext_plan.specs.Plans.{node_view}
use Rattle.ext_plan.specs.declared.plan.PlanNode.{PlanNode}
use Rattle.ext_lint.specs.Notes.{names_lock}
use Rattle.ext_lint.proofs.Counted.{count_by-map}
use Rattle.ext_lint.proofs.noting.count_of.Goals as goal

pub returns : goal.returns
returns c =
    let counted : c.count.result ≡ count_by (λ (node : PlanNode). names_lock c.args.name.now (node_view node)) c.args.nodes.now = search rules in
    counted ∙ count_by-map node_view (names_lock c.args.name.now) c.args.nodes.now
