use Rattle.std.proofs.Common.{◌∙◌}
use Rattle.ext_plan.proofs.NodeIds.{ids-map}
use Rattle.ext_plan.proofs.plan.Plan.tree.Goals as goal

pub returns : goal.returns
returns c = c.args.self.now.contexts ∙ ids-map c.args.self.now.nodes.items
