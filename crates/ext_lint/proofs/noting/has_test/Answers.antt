use Rattle.std.proofs.Common.{◌∙◌, is_some, sym}
use Rattle.ext_plan.specs.Plans.{node_view}
use Rattle.ext_plan_reading.proofs.Lists.{list_any-map}
use Rattle.ext_lint.proofs.noting.has_test.Goals as goal

pub returns : goal.returns
returns c = c.any_test.ensures ∙ sym (list_any-map node_view (λ node. is_some node.test) c.args.nodes.now)
