use Rattle.std.proofs.Common.{◌∙◌, is_some, sym}
use Rattle.std.specs.Prelude.{◌&&◌}
use Rattle.ext_plan.specs.Plans.{node_view}
use Rattle.ext_plan_reading.proofs.Lists.{list_any-map}
use Rattle.ext_lint.specs.Notes.{names_lock}
use Rattle.ext_lint.proofs.noting.is_named_by_test.Goals as goal

pub returns : goal.returns
returns c = c.any_test_names.ensures ∙ sym (list_any-map node_view (λ node. is_some node.test && names_lock c.args.name.now node) c.args.nodes.now)
