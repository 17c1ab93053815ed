use Rattle.std.proofs.Common.{◌∙◌, sym}
use Rattle.std.specs.Prelude.{◌==◌}
use Rattle.ext_plan_reading.proofs.Lists.{list_any-map}
use Rattle.ext_lint.specs.InnerLists.{said_view}
use Rattle.ext_lint.proofs.noting.is_key_said.Goals as goal

pub returns : goal.returns
returns c = c.any_of_key.ensures ∙ sym (list_any-map said_view (λ s. s.key == c.args.key) c.args.said.now)
