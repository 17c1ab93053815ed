use Rattle.std.proofs.Common.{◌∙◌}
use Rattle.ext_lint.proofs.heights.Heights.has_depth.Goals as goal

pub returns : goal.returns
returns c = c.contains.ensures ∙ c.args.self.now.all c.args.node c.args.depth
