use Rattle.std.proofs.Common.{◌∙◌}
use Rattle.ext_races.proofs.Paths.{path_is}
use Rattle.ext_lint.proofs.live.path_of.Goals as goal

pub returns : goal.returns
returns c = c.as_slice.ensures.contexts ∙ path_is c.args.tree.now c.len.ensures.tree c.args.number _ c.requires c.path.ensures.path
