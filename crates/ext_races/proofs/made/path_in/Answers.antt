use Rattle.std.proofs.Common.{◌∙◌}
use Rattle.ext_races.proofs.Paths.{path_is}
use Rattle.ext_races.proofs.made.path_in.Goals as goal

pub returns-clause-path : goal.returns-clause-path
returns-clause-path c = λ within. c.as_slice.ensures.contexts ∙ path_is c.args.tree.now c.len.ensures.tree c.args.node _ within c.path.ensures.path
