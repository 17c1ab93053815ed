use Rattle.std.proofs.Common.{rules}
use Rattle.ext_tree.specs.InnerIndexing.{short_hash}
use Rattle.ext_tree.proofs.key.hash_of.Goals as goal

pub returns : goal.returns
unfolding short_hash
returns c = search rules
