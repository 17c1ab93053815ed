use Rattle.ext_tree.proofs.TreeFacts.{read_id}
use Rattle.ext_tree.proofs.Lookups.{stands_said}
use Rattle.ext_tree.proofs.building.stands_before.Goals as goal

pub returns : goal.returns
returns c = stands_said c.args.ids.now c.args.at c.requires c.index-ids-at.result c.contains.result
    (read_id c.args.ids.now c.args.at c.index-ids-at.result c.requires c.index-ids-at.is) c.contains.ensures.cases
