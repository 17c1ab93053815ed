use Rattle.std.proofs.Common.{rules, subst}
use Rattle.std.specs.Prelude.{List}
use Rattle.ext_tree.specs.Trees.{IsPathOf}
use Rattle.ext_store_core.proofs.Missing.{missing_along}
use Rattle.ext_store_core.proofs.store_core.StoreCore.claim.Goals as goal

pub returns-clause-claim : goal.returns-clause-claim
returns-clause-claim c =
    let path : IsPathOf c.args.self.now.tree c.args.context c.as_slice.result.now = search rules in
    missing_along c.args.self.now c.args.context c.args.key c.as_slice.result.now c.args.lane.now.view c.claim_along.new.lane.view c.claim_along.result path c.claim_along.ensures.claim
