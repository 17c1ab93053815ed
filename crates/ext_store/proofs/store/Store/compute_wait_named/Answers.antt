use Rattle.std.proofs.Common.{rules}
use Rattle.ext_tree.specs.Trees.{IsPathOf}
use Rattle.ext_store.specs.Computing.{without_factory}
use Rattle.ext_store.proofs.Waited.{missing_computes_later}
use Rattle.ext_store.proofs.store.Store.compute_wait_named.Goals as goal

pub returns-clause-answer : goal.returns-clause-answer
returns-clause-answer g c =
    let path : IsPathOf c.args.self.now.tree c.args.context c.as_slice.result.now = search rules in
    missing_computes_later c.args.self.now c.args.context c.args.key c.as_slice.result.now c.args.lane.now.cells c.compute_along_wait_named.new.lane.cells (without_factory c.compute_along_wait_named.result) path c.compute_along_wait_named.ensures.answer
