use Rattle.std.proofs.Common.{rules, ◌≤◌, ap, arith, length}
use Rattle.ext_tree.specs.Trees.{IsPathOf}
use Rattle.ext_store_core.specs.ContextCalls.{Gets}
use Rattle.ext_store_core.proofs.store_core.StoreCore.get.Goals as goal

pub returns-clause-answer : goal.returns-clause-answer
unfolding Gets
returns-clause-answer c =
    let path : IsPathOf c.args.self.now.tree c.args.context c.as_slice.result.now = search rules in
    (c.as_slice.result.now, path, c.get_along.ensures.answer)

pub get_along-requires-clause-some : goal.get_along-requires-clause-some
get_along-requires-clause-some c = let l = ap length c.as_slice.ensures.contexts in let s = c.path-path.ensures.some in omega (arith, l, s)
