use Rattle.std.proofs.Common.{rules, ◌≤◌, ap, arith, length}
use Rattle.ext_tree.specs.Trees.{IsPathOf}
use Rattle.ext_store_core.specs.ContextCalls.{Gets}
use Rattle.ext_store_core.proofs.store_core.StoreCore.get_wait.Goals as goal

pub returns-clause-answer : goal.returns-clause-answer
unfolding Gets
returns-clause-answer g c =
    let path : IsPathOf c.args.self.now.tree c.args.context c.as_slice.result.now = search rules in
    (c.as_slice.result.now, path, c.get_along_wait.ensures.answer)

pub get_along_wait-requires-clause-some : goal.get_along_wait-requires-clause-some
get_along_wait-requires-clause-some g c = let l = ap length c.as_slice.ensures.contexts in let s = c.path-path.ensures.some in omega (arith, l, s)
