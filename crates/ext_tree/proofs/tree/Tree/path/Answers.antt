use Rattle.std.proofs.Common.{rules, subst, arith}
use Rattle.ext_tree.specs.Trees.{IsTree}
use Rattle.ext_tree.proofs.TreeFacts.{has_segment}
use Rattle.ext_tree.proofs.Walks.{path_length, path_within, path_falls}
use Rattle.ext_tree.proofs.tree.Tree.path.Goals as goal

tree : (c : goal.After-index) → IsTree c.args.self.now
tree c = subst IsTree c.self.view_is (let i = c.self.invariant in i.tree)

pub returns-clause-path : goal.returns-clause-path
returns-clause-path c = search rules

pub returns-clause-depth : goal.returns-clause-depth
returns-clause-depth c = path_length c.args.self.now (tree c) c.args.context c.index.result.now (returns-clause-path c)

pub returns-clause-some : goal.returns-clause-some
returns-clause-some c =
    let some = has_segment c.args.self.now (tree c) c.args.context c.requires in
    let deep = path_length c.args.self.now (tree c) c.args.context c.index.result.now (returns-clause-path c) in omega (arith, some, deep)

pub returns-clause-within : goal.returns-clause-within
returns-clause-within c = path_within c.args.self.now (tree c) c.args.context c.index.result.now c.requires (returns-clause-path c)

pub returns-clause-different : goal.returns-clause-different
returns-clause-different c = λ i j d less inside same. let falls = path_falls c.args.self.now (tree c) c.args.context c.index.result.now (returns-clause-path c) i j d less inside in omega (arith, falls, same)

pub returns-clause-few : goal.returns-clause-few
returns-clause-few c = search rules
