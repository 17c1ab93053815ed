use Rattle.std.proofs.lemmas.Result.{on_ok_weaker}
use Rattle.ext_tree.specs.Trees.{IsTreeWithin}
use Rattle.ext_tree.proofs.tree.Tree.build.Goals as goal

pub returns-clause-found : goal.returns-clause-found
returns-clause-found c = on_ok_weaker c.build_within.result (λ (w : IsTreeWithin c.contexts.result c.args.ids.now). w.tree) c.build_within.ensures.found

pub returns-clause-few : goal.returns-clause-few
returns-clause-few c = rw (← c.contexts.ensures) (on_ok_weaker c.build_within.result (λ (w : IsTreeWithin c.contexts.result c.args.ids.now). w.few) c.build_within.ensures.found)

pub returns-clause-only : goal.returns-clause-only
returns-clause-only c = λ tree few. c.build_within.ensures.only (record { tree = tree; few = rw c.contexts.ensures few })
