use Rattle.std.proofs.Common.{refl, subst}
use Rattle.std.proofs.lemmas.Result.{err_from_is_err_and}
use Rattle.ext_tree.specs.Trees.{IsTreeWithin}
use Rattle.ext_engine.proofs.NoStore.{no_store}
use Rattle.ext_engine.proofs.opening.open_store.Goals as goal

pub returns-in_err-open-clause-fault : goal.returns-in_err-open-clause-fault
returns-in_err-open-clause-fault g c =
    let p = err_from_is_err_and c.from_residual-in_err-open.result c.from_residual-in_err-open.ensures.1 in
    let tree = subst (λ most. IsTreeWithin most c.args.ids.now) c.contexts.ensures c.in_ok-tree.ensures.found in
    rw (p.1, p.2) (no_store c.args.ids.now c.args.limits c.in_err-open.field-0.0 _ refl tree c.in_err-open.ensures.bad_limit)
