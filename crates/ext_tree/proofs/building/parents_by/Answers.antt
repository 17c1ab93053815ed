use Rattle.std.proofs.Common.{sym, subst, arith}
use Rattle.std.proofs.lemmas.Result.{err_from_is_err_and}
use Rattle.ext_tree.specs.InnerBuilding.{AreParents}
use Rattle.ext_tree.proofs.TreeFacts.{more_parents, followed}
use Rattle.ext_tree.proofs.building.parents_by.Goals as goal

pub returns-in_err-parent : goal.returns-in_err-parent
returns-in_err-parent c =
    let p = err_from_is_err_and c.from_residual-in_err-parent.result c.from_residual-in_err-parent.ensures.1 in
    rw (p.1, p.2) (λ other. record {
      place = c.loop-i.i;
      some = omega (arith, c.loop-i.auto.i);
      less = c.loop-i-test.true;
      before = followed c.args.ids.now c.loop-i.i c.loop-i.parents.items c.loop-i.invariant.parents;
      wrong = c.in_err-parent.ensures other;
    })

pub loop-i-preserved : goal.loop-i-preserved
loop-i-preserved c = record {
  table = c.in_ok-parent.ensures.1;
  parents = subst (AreParents c.args.ids.now (_)) (sym c.in_ok-push-2.ensures.items)
      (more_parents c.args.ids.now c.loop-i.i c.in_ok-parent.parent c.loop-i.parents.items c.loop-i.invariant.parents c.in_ok-parent.ensures.0);
}
