use Rattle.std.proofs.Common.{◌+◌, sym, arith, ℕ, inl, inr, subst}
use Rattle.std.proofs.lemmas.Bool.{cases_eq}
use Rattle.std.proofs.lemmas.Result.{err_from_is_err_and}
use Rattle.ext_tree.specs.Trees.{FollowBelow, MayFollow}
use Rattle.ext_tree.proofs.building.check.Goals as goal

pub returns-in_err-_parent-clause-err : goal.returns-in_err-_parent-clause-err
returns-in_err-_parent-clause-err c =
    let p = err_from_is_err_and c.from_residual.result c.from_residual.ensures.1 in
    rw (p.1, p.2) (record { place = c.loop-i.i; some = omega (arith, c.loop-i.auto.i); less = c.loop-i-test.true; before = c.loop-i.invariant; wrong = c.in_err-_parent.ensures })

more : (ids : _) (n : ℕ) → FollowBelow ids n → MayFollow ids n → FollowBelow ids (n + 1)
more ids n below may = record {
  each = λ k some less. elim (cases_eq k n) [
    | inl same ↦ subst (MayFollow ids) (sym same) may
    | inr other ↦ below.each k some (omega (arith, less, other))
  ];
}

pub loop-i-preserved : goal.loop-i-preserved
loop-i-preserved c = more c.args.ids.now c.loop-i.i c.loop-i.invariant (let f = c.in_ok-_parent.ensures in f.may)

pub returns-clause-ok : goal.returns-clause-ok
returns-clause-ok c = record {
  first = c.requires;
  later = record { each = λ k some less. c.loop-i.invariant.each k some (omega (arith, less, c.loop-i-test.false)) };
}
