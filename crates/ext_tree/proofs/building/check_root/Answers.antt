use Rattle.std.proofs.Common.{◌≡◌, ◌<◌, ◌==◌, ◌∙◌, ℕ, zero, suc, false, ap, sym, length, true≢false, arith}
use Rattle.std.proofs.lemmas.Bool.{eqb-true}
use Rattle.ext_tree.specs.Trees.{none_at_all, too_many, no_root}
use Rattle.ext_tree.proofs.TreeFacts.{read_id}
use Rattle.ext_tree.proofs.building.check_root.Goals as goal

nonzero : (n : ℕ) → (n == 0) ≡ false → 0 < n
nonzero zero e = absurd (true≢false e)
nonzero (suc n) e = omega arith

pub returns-then-is_empty-clause-err : goal.returns-then-is_empty-clause-err
returns-then-is_empty-clause-err c = none_at_all (eqb-true (length c.args.ids.now) 0 (sym c.is_empty.ensures ∙ c.if-is_empty.true))

pub returns-then-ids-most-clause-err : goal.returns-then-ids-most-clause-err
returns-then-ids-most-clause-err c = too_many c.if-ids-most.true

pub returns-then-len-ne1-clause-err : goal.returns-then-len-ne1-clause-err
returns-then-len-ne1-clause-err c =
    let some : 0 < length c.args.ids.now = nonzero (length c.args.ids.now) (sym c.is_empty.ensures ∙ c.if-is_empty.false) in
    no_root some c.if-ids-most.false
    (λ one. c.if-len-ne1.true (c.len.ensures.count ∙ ap length (read_id c.args.ids.now 0 c.index-ids-0.result some c.index-ids-0.is) ∙ one))
