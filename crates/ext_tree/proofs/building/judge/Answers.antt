use Rattle.std.proofs.Common.{◌∙◌, ap, sym, length, true≢false, subst}
use Rattle.ext_tree.specs.Trees.{twice, second_root, without_parent}
use Rattle.ext_tree.specs.InnerBuilding.{IsParentBefore}
use Rattle.ext_tree.proofs.TreeFacts.{read_id}
use Rattle.ext_tree.proofs.building.judge.Goals as goal

pub returns-then-stands : goal.returns-then-stands
returns-then-stands c = twice (c.requires.stands.0 c.if-stands.true)

pub returns-then-len-eq1 : goal.returns-then-len-eq1
returns-then-len-eq1 c = second_root
    (λ s. true≢false (sym (c.requires.stands.1 s) ∙ c.if-stands.false))
    (ap length (sym (read_id c.args.ids.now c.args.at c.index-ids-at.result c.requires.within.1 c.index-ids-at.is)) ∙ sym c.len.ensures.count ∙ c.if-len-eq1.true)

pub returns-in-None : goal.returns-in-None
returns-in-None c = without_parent
    (λ s. true≢false (sym (c.requires.stands.1 s) ∙ c.if-stands.false))
    (λ one. c.if-len-eq1.false (c.len.ensures.count ∙ ap length (read_id c.args.ids.now c.args.at c.index-ids-at.result c.requires.within.1 c.index-ids-at.is) ∙ one))
    (subst (IsParentBefore c.args.ids.now c.args.at) c.in-None.is c.requires.parent)
