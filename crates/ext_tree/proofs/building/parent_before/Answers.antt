use Rattle.std.proofs.Common.{◌<◌, ◌∙◌, sym, length, true≢false, arith, below_more}
use Rattle.ext_tree.specs.Trees.{id_at}
use Rattle.ext_tree.proofs.TreeFacts.{read_id}
use Rattle.ext_tree.proofs.Children.{is_parent_Decides}
use Rattle.ext_tree.proofs.building.parent_before.Goals as goal

pub loop-i-preserved : goal.loop-i-preserved
loop-i-preserved c =
    let within : c.loop-i.i < length c.args.ids.now = omega (arith, c.loop-i-test.true, c.requires) in
    let here = read_id c.args.ids.now c.loop-i.i c.index-ids-i.result within c.index-ids-i.is in
    let child = read_id c.args.ids.now c.args.at c.index-ids-at.result c.requires c.index-ids-at.is in
    below_more _ _ c.loop-i.invariant (λ is. true≢false (
    sym ((is_parent_Decides (id_at c.args.ids.now c.loop-i.i) (id_at c.args.ids.now c.args.at)).1 is)
    ∙ sym (rw (here, child) at c.is_parent_of.ensures.exact) ∙ c.if-is_parent_of.false))

pub returns : goal.returns
returns c = λ (j, less, is). c.loop-i.invariant j (omega (arith, less, c.loop-i-test.false)) is
