use Rattle.std.proofs.Common.{◌<◌, ◌++◌, ◌∷◌, [], ◌∙◌, ap, length, arith, slice_index}
use Rattle.std.proofs.lemmas.List.{get_or_default}
use Rattle.ext_tree.proofs.Children.{grown}
use Rattle.ext_tree.proofs.building.children_lists.Goals as goal

pub loop-i-preserved : goal.loop-i-preserved
loop-i-preserved c =
    let f = c.requires.parents.each c.loop-i.i (omega (arith, c.loop-i.auto.i)) c.loop-i-test.true in
    let before = f.before in
    let inside : slice_index c.args.parents.now c.loop-i.i < length c.loop-i.lists.items = omega (arith, before, c.loop-i-test.true, c.loop-i.invariant.count) in
    grown c.args.ids.now c.requires.tree c.loop-i.i _ c.loop-i.lists.items c.push.new.self c.loop-i-test.true f c.loop-i.invariant
    (λ d. c.in_ok-push.ensures.items ∙ ap (λ v. v.items ++ c.loop-i.i ∷ []) (c.index_mut.ensures.value ∙ get_or_default c.loop-i.lists.items (slice_index c.args.parents.now c.loop-i.i) _ d inside))
