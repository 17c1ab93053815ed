use Rattle.std.proofs.Common.{◌≡◌, ◌<◌, ◌∙◌, length, refl, arith, length-set, slice_index}
use Rattle.ext_tree.proofs.Walks.{stepped, walked, arrived}
use Rattle.ext_tree.proofs.building.path_of.Goals as goal

pub loop-i-preserved : goal.loop-i-preserved
loop-i-preserved c =
    let parent = slice_index c.args.parents.now c.loop-i.at in
    let s = stepped c.args.ids.now c.args.parents.now c.loop-i.at parent c.loop-i.i c.len-depth.result
    c.requires.tree c.requires.parents c.loop-i.invariant.within refl c.loop-i.invariant.deep c.loop-i-test.true in
    let is = s.is in
    let id = c.len-depth.ensures.id in
    let few = id.few in
    let inside : c.loop-i.i < length c.loop-i.contexts = omega (arith, c.loop-i.invariant.size, c.loop-i-test.true, few, c.len-depth.ensures.count) in
    record {
      size = length-set c.loop-i.contexts c.loop-i.i parent ∙ c.loop-i.invariant.size;
      within = is.parent_within;
      deep = s.deeper;
      walks = walked c.args.ids.now c.args.context c.loop-i.at parent c.loop-i.i c.loop-i.contexts inside is c.loop-i.invariant.walks;
    }

pub returns-clause-path : goal.returns-clause-path
returns-clause-path c =
    let id = c.len-depth.ensures.id in
    let some = id.some in
    let all : c.loop-i.i ≡ c.len-depth.result = omega (arith, c.loop-i-test.false, c.loop-i.auto.i-end, c.len-depth.ensures.count, some) in
    arrived c.args.ids.now c.args.context c.loop-i.at c.loop-i.i c.len-depth.result c.loop-i.contexts c.of.result c.requires.tree
    c.loop-i.invariant.within c.loop-i.invariant.deep all c.loop-i.invariant.walks c.of.ensures
