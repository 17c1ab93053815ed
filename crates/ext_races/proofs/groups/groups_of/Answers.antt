use Rattle.std.proofs.Common.{◌≡◌, ◌+◌, ◌*◌, ◌<◌, ◌∷◌, ◌++◌, [], ◌∙◌, ap, sym, subst, arith, length, take, append-nil, refl}
use Rattle.std.specs.List.{flat_map}
use Rattle.std.proofs.lemmas.Grind.{flat_map-append}
use Rattle.std.proofs.lemmas.List.{take_all}
use Rattle.ext_plan.specs.StepCalls.{keys_in}
use Rattle.ext_races.specs.InnerGroups.{IsAdded, groups_view}
use Rattle.ext_races.specs.InnerMade.{left_after, made_behind, made_views}
use Rattle.ext_races.specs.InnerReach.{Tells}
use Rattle.ext_races.specs.Touches.{touches_of}
use Rattle.ext_races.proofs.Grouped.{added_more, added_none, grouped}
use Rattle.ext_races.proofs.After.{left_more_at, views_more}
use Rattle.ext_races.proofs.Named.{there_at}
use Rattle.ext_races.proofs.Reaches.{whole_tells}
use Rattle.ext_races.proofs.groups.groups_of.Goals as goal

pub loop-step-init : goal.loop-step-init
loop-step-init c = record {
  count = refl;
  added = λ above tells. added_none (length c.args.directory.now) (groups_view c.in_ok-groups.groups.items);
  tells = whole_tells (keys_in c.args.keys.now) c.args.directory.now c.in_ok-below.below.items (c.in_ok-below.ensures.count ∙ c.len-3.ensures.count) c.in_ok-below.ensures.whole;
}

pub add_step-requires-clause-below : goal.add_step-requires-clause-below
add_step-requires-clause-below c = c.loop-step.invariant.tells.count

pub add_step-requires-clause-key : goal.add_step-requires-clause-key
add_step-requires-clause-key c = there_at (keys_in c.args.keys.now) c.args.directory.now c.args.made.now c.loop-step.step-index c.step-item.result c.requires.keys (omega arith) c.step-item.is

pub add_step-requires-clause-node : goal.add_step-requires-clause-node
add_step-requires-clause-node c = subst (λ m. m.node < length c.args.tree.now) (sym c.step-item.is) (c.requires.nodes c.loop-step.step-index c.step-item.result (omega arith))

pub add_step-requires-clause-count : goal.add_step-requires-clause-count
add_step-requires-clause-count c =
    let so_far = c.loop-step.invariant.count in
    let made = c.in_ok-groups.ensures.count ∙ ap (λ contexts. contexts * (c.len-2.result + 1)) c.len.ensures.count ∙ ap (λ keys. length c.args.tree.now * (keys + 1)) c.len-2.ensures.count in
    omega (arith, so_far, made)

pub loop-step-preserved : goal.loop-step-preserved
loop-step-preserved c =
    let made = c.args.made.now in
    let i = c.loop-step.step-index in
    let first = groups_view c.in_ok-groups.groups.items in
    let after = groups_view c.add_step.new.groups.items in
    let so_far = made_views [] (take i made) in
    let left = left_after [] (take i made) in
    let one = made_behind left c.step-item.result in
    record {
      count = c.in_ok-add_step.ensures.count ∙ c.loop-step.invariant.count;
      added = λ above stands_so.
          let touches = touches_of c.args.tree.now (keys_in c.args.keys.now) c.args.directory.now above in
          let all = added_more (length c.args.directory.now) (flat_map touches so_far) (touches one) first (groups_view c.loop-step.groups.items) after (c.loop-step.invariant.added above stands_so)
          (c.in_ok-add_step.ensures.added left above c.loop-step.invariant.tells stands_so) in
          let same = ap (flat_map touches) (views_more made i c.step-item.result (omega arith) c.step-item.is) ∙ flat_map-append touches so_far (one ∷ []) ∙ ap (λ ts. flat_map touches so_far ++ ts) (append-nil (touches one)) in
          subst (λ ts. IsAdded (length c.args.directory.now) ts first after) (sym same) all;
      tells = subst (λ before. Tells (keys_in c.args.keys.now) c.args.directory.now before c.add_step.new.below.items) (sym (left_more_at made i c.step-item.result (omega arith) c.step-item.is))
          (c.in_ok-add_step.ensures.tells left c.loop-step.invariant.tells);
    }

pub returns-clause-count : goal.returns-clause-count
returns-clause-count c =
    let so_far = c.loop-step.invariant.count in
    let made = c.in_ok-groups.ensures.count ∙ ap (λ contexts. contexts * (c.len-2.result + 1)) c.len.ensures.count ∙ ap (λ keys. length c.args.tree.now * (keys + 1)) c.len-2.ensures.count in
    omega (arith, so_far, made)

pub returns-clause-groups : goal.returns-clause-groups
returns-clause-groups c = λ above stands_so.
    let touches = touches_of c.args.tree.now (keys_in c.args.keys.now) c.args.directory.now above in
    let made = c.args.made.now in
    let first = groups_view c.in_ok-groups.groups.items in
    let after = groups_view c.loop-step.groups.items in
    let past = c.loop-step-test.false in
    let whole : take c.loop-step.step-index made ≡ made = take_all c.loop-step.step-index made past in
    grouped (length c.args.directory.now) (flat_map touches (made_views [] made)) first after c.in_ok-groups.ensures.empty (subst (λ m. IsAdded (length c.args.directory.now) (flat_map touches (made_views [] m)) first after) whole (c.loop-step.invariant.added above stands_so))
