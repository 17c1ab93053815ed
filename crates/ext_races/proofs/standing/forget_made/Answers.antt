use Rattle.std.proofs.Common.{◌≡◌, ◌<◌, All, arith, length, map, subst, sym, take}
use Rattle.std.proofs.lemmas.List.{take_all}
use Rattle.std.proofs.lemmas.List.Elements.{All-drop}
use Rattle.ext_plan.specs.StepCalls.{keys_in}
use Rattle.ext_races.specs.InnerMade.{made_view}
use Rattle.ext_races.specs.InnerStanding.{AreWithoutRemoved, computes_view}
use Rattle.ext_races.proofs.Lists.{map-take_more}
use Rattle.ext_races.proofs.Removed.{lists_long, made_more, made_none}
use Rattle.ext_races.proofs.standing.forget_made.Goals as goal

pub loop-step-init : goal.loop-step-init
loop-step-init c = made_none (keys_in c.args.keys.now) c.args.directory.now c.args.tree.now (computes_view c.args.lists.now.items)

pub forget_past-requires-clause-count : goal.forget_past-requires-clause-count
forget_past-requires-clause-count c =
    let so_far = c.loop-step.invariant.count in
    let now = lists_long c.loop-step.lists.items in
    let old = lists_long c.args.lists.now.items in
    let ok = c.loop-step.lists.ok in
    let first = c.args.lists.now.ok in
    let count = c.requires.count in
    omega (arith, so_far, now, old, ok, first, count)

pub forget_past-requires-clause-nodes : goal.forget_past-requires-clause-nodes
forget_past-requires-clause-nodes c =
    subst (All (λ at. at < length c.args.tree.now)) (sym c.above.ensures) (All-drop (λ at. at < length c.args.tree.now) 1 c.path_in-path.result.now c.path_in-path.ensures.within)

pub loop-step-preserved : goal.loop-step-preserved
loop-step-preserved c =
    let declared = keys_in c.args.keys.now in
    let i = c.loop-step.step-index in
    let first = computes_view c.args.lists.now.items in
    let before = c.loop-step.lists in
    let after = c.forget_past.new.lists in
    let less : c.step-item.result.node < length c.args.tree.now = subst (λ m. m.node < length c.args.tree.now) (sym c.step-item.is) (c.requires.nodes i c.step-item.result (omega arith)) in
    let long : length (computes_view after.items) ≡ length (computes_view before.items) =
    (let now = lists_long after.items in let old = lists_long before.items in let ok = after.ok in let first = before.ok in let count = c.forget_past.ensures.count in omega (arith, now, old, ok, first, count)) in
    let more = made_more declared c.args.directory.now c.args.tree.now (map made_view (take i c.args.made.now)) (made_view c.step-item.result) c.in_ok-key.key c.path_in-path.result.now c.above.result.now c.context_of.result first
    (computes_view before.items) (computes_view after.items) c.in_ok-key.ensures (c.path_in-path.ensures.path less) c.above.ensures c.context_of.ensures long c.forget_past.ensures.forgotten c.loop-step.invariant in
    subst (λ steps. AreWithoutRemoved declared c.args.directory.now c.args.tree.now steps first (computes_view after.items)) (sym (map-take_more made_view c.args.made.now i c.step-item.result (omega arith) c.step-item.is)) more

pub returns : goal.returns
returns c =
    let past = c.loop-step-test.false in
    let whole : take c.loop-step.step-index c.args.made.now ≡ c.args.made.now = take_all c.loop-step.step-index c.args.made.now past in
    subst (λ made. AreWithoutRemoved (keys_in c.args.keys.now) c.args.directory.now c.args.tree.now (map made_view made) (computes_view c.args.lists.now.items) (computes_view c.loop-step.lists.items)) whole c.loop-step.invariant
