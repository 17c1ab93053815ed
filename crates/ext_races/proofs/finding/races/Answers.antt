use Rattle.std.proofs.Common.{◌∙◌, [], Err, map, length, ap, refl, subst, sym, arith, All, ◌<◌}
use Rattle.std.specs.List.{count_by}
use Rattle.ext_plan.specs.Plans.{keys_view, plan_view}
use Rattle.ext_plan.specs.ReadPlans.{ids_of_nodes}
use Rattle.ext_plan.specs.StepCalls.{keys_in}
use Rattle.ext_races.specs.Acts.{draws}
use Rattle.ext_races.specs.InnerGroups.{IsGrouped, groups_view}
use Rattle.ext_races.specs.InnerNaming.{keys_listed}
use Rattle.ext_races.specs.InnerMade.{made_view, made_views}
use Rattle.ext_races.specs.Touches.{standing, touches_made}
use Rattle.ext_races.proofs.After.{drawn_same, keys_same}
use Rattle.ext_races.proofs.Finds.{drawn_is, named_is, nodes_in, touches_in, within_limits}
use Rattle.ext_races.proofs.finding.races.Goals as goal

pub standing_of-requires-clause-plan : goal.standing_of-requires-clause-plan
standing_of-requires-clause-plan c = c.requires

pub standing_of-requires-clause-keys : goal.standing_of-requires-clause-keys
standing_of-requires-clause-keys c = c.of-keys.ensures ∙ ap keys_view c.as_slice.ensures.value

pub standing_of-requires-clause-made : goal.standing_of-requires-clause-made
standing_of-requires-clause-made c = ap (made_views []) c.as_slice-5.ensures.value ∙ c.in_ok-made.ensures

pub standing_of-requires-clause-nodes : goal.standing_of-requires-clause-nodes
standing_of-requires-clause-nodes c =
    let plan = plan_view c.args.plan.now in
    let ids = ids_of_nodes plan.nodes in
    subst (All (λ m. m.node < length ids)) (sym c.as_slice-5.ensures.value) (nodes_in plan c.in_ok-made.made.items ids c.in_ok-made.ensures refl)

pub groups_of-requires-clause-nodes : goal.groups_of-requires-clause-nodes
groups_of-requires-clause-nodes c =
    subst (All (λ m. m.node < length c.tree-tree.result.now)) (sym c.as_slice-6.ensures.value) (nodes_in (plan_view c.args.plan.now) c.in_ok-made.made.items c.tree-tree.result.now c.in_ok-made.ensures c.tree-tree.ensures)

pub found_in-requires-clause-groups : goal.found_in-requires-clause-groups
found_in-requires-clause-groups c =
    let plan = plan_view c.args.plan.now in
    let made = c.in_ok-made.made.items in
    let keys = c.of-keys.ensures ∙ ap keys_view c.as_slice.ensures.value in
    let named = c.in-Ok.ensures.keys ∙ ap (λ xs. keys_listed (keys_in c.of-keys.result) (map made_view xs)) c.as_slice-3.ensures.value ∙ keys_same (keys_in c.of-keys.result) [] [] made in
    let are = touches_in plan (made_views [] made) c.in_ok-made.ensures (keys_in c.of-keys.result) c.in-Ok.named.0 c.tree-tree.result.now (groups_view c.in_ok-groups.groups.items) keys c.tree-tree.ensures named
    (rw (← c.as_slice-6.ensures.value) (c.in_ok-groups.ensures.groups (standing plan) (rw c.tree-tree.ensures c.in_ok-standing.ensures))) in
    subst (λ n. IsGrouped n (touches_made plan) (groups_view c.as_slice-7.result.now)) (sym c.len-keys.ensures.count)
    (subst (λ groups. IsGrouped (length c.in-Ok.named.0) (touches_made plan) (groups_view groups)) (sym c.as_slice-7.ensures.value) are)

pub found_in-requires-clause-within : goal.found_in-requires-clause-within
found_in-requires-clause-within c =
    let plan = plan_view c.args.plan.now in
    let made = c.in_ok-made.made.items in
    let keys = c.of-keys.ensures ∙ ap keys_view c.as_slice.ensures.value in
    within_limits plan (made_views [] made) c.in_ok-made.ensures (keys_in c.of-keys.result) c.in-Ok.named.0 c.in-Ok.named.1.items c.numbers_drawn.result keys
    (c.in-Ok.ensures.keys ∙ ap (λ xs. keys_listed (keys_in c.of-keys.result) (map made_view xs)) c.as_slice-3.ensures.value ∙ keys_same (keys_in c.of-keys.result) [] [] made) c.in-Ok.ensures.few c.in-Ok.ensures.names
    (c.numbers_drawn.ensures ∙ ap (λ xs. count_by (λ m. draws plan.keep_faults m.step) (map made_view xs)) c.as_slice-4.ensures.value ∙ drawn_same plan.keep_faults [] made)
    (let few = c.if-numbers_drawn-numbers.false in let most = c.numbers-numbers.ensures in omega (arith, few, most))

pub returns-in-Err-TooMany : goal.returns-in-Err-TooMany
returns-in-Err-TooMany c =
    let plan = plan_view c.args.plan.now in
    let made = c.in_ok-made.made.items in
    let declared = keys_in c.of-keys.result in
    let keys = c.of-keys.ensures ∙ ap keys_view c.as_slice.ensures.value in
    let listed = ap (λ xs. keys_listed declared (map made_view xs)) c.as_slice-3.ensures.value ∙ keys_same declared [] [] made in
    let full = c.in-Err-TooMany.ensures.full (ap Err c.in-Err-TooMany.field-0-is) in
    let long = ap length (named_is plan (made_views [] made) c.in_ok-made.ensures declared _ keys listed) in
    omega (arith, full, long)

pub returns-then-numbers_drawn-numbers : goal.returns-then-numbers_drawn-numbers
returns-then-numbers_drawn-numbers c =
    let plan = plan_view c.args.plan.now in
    let made = c.in_ok-made.made.items in
    let declared = keys_in c.of-keys.result in
    let keys = c.of-keys.ensures ∙ ap keys_view c.as_slice.ensures.value in
    let listed = c.in-Ok.ensures.keys ∙ ap (λ xs. keys_listed declared (map made_view xs)) c.as_slice-3.ensures.value ∙ keys_same declared [] [] made in
    let long = ap length (named_is plan (made_views [] made) c.in_ok-made.ensures declared _ keys listed) in
    let few = c.in-Ok.ensures.few in
    let counted = c.numbers_drawn.ensures ∙ ap (λ xs. count_by (λ m. draws plan.keep_faults m.step) (map made_view xs)) c.as_slice-4.ensures.value ∙ drawn_same plan.keep_faults [] made in
    let drawn = drawn_is plan (made_views [] made) c.in_ok-made.ensures c.numbers_drawn.result counted in
    let more = c.if-numbers_drawn-numbers.true in
    let most = c.numbers-numbers.ensures in
    (omega (arith, long, few), omega (arith, drawn, more, most))
