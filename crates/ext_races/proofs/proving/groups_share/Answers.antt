use Rattle.std.proofs.Common.{arith, sym}
use Rattle.std.proofs.lemmas.List.{length-map}
use Rattle.ext_plan.specs.Plans.{plan_view}
use Rattle.ext_races.specs.InnerGroups.{group_view, groups_view}
use Rattle.ext_races.proofs.Searches.{group_items, none_more, one_shares}
use Rattle.ext_races.proofs.proving.groups_share.Goals as goal

pub returns-then-group_shares : goal.returns-then-group_shares
returns-then-group_shares c =
    let long = length-map c.args.groups.now group_view in
    sym (one_shares (plan_view c.args.plan.now) (groups_view c.args.groups.now) c.loop-group.group-index _ c.group_shares.result (omega (arith, long))
    (group_items c.args.groups.now c.loop-group.group-index c.group-item.result _ (omega arith) c.group-item.is c.as_slice.ensures.value) c.group_shares.ensures c.if-group_shares.true)

pub loop-group-preserved : goal.loop-group-preserved
loop-group-preserved c =
    let long = length-map c.args.groups.now group_view in
    none_more (plan_view c.args.plan.now) (groups_view c.args.groups.now) c.loop-group.group-index _ c.group_shares.result (omega (arith, long))
    (group_items c.args.groups.now c.loop-group.group-index c.group-item.result _ (omega arith) c.group-item.is c.as_slice.ensures.value) c.group_shares.ensures c.if-group_shares.false c.loop-group.invariant
