use Rattle.ext_races.specs.Touches.{touch_view}
use Rattle.ext_races.specs.InnerGroups.{groups_view}
use Rattle.ext_races.proofs.Grouped.{added_both, added_place}
use Rattle.ext_races.proofs.groups.add.Goals as goal

pub returns-in_ok-push_in-2 : goal.returns-in_ok-push_in-2
returns-in_ok-push_in-2 c =
    added_both c.args.keys (groups_view c.args.groups.now.items) (groups_view c.push_in.new.groups.items) (groups_view c.push_in-then-may_fail.new.groups.items) (touch_view c.args.touch) c.in_ok-push_in.ensures c.in_ok-push_in-2.ensures

pub returns-else-may_fail : goal.returns-else-may_fail
returns-else-may_fail c =
    let says = c.may_fail.ensures in
    let safe = c.if-may_fail.false in
    added_place c.args.keys (groups_view c.args.groups.now.items) (groups_view c.push_in.new.groups.items) (touch_view c.args.touch) c.in_ok-push_in.ensures (λ fails. absurd cc)
