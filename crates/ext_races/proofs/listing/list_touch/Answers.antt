use Rattle.std.proofs.Common.{◌≤◌, length, map, sym, arith}
use Rattle.ext_plan.specs.Plans.{plan_view}
use Rattle.ext_races.specs.Touches.{touch_view}
use Rattle.ext_races.proofs.Listed.{all_are_listed, looks_only}
use Rattle.ext_races.proofs.listing.list_touch.Goals as goal

pub returns-then-not-touch : goal.returns-then-not-touch
returns-then-not-touch c = sym (looks_only (plan_view c.args.plan.now) c.args.most (map touch_view c.args.group.now) c.args.listed.now.items (touch_view c.args.touch.now) c.if-not-touch.true)

pub returns-then-len-most : goal.returns-then-len-most
returns-then-len-most c =
    let ok = c.args.listed.now.ok in
    let full : c.args.most ≤ length c.args.listed.now.items = omega (arith, ok) in
    sym (all_are_listed (plan_view c.args.plan.now) c.args.most (map touch_view c.args.group.now) c.args.listed.now.items (touch_view c.args.touch.now) full)
