use Rattle.std.proofs.Common.{◌≡◌, map, take, fold}
use Rattle.ext_plan.specs.Plans.{plan_view}
use Rattle.ext_races.specs.InnerListed.{touch_listed}
use Rattle.ext_races.specs.Touches.{touch_view}
use Rattle.ext_races.proofs.listing.list_group.Given as goal

abbrev pub invariant-loop-touch : goal.invariant-loop-touch
invariant-loop-touch l = l.listed.items ≡ fold (touch_listed (plan_view l.plan) l.most (map touch_view l.group)) l.fn.listed.items (map touch_view (take l.touch-index l.group))
