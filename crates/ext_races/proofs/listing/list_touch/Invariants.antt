use Rattle.std.proofs.Common.{◌≡◌, map, take, fold}
use Rattle.ext_plan.specs.Plans.{plan_view}
use Rattle.ext_races.specs.InnerListed.{pair_listed}
use Rattle.ext_races.specs.Touches.{touch_view}
use Rattle.ext_races.proofs.listing.list_touch.Given as goal

abbrev pub invariant-loop-other : goal.invariant-loop-other
invariant-loop-other l = l.listed.items ≡ fold (pair_listed (plan_view l.plan) l.most (touch_view l.touch)) l.fn.listed.items (map touch_view (take l.other-index l.group))
