use Rattle.std.proofs.Common.{◌≡◌, false, take}
use Rattle.ext_plan.specs.Plans.{plan_view}
use Rattle.ext_races.specs.InnerGroups.{groups_view}
use Rattle.ext_races.specs.InnerProving.{groups_share}
use Rattle.ext_races.proofs.proving.groups_share.Given as goal

abbrev pub invariant-loop-group : goal.invariant-loop-group
invariant-loop-group l = groups_share (plan_view l.plan) (take l.group-index (groups_view l.groups)) ≡ false
