use Rattle.std.proofs.Common.{◌≡◌, length, take, vec_len, [], fold}
use Rattle.ext_plan.specs.Plans.{plan_view}
use Rattle.ext_plan.specs.ReadPlans.{ids_of_nodes}
use Rattle.ext_races.specs.InnerGroups.{groups_view}
use Rattle.ext_races.specs.InnerListed.{group_listed}
use Rattle.ext_races.proofs.listing.races_listed.Given as goal

abbrev pub invariant-loop-group : goal.invariant-loop-group
invariant-loop-group l = record {
  listed : l.listed.items ≡ fold (group_listed (plan_view l.plan) l.most) [] (groups_view (take l.group-index l.groups));
  count : vec_len l.passed ≡ length (ids_of_nodes (plan_view l.plan).nodes);
}
