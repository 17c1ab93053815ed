use Rattle.std.proofs.Common.{◌∙◌, sym}
use Rattle.ext_plan.specs.Plans.{plan_view}
use Rattle.ext_races.specs.InnerGroups.{groups_view}
use Rattle.ext_races.proofs.Grounds.{has_near, has_one, not_one}
use Rattle.ext_races.proofs.proving.proved_of.Goals as goal

pub returns-then-groups_share : goal.returns-then-groups_share
returns-then-groups_share c =
    let plan = plan_view c.args.plan.now in
    let groups = groups_view c.args.groups.now in (
      has_near plan groups c.args.keys c.requires.groups c.requires.free c.requires.places c.requires.numbers,
      not_one plan groups c.args.keys c.requires.groups (sym c.groups_share.ensures ∙ c.if-groups_share.true),
    )

pub returns : goal.returns
returns c =
    has_one (plan_view c.args.plan.now) (groups_view c.args.groups.now) c.args.keys c.requires.groups c.requires.free c.requires.places c.requires.numbers (sym c.groups_share.ensures ∙ c.if-groups_share.false)
