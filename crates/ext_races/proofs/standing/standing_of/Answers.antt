use Rattle.ext_plan.specs.Plans.{plan_view}
use Rattle.ext_races.specs.declared.standing.Standing.{Standing}
use Rattle.ext_races.proofs.Above.{tells_above}
use Rattle.ext_races.proofs.standing.standing_of.Goals as goal

pub returns : goal.returns
returns c =
    let noted : Standing = record { computes = c.in_ok-computes.computes; puts = c.in_ok-puts.puts } in
    tells_above (plan_view c.args.plan.now) c.args.directory.now noted c.in_ok-computes.ensures c.in_ok-puts.ensures
