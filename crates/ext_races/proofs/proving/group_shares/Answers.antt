use Rattle.std.proofs.Common.{◌∙◌, sym}
use Rattle.ext_plan.specs.Plans.{plan_view}
use Rattle.ext_races.proofs.Searches.{none_computes, shares_noted}
use Rattle.ext_races.proofs.proving.group_shares.Goals as goal

pub returns-then-not-computes_any : goal.returns-then-not-computes_any
returns-then-not-computes_any c = none_computes (plan_view c.args.plan.now) c.args.group.now (sym c.computes_any.ensures ∙ c.if-not-computes_any.true)

pub returns : goal.returns
returns c = c.any_shares.ensures ∙ shares_noted (plan_view c.args.plan.now) c.args.group.now c.note_changing.new.passed c.note_changing.ensures
