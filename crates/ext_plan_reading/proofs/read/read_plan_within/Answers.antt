use Rattle.toml.specs.View.{table_view}
use Rattle.ext_plan_reading.proofs.ReadPlans.{if_read}
use Rattle.ext_plan_reading.proofs.NeverNotUtf8.{never_not_utf8}
use Rattle.ext_plan_reading.proofs.read.read_plan_within.Goals as goal

pub returns-in-Ok-clause-utf8 : goal.returns-in-Ok-clause-utf8
returns-in-Ok-clause-utf8 c = never_not_utf8 c.args.size c.plan_of.result (table_view c.in-Ok.top) c.plan_of.ensures

pub returns-in-Ok-clause-plan : goal.returns-in-Ok-clause-plan
returns-in-Ok-clause-plan c = if_read c.args.size c.plan_of.result (table_view c.in-Ok.top) c.plan_of.ensures
