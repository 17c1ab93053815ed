use Rattle.std.proofs.Common.{◌∙◌, sym}
use Rattle.toml.specs.View.{table_view}
use Rattle.ext_plan.specs.Plans.{key_view}
use Rattle.ext_plan_reading.proofs.AllFaults.{label_was}
use Rattle.ext_plan_reading.proofs.stages.tables.add_key_fault.Goals as goal

pub returns-in-Ok-clause-labels : goal.returns-in-Ok-clause-labels
returns-in-Ok-clause-labels c = c.in-Ok.ensures.labels ∙ sym (label_was c.args.number c.args.labels.now (table_view c.args.table.now) (key_view c.in-Ok.field-0) c.in-Ok.ensures.exact)
