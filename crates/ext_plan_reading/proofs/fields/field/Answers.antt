use Rattle.toml.proofs.Views.{table_get}
use Rattle.ext_plan_reading.proofs.fields.field.Goals as goal

pub returns : goal.returns
returns c = table_get c.get.result c.args.name.now c.args.table.now.entries c.get.ensures.value
