use Rattle.std.proofs.Common.{◌∙◌, refl}
use Rattle.ext_plan_reading.proofs.FieldNames.{has_only-keys}
use Rattle.ext_plan_reading.proofs.fields.first_other.Goals as goal

pub loop-name-init : goal.loop-name-init
loop-name-init c = has_only-keys c.args.names.now c.args.table.now.entries ∙ rw (c.into_iter-name-iterator.ensures.into_iter_gives, c.keys-name-items.ensures.rest) refl
