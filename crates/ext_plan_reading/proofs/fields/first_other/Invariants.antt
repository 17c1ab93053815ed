use Rattle.std.proofs.Common.{◌≡◌, map}
use Rattle.toml.specs.View.{table_view}
use Rattle.ext_plan_reading.specs.Fields.{has_only}
use Rattle.ext_plan_reading.proofs.FieldNames.{are_among}
use Rattle.ext_plan_reading.proofs.fields.first_other.Given as goal

abbrev pub invariant-loop-name : goal.invariant-loop-name
invariant-loop-name l = has_only (map (λ n. n.now) l.names) (table_view l.table) ≡ are_among l.names l.name-iterator
