-- The top fields of a plan's document.
use Rattle.std.specs.Prelude.{ℕ, Bool, false, codes, List, [], Result, Ok}
use Rattle.toml.specs.Data.{Members, get_member, as_bool, as_table}
use Rattle.ext_plan_reading.specs.declared.fault.PlanFault.{PlanFault}
use Rattle.ext_plan_reading.specs.declared.fault.PlanFault.TheVariants as faults
use Rattle.ext_plan_reading.specs.declared.fault.PlanPart.TheVariants as plan_parts
use Rattle.ext_plan_reading.specs.Faults.{check, ◌>>=◌}
use Rattle.ext_plan_reading.specs.Fields.{has_only, array_of, places_in, field_or}
use Rattle.ext_plan_reading.specs.Reading.{top_fields}

-- What they hold: whether faults are kept, the places for keys, and the tables of the keys and of the nodes.
pub record TopFields : Type 0 where
  pub keep_faults : Bool
  pub key_places : ℕ
  pub key_tables : List Members
  pub node_tables : List Members

-- The top fields of a document, in the order in which `plan_of` reads them.
unfoldable pub top_at : Members → Result TopFields PlanFault
top_at top = do
  _ ← check (faults.UnknownField plan_parts.Whole) (has_only top_fields top)
  keep_faults ← field_or false as_bool (faults.BadField plan_parts.Whole) (get_member (codes "keep_faults") top)
  key_places ← field_or 64 places_in (faults.BadField plan_parts.Whole) (get_member (codes "keys") top)
  key_tables ← field_or [] (array_of as_table) (faults.BadField plan_parts.Whole) (get_member (codes "key") top)
  node_tables ← field_or [] (array_of as_table) (faults.BadField plan_parts.Whole) (get_member (codes "node") top)
  Ok (record { keep_faults = keep_faults; key_places = key_places; key_tables = key_tables; node_tables = node_tables })
