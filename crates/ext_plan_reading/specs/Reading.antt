-- Which texts are plans, and with which keys and nodes: the text's TOML document, read in order up to the first fault.
use Rattle.std.specs.Prelude.{ℕ, nat_le, Bool, false, codes, List, [], ◌∷◌, length, Result, Ok}
use Rattle.toml.specs.Data.{Members, get_member, as_bool, as_table}
use Rattle.toml.specs.Parse.{parse_document}
use Rattle.ext_model.specs.declared.size.Size.{Size}
use Rattle.ext_plan.specs.Plans.{PlanText}
use Rattle.ext_plan.specs.Labels.{labels_of}
use Rattle.ext_plan.specs.StoreKeys.{different_keys}
use Rattle.ext_plan.specs.LockNames.{lock_names, lock_limit}
use Rattle.ext_plan_reading.specs.declared.fault.PlanFault.{PlanFault}
use Rattle.ext_plan_reading.specs.declared.fault.PlanFault.TheVariants as faults
use Rattle.ext_plan_reading.specs.declared.fault.PlanPart.TheVariants as plan_parts
use Rattle.ext_plan_reading.specs.Faults.{some_or, check, ◌>>=◌}
use Rattle.ext_plan_reading.specs.Fields.{has_only, array_of, places_in, field_or}
use Rattle.ext_plan_reading.specs.KeyReading.{keys_after}
use Rattle.ext_plan_reading.specs.NodeReading.{nodes_of_tables}

abbrev pub top_fields : List (List ℕ)
top_fields = codes "keep_faults" ∷ codes "keys" ∷ codes "key" ∷ codes "node" ∷ []

-- The plan of this size with these tables, whose store keeps faults or not and has so many places for keys.
unfoldable pub plan_of_tables : Size → Bool → ℕ → List Members → List Members → Result PlanText PlanFault
plan_of_tables size keep_faults key_places key_tables node_tables = do
  keys ← keys_after [] key_tables
  nodes ← nodes_of_tables size (labels_of keys) node_tables
  _ ← check faults.TooMany (nat_le (length (different_keys keys)) key_places)
  _ ← check faults.TooMany (nat_le (length (lock_names nodes)) lock_limit)
  Ok (record { keep_faults = keep_faults; key_places = key_places; size = size; keys = keys; nodes = nodes })

-- The plan of a document, which may be as large as this.
unfoldable pub plan_of : Size → Members → Result PlanText PlanFault
plan_of size top = do
  _ ← check (faults.UnknownField plan_parts.Whole) (has_only top_fields top)
  keep_faults ← field_or false as_bool (faults.BadField plan_parts.Whole) (get_member (codes "keep_faults") top)
  key_places ← field_or 64 places_in (faults.BadField plan_parts.Whole) (get_member (codes "keys") top)
  key_tables ← field_or [] (array_of as_table) (faults.BadField plan_parts.Whole) (get_member (codes "key") top)
  node_tables ← field_or [] (array_of as_table) (faults.BadField plan_parts.Whole) (get_member (codes "node") top)
  plan_of_tables size keep_faults key_places key_tables node_tables

-- The plan of a text, which may be as large as this.
unfoldable pub plan_of_text : Size → List ℕ → Result PlanText PlanFault
plan_of_text size text = do
  top ← some_or faults.NotToml (parse_document text)
  plan_of size top
