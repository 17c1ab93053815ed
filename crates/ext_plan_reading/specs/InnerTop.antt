-- The top fields of a document apart from where they lie in memory. Only contracts of private functions cite it.
use Rattle.std.specs.Prelude.{map}
use Rattle.toml.specs.View.{table_view}
use Rattle.ext_plan_reading.specs.declared.top.Top.{Top}
use Rattle.ext_plan_reading.specs.TopReading.{TopFields}

abbrev pub top_view : Top → TopFields
top_view top = record {
  keep_faults = top.keep_faults;
  key_places = top.key_places;
  key_tables = map (λ t. table_view t.now) top.key_tables.items;
  node_tables = map (λ t. table_view t.now) top.node_tables.items;
}
