use Rattle.std.proofs.Common.{◌≡◌, drop, map, []}
use Rattle.toml.specs.View.{table_view, items_view}
use Rattle.toml.specs.Data.{as_table}
use Rattle.ext_plan_reading.specs.Fields.{all_after}
use Rattle.ext_plan_reading.proofs.fields.tables_of.Given as goal

abbrev pub invariant-loop-item : goal.invariant-loop-item
invariant-loop-item l =
    all_after as_table [] (items_view l.items) ≡ all_after as_table (map (λ t. table_view t.now) l.tables.items) (items_view (drop l.item-index l.items))
