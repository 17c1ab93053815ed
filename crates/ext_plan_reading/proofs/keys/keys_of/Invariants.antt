use Rattle.std.proofs.Common.{◌≡◌, All, drop, map, []}
use Rattle.toml.specs.View.{table_view}
use Rattle.ext_plan.specs.Plans.{keys_view}
use Rattle.ext_plan.specs.Labels.{labels_of}
use Rattle.ext_plan.specs.StoreKeys.{HasParts}
use Rattle.ext_plan_reading.specs.KeyReading.{keys_after}
use Rattle.ext_plan_reading.proofs.keys.keys_of.Given as goal

abbrev pub invariant-loop-table : goal.invariant-loop-table
invariant-loop-table l = record {
  rest : keys_after [] (map (λ t. table_view t.now) l.tables) ≡ keys_after (keys_view l.keys.items) (map (λ t. table_view t.now) (drop l.table-index l.tables));
  labels : l.labels ≡ labels_of (keys_view l.keys.items);
  parts : All HasParts (keys_view l.keys.items);
}
