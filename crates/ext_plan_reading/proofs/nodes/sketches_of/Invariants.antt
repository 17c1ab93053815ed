use Rattle.std.proofs.Common.{◌≡◌, drop, map, []}
use Rattle.toml.specs.View.{table_view}
use Rattle.ext_plan_reading.specs.InnerSketches.{sketch_view}
use Rattle.ext_plan_reading.specs.NodeReading.{sketches_after}
use Rattle.ext_plan_reading.proofs.nodes.sketches_of.Given as goal

abbrev pub invariant-loop-table : goal.invariant-loop-table
invariant-loop-table l = sketches_after [] (map (λ t. table_view t.now) l.tables) ≡ sketches_after (map sketch_view l.sketches.items) (map (λ t. table_view t.now) (drop l.table-index l.tables))
