use Rattle.std.proofs.Common.{◌≡◌, ◌++◌, drop, map}
use Rattle.toml.specs.View.{table_view}
use Rattle.ext_plan_reading.specs.AllFaults.{sketch_faults}
use Rattle.ext_plan_reading.proofs.stages.tables.sketch_faults.Given as goal

abbrev pub invariant-loop-number : goal.invariant-loop-number
invariant-loop-number l = l.faults.items ++ sketch_faults l.number (map (λ t. table_view t.now) (drop l.number l.tables)) ≡ sketch_faults 0 (map (λ t. table_view t.now) l.tables)
