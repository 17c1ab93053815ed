use Rattle.std.proofs.Common.{◌≡◌, ◌++◌, [], drop, map}
use Rattle.toml.specs.View.{table_view}
use Rattle.ext_plan_reading.specs.AllFaults.{key_faults}
use Rattle.ext_plan_reading.proofs.stages.tables.key_faults.Given as goal

abbrev pub invariant-loop-number : goal.invariant-loop-number
invariant-loop-number l = l.faults.items ++ key_faults l.number l.labels (map (λ t. table_view t.now) (drop l.number l.tables)) ≡ key_faults 0 [] (map (λ t. table_view t.now) l.tables)
