use Rattle.std.proofs.Common.{◌≡◌, map}
use Rattle.std.specs.List.{range_with_len}
use Rattle.ext_table.specs.Sharing.{level_key}
use Rattle.ext_table.proofs.table_run.level_keys.Given as goal

abbrev pub invariant-loop-level : goal.invariant-loop-level
invariant-loop-level l = l.keys.items ≡ map level_key (range_with_len 0 l.level)
