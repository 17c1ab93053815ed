use Rattle.std.proofs.Common.{◌≡◌, ◌++◌, map, string_bytes, take}
use Rattle.std.specs.List.{flat_map}
use Rattle.ext_runner.specs.InnerSelecting.{text_at}
use Rattle.ext_runner.proofs.selecting.add_ids.Given as goal

abbrev pub invariant-loop-index : goal.invariant-loop-index
invariant-loop-index l = map string_bytes l.ids.items ≡ map string_bytes l.initial.ids.items ++ flat_map (text_at l.all) (take l.index-index l.indices)
