use Rattle.std.proofs.Common.{◌≡◌, map, take}
use Rattle.ext_plan.specs.StoreKeys.{named_key}
use Rattle.ext_plan.specs.Plans.{keys_view}
use Rattle.ext_plan.proofs.keys.store_keys_of.Given as goal

abbrev pub invariant-loop-key : goal.invariant-loop-key
invariant-loop-key l = l.list.items ≡ map named_key (keys_view (take l.key-index l.keys))
