use Rattle.std.proofs.Common.{◌≡◌, ◌≤◌, length, drop}
use Rattle.ext_plan.specs.Plans.{keys_view}
use Rattle.ext_plan.specs.StoreKeys.{different_keys, keys_with}
use Rattle.ext_plan.proofs.keys.keys_are_few.Given as goal

abbrev pub invariant-loop-key : goal.invariant-loop-key
invariant-loop-key l = record {
  rest : different_keys (keys_view l.keys) ≡ keys_with l.directory (keys_view (drop l.key-index l.keys));
  few : length l.directory ≤ l.most;
}
