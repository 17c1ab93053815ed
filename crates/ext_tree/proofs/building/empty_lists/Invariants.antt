use Rattle.std.proofs.Common.{◌≡◌, ◌<◌, ℕ, [], length, HoldsAt, vec_len, vec_capacity}
use Rattle.ext_tree.proofs.building.empty_lists.Given as goal

abbrev pub invariant-loop : goal.invariant-loop
invariant-loop l = record {
  filled : vec_len l.lists ≡ l.counter;
  room : vec_capacity l.lists ≡ length l.ids;
  count : length l.lists.items ≡ l.counter;
  each : (k : ℕ) → k < l.counter → HoldsAt (λ v. v.items ≡ []) l.lists.items k;
}
