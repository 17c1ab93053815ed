use Rattle.std.proofs.Common.{◌≡◌, ℕ, ◌<◌, length}
use Rattle.ext_races.specs.InnerReach.{below_at}
use Rattle.ext_races.proofs.reach.forget.Given as goal

abbrev pub invariant-loop-key : goal.invariant-loop-key
invariant-loop-key l = record {
  count : length l.below.items ≡ length l.fn.below.items;
  whole : (k : ℕ) → k < l.key → below_at l.below.items k ≡ 17;
}
