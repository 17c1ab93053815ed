use Rattle.std.proofs.Common.{◌≡◌, length}
use Rattle.ext_races.specs.InnerReach.{AreWhole}
use Rattle.ext_races.proofs.reach.whole_paths.Given as goal

abbrev pub invariant-loop : goal.invariant-loop
invariant-loop l = record { count : length l.below.items ≡ l.counter; whole : AreWhole l.below.items }
