use Rattle.std.proofs.Common.{◌≡◌, vec_len}
use Rattle.ext_races.proofs.passing.none_passed.Given as goal

abbrev pub invariant-loop : goal.invariant-loop
invariant-loop l = vec_len l.passed ≡ l.counter
