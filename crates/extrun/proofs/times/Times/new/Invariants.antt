use Rattle.std.proofs.Common.{◌≡◌, vec_len}
use Rattle.extrun.proofs.times.Times.new.Given as goal

abbrev pub invariant-loop : goal.invariant-loop
invariant-loop l = (vec_len l.started ≡ l.counter) × (vec_len l.extras ≡ l.counter)
