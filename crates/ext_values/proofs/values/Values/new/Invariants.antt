use Rattle.std.proofs.Common.{◌≡◌, vec_len, vec_capacity}
use Rattle.ext_values.proofs.values.Values.new.Given as goal

abbrev pub invariant-loop : goal.invariant-loop
invariant-loop g l = record { length : vec_len l.slots ≡ l.counter; room : vec_capacity l.slots ≡ l.fn.capacity }
