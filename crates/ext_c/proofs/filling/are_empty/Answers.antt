use Rattle.std.proofs.Common.{arith, rules}
use Rattle.ext_c.proofs.filling.are_empty.Goals as goal

pub returns : goal.returns
returns c = (λ t k d lt. c.loop-slot.invariant k (omega (arith, lt, c.loop-slot-test.false)) d, λ e. search rules)
