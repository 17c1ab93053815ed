use Rattle.std.proofs.Common.{arith}
use Rattle.test_plans.proofs.lifecycle.close_fault_is_told_before_an_abort.Goals as goal

pub result-requires : goal.result-requires
result-requires g c = record { room = c.run_befores-tally.ensures.room 1 (omega (arith, c.in_ok-befores.ensures.few, c.as_slice.ensures.len)) }
