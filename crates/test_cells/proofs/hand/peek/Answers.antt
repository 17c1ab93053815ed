use Rattle.std.specs.List.{IsDistinct}
use Rattle.test_cells.proofs.hand.peek.Goals as goal

pub collect-requires-clause-different : goal.collect-requires-clause-different
unfolding IsDistinct
collect-requires-clause-different c = (tt, tt)
