use Rattle.std.proofs.Common.{refl}
use Rattle.std.specs.List.{IsDistinct}
use Rattle.test_cells.proofs.threads.is_contended.Goals as goal

pub collect-requires-clause-different : goal.collect-requires-clause-different
unfolding IsDistinct
collect-requires-clause-different c = ((refl, tt), (tt, tt))
