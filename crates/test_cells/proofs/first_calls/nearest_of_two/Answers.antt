use Rattle.std.proofs.Common.{refl}
use Rattle.std.specs.List.{IsDistinct}
use Rattle.test_cells.proofs.first_calls.nearest_of_two.Goals as goal

pub nearest-requires-clause-different : goal.nearest-requires-clause-different
unfolding IsDistinct
nearest-requires-clause-different c = ((refl, tt), (tt, tt))
