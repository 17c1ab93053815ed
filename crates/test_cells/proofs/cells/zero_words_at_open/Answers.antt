use Rattle.std.proofs.Common.{refl}
use Rattle.std.specs.List.{IsDistinct}
use Rattle.test_cells.proofs.cells.zero_words_at_open.Goals as goal

pub collect-requires-clause-different : goal.collect-requires-clause-different
unfolding IsDistinct
collect-requires-clause-different g c = ((refl, (refl, tt)), ((refl, tt), (tt, tt)))

pub collect-requires-2-clause-different : goal.collect-requires-2-clause-different
unfolding IsDistinct
collect-requires-2-clause-different g c = tt
