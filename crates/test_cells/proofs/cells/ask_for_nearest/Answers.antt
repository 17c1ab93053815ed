use Rattle.std.proofs.Common.{refl}
use Rattle.std.specs.List.{IsDistinct}
use Rattle.test_cells.proofs.cells.ask_for_nearest.Goals as goal

pub nearest-requires-clause-different : goal.nearest-requires-clause-different
unfolding IsDistinct
nearest-requires-clause-different g c = ((refl, (refl, tt)), ((refl, tt), (tt, tt)))

pub nearest-requires-2-clause-different : goal.nearest-requires-2-clause-different
unfolding IsDistinct
nearest-requires-2-clause-different g c = ((refl, (refl, (refl, tt))), ((refl, (refl, tt)), ((refl, tt), (tt, tt))))

pub nearest-requires-3-clause-different : goal.nearest-requires-3-clause-different
unfolding IsDistinct
nearest-requires-3-clause-different g c = ((refl, (refl, tt)), ((refl, tt), (tt, tt)))

pub nearest-requires-4-clause-different : goal.nearest-requires-4-clause-different
unfolding IsDistinct
nearest-requires-4-clause-different g c = ((refl, (refl, (refl, tt))), ((refl, (refl, tt)), ((refl, tt), (tt, tt))))

pub nearest-requires-5-clause-different : goal.nearest-requires-5-clause-different
unfolding IsDistinct
nearest-requires-5-clause-different g c = ((refl, (refl, tt)), ((refl, tt), (tt, tt)))

pub nearest-requires-6-clause-different : goal.nearest-requires-6-clause-different
unfolding IsDistinct
nearest-requires-6-clause-different g c = ((refl, (refl, tt)), ((refl, tt), (tt, tt)))
