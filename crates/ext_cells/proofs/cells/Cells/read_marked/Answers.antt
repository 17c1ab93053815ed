use Rattle.ext_cells.proofs.Lanes.{steps_stay}
use Rattle.ext_cells.proofs.cells.Cells.read_marked.Goals as goal

pub invariant_of-lane : goal.invariant_of-lane
invariant_of-lane c = let f = c.read_at.ensures.found in steps_stay c.lane.inside.seat.me.0 _ f.0 _ c.lane.invariant f.1.legal f.1.begins f.2
