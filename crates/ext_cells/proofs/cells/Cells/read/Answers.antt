use Rattle.ext_cells.proofs.Lanes.{stays_lane, steps_stay}
use Rattle.ext_cells.proofs.cells.Cells.read.Goals as goal

-- ---- a cell

pub invariant_of-lane : goal.invariant_of-lane
invariant_of-lane c = let f = c.read.ensures.found in steps_stay c.lane.inside.seat.me.0 _ f.0 _ c.lane.invariant f.1.legal f.1.begins f.2

-- ---- the count

pub invariant_of-lane-2 : goal.invariant_of-lane-2
invariant_of-lane-2 c = let f = c.load_count.ensures.found in stays_lane c.lane.inside.seat.me.0 _ f.0 _ c.lane.invariant f.1.legal f.1.begins f.2
