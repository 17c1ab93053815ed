use Rattle.std.specs.Vec.Iter.{into_iter_items}
use Rattle.ext_c.proofs.Opened.{Given}
use Rattle.ext_c.proofs.filling.take_seats.Given as goal

abbrev pub invariant-loop-slot : goal.invariant-loop-slot
invariant-loop-slot l = Given l.fn.seats.items (into_iter_items l.rest) l.slots l.slot-index
