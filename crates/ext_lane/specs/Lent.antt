-- What stays the same of a lane that is lent with its store (an own rule), whatever is called by it.
use Rattle.std.specs.Prelude.{◌≡◌}
use Rattle.ext_lane.specs.declared.lent.LentLane.{LentLane}

-- It is the same lane, lent with the same store. So what was lent is what comes back.
abbrev pub IsSame : {V : Type 0} → LentLane V → LentLane V → Type 0
IsSame before after = (after.store ≡ before.store) × (after.lane.ghost_name ≡ before.lane.ghost_name)
