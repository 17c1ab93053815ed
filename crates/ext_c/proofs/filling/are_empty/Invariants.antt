use Rattle.std.proofs.Common.{◌≡◌, ℕ, ◌<◌, get_or}
use Rattle.ext_c.specs.declared.slot.ExtSlot.{ExtSlot}
use Rattle.ext_c.proofs.filling.are_empty.Given as goal

abbrev pub invariant-loop-slot : goal.invariant-loop-slot
invariant-loop-slot l = (k : ℕ) → k < l.slot-index → (d : ExtSlot) → (get_or l.slots k d).state ≡ 0
