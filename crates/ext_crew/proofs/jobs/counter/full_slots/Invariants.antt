use Rattle.std.proofs.Common.{◌≡◌, ◌+◌, ◌≤◌, ◌++◌, map, vec_len, vec_capacity}
use Rattle.std.specs.VecDeque.{deque_len}
use Rattle.ext_crew.specs.declared.jobs.slot.Slot.TheVariants as slot
use Rattle.ext_crew.proofs.jobs.counter.full_slots.Given as goal

abbrev pub invariant-loop-item : goal.invariant-loop-item
invariant-loop-item g l =
    (goal.iterator-loop-item g).can_next l.item-iterator
    × (goal.iterator-loop-item g).is_finite l.item-iterator
    × (vec_len l.slots + deque_len l.item-iterator.rest ≤ vec_capacity l.slots)
    × (l.slots.items ++ map slot.Item l.item-iterator.rest.items ≡ map slot.Item l.fn.items.items)
