use Rattle.std.proofs.Common.{◌≡◌, ℕ, ◌<◌, ◌≤◌, false, get_or, take, length, vec_len, vec_capacity}
use Rattle.std.specs.Slots.{slots_items, slots_filled, slots_len}
use Rattle.std.specs.Slots.Ownership.{Filled}
use Rattle.ext_crew.specs.InnerCounter.{outcomes_in}
use Rattle.ext_crew.proofs.jobs.counter.take_outcomes.Given as goal

abbrev pub invariant-loop-slot : goal.invariant-loop-slot
invariant-loop-slot g l = record {
  same_length : slots_len l.closed.slots ≡ slots_len l.initial.closed.slots;
  same_slots : slots_items l.closed.slots ≡ slots_items l.initial.closed.slots;
  still_there : Filled (slots_filled l.closed.slots) l.slot (slots_len l.closed.slots);
  taken : (k : ℕ) → k < l.slot → get_or (slots_filled l.closed.slots) k false ≡ false;
  few : vec_len l.outcomes ≤ l.slot;
  room : length (slots_items l.initial.closed.slots) ≤ vec_capacity l.outcomes;
  outcomes : l.outcomes.items ≡ outcomes_in (take l.slot (slots_items l.initial.closed.slots));
}
