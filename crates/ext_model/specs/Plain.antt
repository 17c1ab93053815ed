-- The store of one thread as its contracts see it: Javadoc `NamespacedHierarchicalStore` for one thread, with numbers
-- in place of values. Places are pairs of a context and a key, and there are no versions. A call that gets no memory
-- says so and changes nothing, which is not from JUnit.
use Rattle.std.specs.Prelude.{ℕ, ◌≡◌, Bool, if◌then◌else◌, List, Option, None, Some, Result, Ok, Err, unwrap_or}
use Rattle.std.specs.Ordering.{nat_cmp, ordering_then, is_eq}
use Rattle.std.specs.declared.cmp.Ordering.{Ordering}
use Rattle.std.specs.Map.{lookup as entry_at}
use Rattle.ext_model.specs.declared.event.Act.{Act}
use Rattle.ext_model.specs.declared.event.Event.{Event}
use Rattle.ext_model.specs.declared.slot.Slot.{Slot}
use Rattle.ext_model.specs.declared.plain_fault.PlainFault.{PlainFault}
use Rattle.ext_model.specs.declared.plain_fault.PlainFault.TheVariants as fault
use Rattle.ext_model.specs.State.{State}
use Rattle.ext_model.specs.Events.{NumbersFull, Busy, Closed, Standing, FaultStanding, Exhausted, Barred, Reply, Happens, Answers, Refuses, reply, apply}

-- A context and a key.
abbrev pub Place : Type 0
Place = ℕ × ℕ

-- Ordered by context, then by key.
abbrev pub place_cmp : Place → Place → Ordering
place_cmp p q = ordering_then (nat_cmp p.0 q.0) (nat_cmp p.1 q.1)

abbrev pub same_place : Place → Place → Bool
same_place p q = is_eq (place_cmp p q)

-- A plain store: what stands where, in the order of the places, how many numbers are drawn, and how many there are.
-- Clauses speak of the entries only through `state_of`.
pub record Plain : Type 0 where
  pub entries : List (Place × Slot)
  pub drawn : ℕ
  pub numbers : ℕ

abbrev pub state_of : Plain → State Place
state_of plain = record {
  slots = λ place. entry_at (same_place place) plain.entries;
  drawn = plain.drawn;
}

-- What stands in each context under a key.
abbrev pub under : State Place → ℕ → ℕ → Option Slot
under s key context = s.slots (context, key)

-- The state with only this place changed.
abbrev pub with_slot : State Place → Place → Option Slot → State Place
with_slot s at slot = record {
  slots = λ place. if same_place at place then slot else s.slots place;
  drawn = s.drawn;
}

-- ---- the acts of a lane

-- A keep, a put, a remove and a seal are the same for every lane.
abbrev pub any_lane : ℕ
any_lane = 0

-- There are no versions that could run out.
abbrev pub plain_reply : ℕ → State Place → ℕ → Act Place → Reply
plain_reply numbers s lane act = reply numbers (λ place. 0) s lane act

abbrev pub state_by : Reply → State Place → Event Place → State Place
state_by (Happens answer) s e = apply same_place s e
state_by (Answers answer) s e = s
state_by (Refuses refusal) s e = s

-- The state after an act of the lane. If the act is no event, nothing changes.
abbrev pub next_state : ℕ → State Place → ℕ → Act Place → State Place
next_state numbers s lane act = state_by (plain_reply numbers s lane act) s (record { lane = lane; act = act })

-- The new store is the old one after the act.
abbrev pub IsStep : ℕ → Act Place → Plain → Plain → Type 0
IsStep lane act old new = state_of new ≡ next_state old.numbers (state_of old) lane act

-- ---- the results of calls

-- The result of a call with this reply; `value` converts what the reply answers. The last two replies never come: there
-- are no versions, and only the lane of a claim may call `fill`, `fail` and `abandon`.
abbrev pub result_of : {A : Type 0} → (Option ℕ → A) → Reply → Option (Result A PlainFault)
result_of value (Happens answer) = Some (Ok (value answer))
result_of value (Answers answer) = Some (Ok (value answer))
result_of value (Refuses NumbersFull) = Some (Err fault.NumbersFull)
result_of value (Refuses Busy) = Some (Err fault.Busy)
result_of value (Refuses Closed) = Some (Err fault.Closed)
result_of value (Refuses (Standing number)) = Some (Err (fault.Taken number))
result_of value (Refuses (FaultStanding number)) = Some (Err (fault.FaultStands number))
result_of value (Refuses Exhausted) = None
result_of value (Refuses Barred) = None

-- The result is the old store's reply to the act.
abbrev pub IsReply : {A : Type 0} → (Option ℕ → A) → ℕ → Act Place → Plain → Result A PlainFault → Type 0
IsReply value lane act old result = result_of value (plain_reply old.numbers (state_of old) lane act) ≡ Some result

-- A keep answers the number drawn.
abbrev pub number_drawn : Option ℕ → ℕ
number_drawn answer = unwrap_or answer 0

-- A put, a remove and a seal answer the number that stood there, if any.
abbrev pub what_stood : Option ℕ → Option ℕ
what_stood answer = answer

-- A claim, a fill and a fail answer nothing.
abbrev pub done : Option ℕ → Unit {0}
done answer = tt

-- The fact holds, unless the call got no memory.
abbrev pub UnlessMemory : {A : Type 0} → Result A PlainFault → Type 0 → Type 0
UnlessMemory (Ok value) Fact = Fact
UnlessMemory (Err fault.Busy) Fact = Fact
UnlessMemory (Err fault.Closed) Fact = Fact
UnlessMemory (Err (fault.Taken number)) Fact = Fact
UnlessMemory (Err (fault.FaultStands number)) Fact = Fact
UnlessMemory (Err fault.NumbersFull) Fact = Fact
UnlessMemory (Err fault.Memory) Fact = Unit {0}
