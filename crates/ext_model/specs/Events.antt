-- What one thread answers to each act of a lane, and the state that an event leaves.
-- As in JUnit, put and remove touch the given context alone and answer what stood there, and a computed value is stored
-- in the given context (User Guide, "Keeping State in Extensions"; Javadoc `ExtensionContext.Store`, `put`, `remove`
-- and `getOrComputeIfAbsent`, and `NamespacedHierarchicalStore`). Not from JUnit: numbers drawn beforehand, claims held
-- while a factory runs, kept faults, seals, and the refusals below.
use Rattle.std.specs.Prelude.{ℕ, ◌+◌, ◌-◌, ◌^◌, ◌==◌, nat_lt, Bool, true, false, if◌then◌else◌, Option, None, Some}
use Rattle.ext_model.specs.declared.event.Act.{Act}
use Rattle.ext_model.specs.declared.event.Act.TheVariants.{Keep, Put, Remove, Claim, Fill, Fail, Abandon, Seal}
use Rattle.ext_model.specs.declared.event.Event.{Event}
use Rattle.ext_model.specs.declared.slot.Slot.{Slot}
use Rattle.ext_model.specs.declared.slot.Slot.TheVariants as slot
use Rattle.ext_model.specs.State.{State, standing_value}

-- ---- what an act answers

-- Why an act is refused.
pub data Refusal : Type 0 where
  -- The store has no number left to draw.
  NumbersFull : Refusal
  -- A claim stands at the place.
  Busy : Refusal
  -- The place is sealed.
  Closed : Refusal
  -- A claim found a value with this number.
  Standing : ℕ → Refusal
  -- A claim found a kept fault with this number.
  FaultStanding : ℕ → Refusal
  -- The place has had too many events: its version is near 2 ^ 40.
  Exhausted : Refusal
  -- The lane has no claim at the place, and so cannot end one.
  Barred : Refusal

-- `Happens`: the act is an event. `Answers`: it is answered without an event. Either may carry a number. `Refuses`:
-- there is no event.
pub data Reply : Type 0 where
  Happens : Option ℕ → Reply
  Answers : Option ℕ → Reply
  Refuses : Refusal → Reply

abbrev pub happens_unless : Bool → Option ℕ → Reply
happens_unless true answer = Refuses Exhausted
happens_unless false answer = Happens answer

-- A keep answers the number that it draws, which is the new count.
abbrev pub keep_reply : ℕ → ℕ → Reply
keep_reply numbers drawn = if nat_lt drawn numbers then Happens (Some (drawn + 1)) else Refuses NumbersFull

-- A put answers the number of the value or fault that it replaces.
abbrev pub put_reply : Bool → Option Slot → Reply
put_reply worn None = happens_unless worn None
put_reply worn (Some (slot.Entry number)) = happens_unless worn (Some number)
put_reply worn (Some (slot.Fault number)) = happens_unless worn (Some number)
put_reply worn (Some (slot.Claim lane)) = Refuses Busy
put_reply worn (Some (slot.Sealed kept)) = Refuses Closed

-- A remove answers the number that it takes away. If nothing stands there it is no event.
abbrev pub remove_reply : Bool → Option Slot → Reply
remove_reply worn None = Answers None
remove_reply worn (Some (slot.Entry number)) = happens_unless worn (Some number)
remove_reply worn (Some (slot.Fault number)) = happens_unless worn (Some number)
remove_reply worn (Some (slot.Claim lane)) = Refuses Busy
remove_reply worn (Some (slot.Sealed kept)) = Refuses Closed

-- A claim needs an empty place.
abbrev pub claim_reply : Bool → Option Slot → Reply
claim_reply worn None = happens_unless worn None
claim_reply worn (Some (slot.Entry number)) = Refuses (Standing number)
claim_reply worn (Some (slot.Fault number)) = Refuses (FaultStanding number)
claim_reply worn (Some (slot.Claim lane)) = Refuses Busy
claim_reply worn (Some (slot.Sealed kept)) = Refuses Closed

-- Only the lane that holds the claim may end it, by a fill, a fail or an abandon.
abbrev pub end_reply : ℕ → Option Slot → Reply
end_reply lane None = Refuses Barred
end_reply lane (Some (slot.Entry number)) = Refuses Barred
end_reply lane (Some (slot.Fault number)) = Refuses Barred
end_reply lane (Some (slot.Claim by)) = if by == lane then Happens None else Refuses Barred
end_reply lane (Some (slot.Sealed kept)) = Refuses Barred

-- A seal answers the number that it keeps, never that of a fault. Sealing a sealed place is no event.
abbrev pub seal_reply : Option Slot → Reply
seal_reply None = Happens None
seal_reply (Some (slot.Entry number)) = Happens (Some number)
seal_reply (Some (slot.Fault number)) = Happens None
seal_reply (Some (slot.Claim lane)) = Refuses Busy
seal_reply (Some (slot.Sealed kept)) = Answers kept

-- Versions count the events of a place and are below 2 ^ 40. A put or a remove must leave one for the seal.
abbrev pub is_worn : ℕ → Bool
is_worn version = nat_lt (2 ^ 40 - 3) version

-- A claim must leave two: one for the act that ends it and one for the seal.
abbrev pub is_worn_for_claim : ℕ → Bool
is_worn_for_claim version = nat_lt (2 ^ 40 - 4) version

-- What one thread answers to an act of a lane. `numbers` is how many numbers the store has, and `version` how many
-- events each place has had. The number in a keep is ignored: the reply says which number is drawn.
module _ {P : Type 0} (numbers : ℕ) (version : P → ℕ) (s : State P) (lane : ℕ) where
  abbrev pub reply : Act P → Reply
  reply (Keep number) = keep_reply numbers s.drawn
  reply (Put at number) = put_reply (is_worn (version at)) (s.slots at)
  reply (Remove at) = remove_reply (is_worn (version at)) (s.slots at)
  reply (Claim at) = claim_reply (is_worn_for_claim (version at)) (s.slots at)
  reply (Fill at number) = end_reply lane (s.slots at)
  reply (Fail at number) = end_reply lane (s.slots at)
  reply (Abandon at) = end_reply lane (s.slots at)
  reply (Seal at) = seal_reply (s.slots at)

-- ---- what an event leaves

-- The place on which an act works; a keep has none.
abbrev pub place_of : {P : Type 0} → Act P → Option P
place_of (Keep number) = None
place_of (Put at number) = Some at
place_of (Remove at) = Some at
place_of (Claim at) = Some at
place_of (Fill at number) = Some at
place_of (Fail at number) = Some at
place_of (Abandon at) = Some at
place_of (Seal at) = Some at

-- What stands at the act's place after it.
abbrev pub slot_after : {P : Type 0} → ℕ → Act P → Option Slot → Option Slot
slot_after lane (Keep number) old = old
slot_after lane (Put at number) old = Some (slot.Entry number)
slot_after lane (Remove at) old = None
slot_after lane (Claim at) old = Some (slot.Claim lane)
slot_after lane (Fill at number) old = Some (slot.Entry number)
slot_after lane (Fail at number) old = Some (slot.Fault number)
slot_after lane (Abandon at) old = None
slot_after lane (Seal at) old = Some (slot.Sealed (standing_value old))

-- How many numbers are drawn after the act.
abbrev pub drawn_after : {P : Type 0} → Act P → ℕ → ℕ
drawn_after (Keep number) drawn = drawn + 1
drawn_after (Put at number) drawn = drawn
drawn_after (Remove at) drawn = drawn
drawn_after (Claim at) drawn = drawn
drawn_after (Fill at number) drawn = drawn
drawn_after (Fail at number) drawn = drawn
drawn_after (Abandon at) drawn = drawn
drawn_after (Seal at) drawn = drawn

-- `same` says whether two places are equal.
module _ {P : Type 0} (same : P → P → Bool) where
  abbrev pub is_at : P → Option P → Bool
  is_at place None = false
  is_at place (Some at) = same at place

  abbrev pub is_on : P → Act P → Bool
  is_on place act = is_at place (place_of act)

  -- The state after an event. Only its place and the count change.
  abbrev pub apply : State P → Event P → State P
  apply s e = record {
    slots = λ place. if is_on place e.act then slot_after e.lane e.act (s.slots place) else s.slots place;
    drawn = drawn_after e.act s.drawn;
  }
