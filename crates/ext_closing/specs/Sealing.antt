-- How a context is sealed, by one lane: each block of its keys at one step as far as nobody used them, and then those
-- that are left, in order. `SealsUnused` and `SealsKey` of ext_store say what these calls do.
use Rattle.std.specs.Prelude.{ℕ, zero, suc, ◌≡◌, ◌<◌, ◌≤◌, ◌+◌, ◌*◌, ◌⊎◌, nat_eq, List, length, Contains, Option, None, Some, Result, Ok, Err}
use Rattle.std.specs.Int.{bit_at}
use Rattle.std.specs.List.{IsDistinct}
use Rattle.ext_model.specs.declared.event.Act.TheVariants.{Seal}
use Rattle.ext_model.specs.declared.slot.Slot.{Slot}
use Rattle.ext_model.specs.declared.slot.Slot.TheVariants as slot
use Rattle.ext_model.specs.History.{slots_in}
use Rattle.ext_history.specs.Histories.{seen_by}
use Rattle.ext_model.specs.CallActs.{Calls}
use Rattle.ext_model.specs.Closing.{IsClosed, IsSealedUnused, remaining}
use Rattle.ext_cells.specs.Lanes.{Lane}
use Rattle.ext_cells.specs.CellCalls.{IsOvertakenAt}
use Rattle.ext_store.specs.Stores.{StoreView, cell_in}
use Rattle.ext_store_core.specs.declared.fault.Refusal.{Refusal}
use Rattle.ext_store.specs.ContextCalls.{IsBusyThere, IsInTheWay, SealsKey, SealsUnused, seals_of}
use Rattle.ext_store.specs.LaneCalls.{steps_of}
use Rattle.ext_closing.specs.declared.fault.CloseFault.{CloseFault}
use Rattle.ext_closing.specs.declared.fault.CloseFault.TheVariants.{Busy, Contended, Unjoined}

-- ---- what stands there

-- What stands in the context under each key, by what the lane has seen.
abbrev pub slots_seen : StoreView → ℕ → Lane → ℕ → Option Slot
slots_seen store context lane = slots_in (λ key. cell_in store key context) (seen_by lane.view)

-- The first `keys` keys are sealed there.
abbrev pub AreSealed : StoreView → ℕ → ℕ → Lane → Type 0
AreSealed store context keys lane = IsClosed (slots_seen store context lane) keys

-- The key's place in the context has had one event, a seal that kept nothing: nobody used it.
abbrev pub IsUnused : StoreView → ℕ → Lane → ℕ → Type 0
IsUnused store context lane key = IsSealedUnused (seen_by lane.view) (cell_in store key context)

-- The numbers that the seals of all keys keep, greatest first.
abbrev pub numbers_left : StoreView → ℕ → Lane → List ℕ
numbers_left store context lane = remaining (slots_seen store context lane) (length store.id.keys)

-- ---- what the lane did

-- The lane's events are seals of keys of the context, each key once: those that it sealed itself.
pub record MakesSeals (store : StoreView) (context : ℕ) (before after : Lane) : Type 0 where
  pub sealed : List ℕ
  pub once : IsDistinct nat_eq sealed
  pub keys : (key : ℕ) → Contains sealed key → key < length store.id.keys
  pub calls : Calls before.cells.limits before.view after.view (seals_of store context sealed)

-- ---- in which order, and at what cost

-- The key is sealed by a call of its own, or this call is refused.
abbrev pub SealsAlone : StoreView → ℕ → ℕ → Lane → Lane → Type 0
SealsAlone store context key before after = (result : Result (Option ℕ) Refusal)
    × SealsKey store context key before after result × (steps_of before after ≤ store.tries + 1)

-- What the lane does for a key after the step of its block: where the answer marks it, a call of its own, which is
-- counted; otherwise nothing.
abbrev pub SealsIfMarked : StoreView → ℕ → ℕ → ℕ → ℕ → ℕ → Lane → Lane → Type 0
SealsIfMarked store context key mark earlier alone before after =
    ((mark ≡ 0) × (alone ≡ earlier) × (after ≡ before))
    ⊎ ((mark ≡ 1) × (alone ≡ earlier + 1) × SealsAlone store context key before after)

-- So it does for the first places of a block, in order, by these marks. So many keys got a call of their own.
abbrev pub SealsMarked : StoreView → ℕ → ℕ → ℕ → ℕ → ℕ → Lane → Lane → Type 0
SealsMarked store context block marks zero alone before after = (alone ≡ 0) × (after ≡ before)
SealsMarked store context block marks (suc place) alone before after = (between : Lane) × (earlier : ℕ)
    × SealsMarked store context block marks place earlier before between
    × SealsIfMarked store context (block * 32 + place) (bit_at marks place) earlier alone between after

-- One block: at one step all its keys are sealed that the answer does not mark, and then those that it marks, or the
-- first of them.
pub record SealsBlock (store : StoreView) (context block alone : ℕ) (before after : Lane) : Type 0 where
  pub marks : ℕ
  pub between : Lane
  pub unused : SealsUnused store context block marks before between
  pub step : steps_of before between ≡ 1
  pub places : ℕ
  pub few : places ≤ 32
  pub marked : SealsMarked store context block marks places alone between after

-- The first blocks in order.
abbrev pub SealsBlocks : StoreView → ℕ → ℕ → ℕ → Lane → Lane → Type 0
SealsBlocks store context zero alone before after = (alone ≡ 0) × (after ≡ before)
SealsBlocks store context (suc block) alone before after = (between : Lane) × (earlier more : ℕ)
    × SealsBlocks store context block earlier before between
    × SealsBlock store context block more between after × (alone ≡ earlier + more)

-- The lane went over the first blocks of the context in order and did nothing else. It made a step for each, and a call
-- for each key that such a step's answer marked.
pub record SealsInOrder (store : StoreView) (context : ℕ) (before after : Lane) : Type 0 where
  pub blocks : ℕ
  pub within : blocks * 32 ≤ length store.id.keys
  pub alone : ℕ
  pub sealed : SealsBlocks store context blocks alone before after
  pub steps : steps_of before after ≤ blocks + alone * (store.tries + 1)

-- ---- how far it came

-- How many keys were sealed, by the fault of the close, if it had one. Beyond them only keys are sealed that nobody
-- used.
abbrev pub keys_sealed : StoreView → Option CloseFault → ℕ
keys_sealed store None = length store.id.keys
keys_sealed store (Some (Busy key)) = key
keys_sealed store (Some (Contended key)) = key
keys_sealed store (Some (Unjoined number)) = length store.id.keys

-- Other lanes were in the way of the key's seal. The seal would happen directly after what the lane has seen, and at
-- least `tries` events on this very cell were in its way.
pub record SealOvertaken (store : StoreView) (context key : ℕ) (before after : Lane) : Type 0 where
  pub in_the_way : IsInTheWay store before after
  pub last : IsOvertakenAt store.tries before after (Seal (cell_in store key context))

-- The keys before this one were sealed, and of the others only some that nobody used. Then its own seal was refused.
pub record StopsAt (store : StoreView) (context key : ℕ) (IsRefused : Lane → Lane → Type 0) (before after : Lane)
    : Type 0 where
  pub key_is : key < length store.id.keys
  pub between : Lane
  pub made : MakesSeals store context before between
  pub sealed : AreSealed store context key between
  pub beyond : (other : ℕ) → Contains made.sealed other → key ≤ other → IsUnused store context between other
  pub refused : IsRefused between after

-- A seal is refused because a lane was computing a value for the context, or because other lanes were in the way.
abbrev pub StopsBy : StoreView → ℕ → Lane → Lane → Option CloseFault → Type 0
StopsBy store context before after None = Unit {0}
StopsBy store context before after (Some (Busy key)) =
    StopsAt store context key (IsBusyThere store context key) before after
StopsBy store context before after (Some (Contended key)) =
    StopsAt store context key (SealOvertaken store context key) before after
StopsBy store context before after (Some (Unjoined number)) = Unit {0}

abbrev pub fault_of : {A : Type 0} → Result A CloseFault → Option CloseFault
fault_of (Ok value) = None
fault_of (Err why) = Some why

-- The fault of a result that hands something back beside it.
abbrev pub fault_beside : {A B : Type 0} → Result A (B × CloseFault) → Option CloseFault
fault_beside (Ok value) = None
fault_beside (Err e) = Some e.1
