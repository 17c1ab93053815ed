-- What each call of the store promises of its key, of its result and, whatever it answers, of its lane. The calls are
-- `get`, `put` and `remove` of Javadoc `ExtensionContext.Store`; `ContextCalls` of ext_store_core says what happens in
-- the cells.
-- JUnit keeps values in maps under their keys. Here a key has a number from the first call on that names it. Numbers
-- and frames are not from JUnit.
-- Calls in a row have one frame, too (`FrameLaws`). So a caller that can't name the calls it makes can still say what
-- became of its lane.
use Rattle.std.specs.Prelude.{ℕ, ◌≡◌, ◌⊎◌, List, [], ◌∷◌, Contains, Result, Ok, Err, Some}
use Rattle.ext_tree.specs.Keys.{KeyValue, IsKeyFault, IsKeyNumber, KeepsKeys}
use Rattle.ext_tree.specs.declared.key_fault.KeyFault.{KeyFault}
use Rattle.ext_tree.specs.declared.key_fault.KeyFault.TheVariants as key_fault
use Rattle.ext_store_core.specs.declared.fault.Refusal.{Refusal}
use Rattle.ext_store_core.specs.declared.fault.Refusal.TheVariants as refusal
use Rattle.ext_store.specs.Stores.{StoreLane, StoreId, IsLaneOf, IsKeptBy, StillKeeps, StillKeepsBut, StoreView}
use Rattle.ext_model.specs.declared.event.Act.{Act}
use Rattle.ext_model.specs.History.{Limits, by}
use Rattle.ext_history.specs.Histories.{seen_by}
use Rattle.ext_model.specs.CallActs.{LaneView, Calls}
use Rattle.ext_values.specs.Known.{Known, KeepsKnown, Learns, LearnsOne}
use Rattle.ext_cells.specs.Lanes.{Lane}
use Rattle.ext_model.specs.declared.event.Act.TheVariants.{Keep}
use Rattle.ext_model.specs.declared.look.Fault.{Fault}
use Rattle.ext_model.specs.Events as events
use Rattle.ext_model.specs.CallActs as model
use Rattle.ext_store.specs.declared.fault.KeepFault.{KeepFault}
use Rattle.ext_store.specs.declared.fault.KeepFault.TheVariants as fault
pub use Rattle.ext_store_core.specs.ContextCalls.{HoldsAtPoint, IsFaultlessLook, reply_to, steps_of, result_at, with_kept, put_acts, remove_acts}
pub use Rattle.ext_store.specs.ContextCalls.{Gets, GetsAlong, IsTrail, Puts, Removes}

-- ---- the key of a call

-- The refusal of a call whose key got no number.
abbrev pub key_refusal : KeyFault → Refusal
key_refusal key_fault.DirectoryFull = refusal.DirectoryFull
key_refusal key_fault.Unplaced = refusal.Unplaced
key_refusal key_fault.Memory = refusal.Memory

-- The call is refused for its key: all places are known to hold other keys, or there was no memory for a copy. It made
-- no step on the cells.
pub record IsKeyRefused {V : Type 0} (before after : StoreLane V) (key : KeyValue) (why : Refusal) : Type 0 where
  pub fault : KeyFault
  pub why_is : why ≡ key_refusal fault
  pub refused : IsKeyFault after.keys key fault
  pub still : after.cells ≡ before.cells

-- The key has a number for the lane from now on, and `Holds` is true of it. Or the call is refused for the key, and
-- `Refuses` is true of the refusal.
abbrev pub OfKey : {V : Type 0} → StoreLane V → StoreLane V → KeyValue → (Refusal → Type 0) → (ℕ → Type 0) → Type 0
OfKey before after key Refuses Holds =
    ((number : ℕ) × IsKeyNumber after.keys key number × Holds number)
    ⊎ ((why : Refusal) × IsKeyRefused before after key why × Refuses why)

-- ---- the lane, whatever the call answers

-- The lane made exactly these events. A lane that made no call on the cells is unchanged.
abbrev pub Makes : Limits → Lane → Lane → List (Act ℕ) → Type 0
Makes limits before after acts = ((after ≡ before) × (acts ≡ [])) ⊎ Calls limits before.view after.view acts

-- What became of a lane through some calls, whose puts stored these numbers.
pub record FrameParts {V : Type 0} (id : StoreId) (stored : List ℕ) (before after : StoreLane V) : Type 0 where
  -- It is a lane of the store.
  pub lane : IsLaneOf id after
  -- It made some events, and has seen more of the one history.
  pub steps : (acts : List (Act ℕ)) × Makes id.cells.limits before.cells after.cells acts
  -- It still knows the values, faults and keys that it knew.
  pub known : KeepsKnown before.known after.known
  pub faults : KeepsKnown before.faults after.faults
  pub keys : KeepsKeys before.keys after.keys
  -- It still keeps the numbers that it kept, except those stored.
  pub kept : (number : ℕ) → ¬ Contains stored number → IsKeptBy before number → IsKeptBy after number

-- The same, folded: a proof opens it only where it needs a part.
unfoldable pub Frame : {V : Type 0} → StoreId → List ℕ → StoreLane V → StoreLane V → Type 0
Frame id stored before after = FrameParts id stored before after

-- What the lane kept before it still keeps, except the numbers stored.
abbrev pub KeepsAllBut : {V : Type 0} → List ℕ → StoreLane V → StoreLane V → Type 0
KeepsAllBut [] before after = StillKeeps before after
KeepsAllBut (stored ∷ []) before after = StillKeepsBut stored before after
KeepsAllBut (stored ∷ other ∷ more) before after = (number : ℕ) → ¬ Contains (stored ∷ other ∷ more) number
    → IsKeptBy before number → IsKeptBy after number

-- What a call leaves of its lane, whatever it answers, if it learns no value and no fault: any form of a look-up, a
-- put, a remove, the first half of a compute, or a seal. Only a put stores a number.
pub record Stays {V : Type 0} (id : StoreId) (stored : List ℕ) (before after : StoreLane V) : Type 0 where
  -- It is a lane of the store.
  pub lane : IsLaneOf id after
  -- It knows the same values and faults.
  pub known : after.known ≡ before.known
  pub faults : after.faults ≡ before.faults
  -- It still keeps the numbers that it kept, except those stored.
  pub kept : KeepsAllBut stored before after
  -- It has a frame, also together with calls before and after.
  pub frame : Frame id stored before after

-- What any form of a compute leaves of its lane, whatever it answers. The lane may know one more value or fault.
pub record Grows {V : Type 0} (id : StoreId) (before after : StoreLane V) : Type 0 where
  -- It is a lane of the store.
  pub lane : IsLaneOf id after
  -- It still knows the values that it knew.
  pub known : KeepsKnown before.known after.known
  -- It still keeps the numbers that it kept.
  pub kept : StillKeeps before after
  -- It has a frame, also together with calls before and after.
  pub frame : Frame id [] before after

-- A put that is not refused stores the kept number.
abbrev pub stored_by : {A B : Type 0} → ℕ → Result A B → List ℕ
stored_by kept (Ok stood) = kept ∷ []
stored_by kept (Err refused) = []

-- ---- keeping values and faults

-- What each fault of a keep says of the lane's steps.
unfoldable pub KeepFails : StoreView → Lane → Lane → KeepFault → Type 0
KeepFails store before after fault.Memory = after ≡ before
KeepFails store before after fault.NumbersFull =
    HoldsAtPoint before after [] (λ p. reply_to before (Keep 0) p ≡ events.Refuses events.NumbersFull)
KeepFails store before after fault.Contended = model.IsOvertaken before.cells.limits store.tries before.view after.view
KeepFails store before after fault.Unplaced = (number : ℕ)
    × HoldsAtPoint before after (Keep number ∷ []) (λ p. reply_to before (Keep number) p ≡ events.Happens (Some number))

-- The call drew the number: its event is there after the call, and was not before.
pub record Draws (before after : LaneView) (number : ℕ) : Type 0 where
  pub new : ¬ Contains (seen_by before) (by before.number (Keep number))
  pub drawn : Contains (seen_by after) (by before.number (Keep number))

-- What the lane knows of values, or of faults, if one was not kept: what it knew. If the slot of the drawn number did
-- not take it, another one stands there, which the lane now knows.
abbrev pub KnowsUnkept : {V : Type 0} → LaneView → LaneView → List (Known V) → List (Known V) → KeepFault → Type 0
KnowsUnkept before after known learnt fault.Memory = learnt ≡ known
KnowsUnkept before after known learnt fault.NumbersFull = learnt ≡ known
KnowsUnkept before after known learnt fault.Contended = learnt ≡ known
KnowsUnkept before after known learnt fault.Unplaced = (number : ℕ) × Draws before after number
    × LearnsOne known learnt number

-- The number drawn at a point of the call has the value that was handed in, and may be stored.
pub record KeepsAs {V : Type 0} (value : V) (before after : StoreLane V) (number : ℕ) : Type 0 where
  pub drawn : HoldsAtPoint before.cells after.cells (Keep number ∷ [])
      (λ p. reply_to before.cells (Keep number) p ≡ events.Happens (Some number))
  pub learnt : Learns before.known after.known number value
  pub kept : IsKeptBy after number

-- The value is handed back. The lane knows what it knew, and the value in the slot that did not take its own.
pub record KeepsNothing {V : Type 0} (store : StoreView) (value : V) (before after : StoreLane V) (back : V)
    (why : KeepFault) : Type 0 where
  pub handed_back : back ≡ value
  pub known : KnowsUnkept before.cells.view after.cells.view before.known after.known why
  pub fails : KeepFails store before.cells after.cells why

-- The number drawn at a point of the call has the fault that was handed in, and may be kept in a cell.
pub record KeepsFault {V : Type 0} (why : Fault) (before after : StoreLane V) (number : ℕ) : Type 0 where
  pub drawn : HoldsAtPoint before.cells after.cells (Keep number ∷ [])
      (λ p. reply_to before.cells (Keep number) p ≡ events.Happens (Some number))
  pub learnt : Learns before.faults after.faults number why
  pub storable : model.MayStoreNow after.cells.view number

-- The fault is handed back. The lane knows what it knew, and the fault in the slot that did not take its own.
pub record KeepsNoFault {V : Type 0} (store : StoreView) (why : Fault) (before after : StoreLane V) (back : Fault)
    (cause : KeepFault) : Type 0 where
  pub handed_back : back ≡ why
  pub faults : KnowsUnkept before.cells.view after.cells.view before.faults after.faults cause
  pub fails : KeepFails store before.cells after.cells cause
