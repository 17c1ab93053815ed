-- What an opening promises of its slots, and what a leave promises. `before` and `after` are the slots, or the slot.
use Rattle.std.specs.Prelude.{ℕ, ◌≡◌, ◌≢◌, ◌*◌, ◌++◌, All, List, [], ◌∷◌, length, map, Option, None, Some}
use Rattle.std.specs.Global.{Box}
use Rattle.std.specs.List.{AllZip}
use Rattle.ext_ids.specs.Grammar.{IsIdText}
use Rattle.ext_model.specs.Sizes.{most_contexts}
use Rattle.ext_tree.specs.Trees.{Id, IsTreeWithin}
use Rattle.ext_cells.specs.Lanes.{fresh_lanes}
use Rattle.ext_store.specs.declared.limits.Limits.{Limits}
use Rattle.ext_store.specs.Opening.{fault_count, places_for}
use Rattle.ext_store.specs.Stores.{CloserView, StoreLane, StoreView, closers_below, fresh_store_lane}
use Rattle.ext_c.specs.declared.code.Code.{Code}
use Rattle.ext_c.specs.declared.code.Code.TheVariants as code
use Rattle.ext_c.specs.declared.handle.Handle.{Handle}
use Rattle.ext_c.specs.declared.seat.Seat.{Seat}
use Rattle.ext_c.specs.declared.slot.ExtSlot.{ExtSlot}
use Rattle.ext_c.specs.Answers.{store_of}
use Rattle.ext_c.specs.Limits.{AreInRange}
use Rattle.ext_c.specs.Texts.{AreTexts, NamesNoTree, texts_in}

-- No slot has a lane.
abbrev pub AreEmpty : List ExtSlot → Type 0
AreEmpty slots = All (λ (s : ExtSlot). s.state ≡ 0) slots

-- The store has these ids and limits, and places for so many keys.
pub record IsStoreOf (ids : List Id) (given : Limits) (store : StoreView) : Type 0 where
  pub within : AreInRange given
  pub tree : store.tree ≡ ids
  pub limits : store.id.cells.limits
      ≡ record {
        cells = length ids * places_for given.keys;
        lanes = given.lanes;
        numbers = given.numbers;
        keep_faults = given.keep_faults;
      }
  pub tries : store.tries ≡ given.tries
  pub keys : length store.id.keys ≡ places_for given.keys
  pub slots : length store.id.slots ≡ given.numbers
  pub fault_slots : length store.id.fault_slots ≡ fault_count given.keep_faults given.numbers

-- The store's first lanes, in order, which have made no step and know nothing.
abbrev pub lanes_below : StoreView → ℕ → List (StoreLane Handle)
lanes_below store lanes =
    map (fresh_store_lane store.id.slots store.id.fault_slots store.id.keys) (fresh_lanes store.id.cells 0 lanes)

-- A closer for each context, in order.
abbrev pub all_closers : StoreView → List (Option CloserView)
all_closers store = map Some (closers_below store.id.cells (length store.tree))

-- The seat is of this store and this lane, has these closers, and no claim.
pub record IsSeatOf (store : StoreView) (closers : List (Option CloserView)) (lane : StoreLane Handle) (seat : Seat)
    : Type 0 where
  pub store_is : store_of seat ≡ store
  pub lane_is : seat.lane ≡ lane
  pub closers_are : seat.closers.items ≡ closers
  pub unclaimed : seat.claim ≡ None

-- The slot has such a seat.
pub record HasSeatOf (store : StoreView) (closers : List (Option CloserView)) (lane : StoreLane Handle) (slot : ExtSlot)
    : Type 0 where
  pub filled : slot.state ≡ 1
  pub seat : Seat
  pub has : slot.lane.seat ≡ Some seat
  pub is : IsSeatOf store closers lane seat

-- Each slot has one of these lanes of the store, in order. The last has the closers of all contexts, and the others
-- have none.
pub record HaveLanes (store : StoreView) (lanes : List (StoreLane Handle)) (slots : List ExtSlot) : Type 0 where
  pub other_lanes : List (StoreLane Handle)
  pub last_lane : StoreLane Handle
  pub all_lanes : lanes ≡ other_lanes ++ last_lane ∷ []
  pub other_slots : List ExtSlot
  pub last_slot : ExtSlot
  pub all_slots : slots ≡ other_slots ++ last_slot ∷ []
  pub others : AllZip (HasSeatOf store []) other_lanes other_slots
  pub last : HasSeatOf store (all_closers store) last_lane last_slot

-- ---- within the crate: the seats before they are put into the slots

-- The slot has this seat.
pub record IsIn (seat : Box Seat) (slot : ExtSlot) : Type 0 where
  pub filled : slot.state ≡ 1
  pub has : slot.lane.seat ≡ Some seat.value

-- There is a seat for each lane, in order. The last has these closers, and the others have none.
pub record AreSeats (store : StoreView) (lanes : List (StoreLane Handle)) (closers : List CloserView)
    (seats : List (Box Seat)) : Type 0 where
  pub other_lanes : List (StoreLane Handle)
  pub last_lane : StoreLane Handle
  pub all_lanes : lanes ≡ other_lanes ++ last_lane ∷ []
  pub other_seats : List (Box Seat)
  pub last_seat : Box Seat
  pub all_seats : seats ≡ other_seats ++ last_seat ∷ []
  pub others : AllZip (λ lane seat. IsSeatOf store [] lane seat.value) other_lanes other_seats
  pub last : IsSeatOf store (map Some closers) last_lane last_seat.value

-- The seats of a store with these ids and limits.
pub record AreOpened (ids : List Id) (limits : Limits) (seats : List (Box Seat)) : Type 0 where
  pub store : StoreView
  pub is : IsStoreOf ids limits store
  pub seats_are : AreSeats store (lanes_below store limits.lanes) (closers_below store.id.cells (length store.tree)) seats

-- ---- what the exports promise

-- The opening is refused, and nothing has changed, if a slot has a lane; otherwise if a limit is out of its range;
-- otherwise if the texts name no tree of this size, or if all are texts but memory was refused. If it is not refused,
-- there is a store with these ids and limits, and the slots have its lanes.
pub data OpenSays (bytes lengths : List ℕ) (limits : Limits) (before after : List ExtSlot) (said : Code) : Type 0 where
  not_empty : ¬ AreEmpty before → after ≡ before → said ≡ code.NotEmpty
      → OpenSays bytes lengths limits before after said
  bad_limit : AreEmpty before → ¬ AreInRange limits → after ≡ before → said ≡ code.BadLimit
      → OpenSays bytes lengths limits before after said
  no_tree : AreEmpty before → AreInRange limits → NamesNoTree (most_contexts limits.size) bytes lengths said
      → after ≡ before → OpenSays bytes lengths limits before after said
  no_memory : AreEmpty before → AreInRange limits → AreTexts bytes lengths → after ≡ before → said ≡ code.NoMemory
      → OpenSays bytes lengths limits before after said
  opened : AreEmpty before → AreTexts bytes lengths → (ids : List Id) → AllZip IsIdText (texts_in bytes lengths) ids
      → IsTreeWithin (most_contexts limits.size) ids
      → (store : StoreView) → IsStoreOf ids limits store
      → HaveLanes store (lanes_below store limits.lanes) after
      → said ≡ code.Done → OpenSays bytes lengths limits before after said

-- The slot had no lane and is unchanged; or it had one and is now empty.
pub data LeaveSays (before after : ExtSlot) (said : Code) : Type 0 where
  no_lane : before.state ≢ 1 → after ≡ before → said ≡ code.NoLane → LeaveSays before after said
  left : (seat : Seat) → before.lane.seat ≡ Some seat → after.state ≡ 0 → after.lane.seat ≡ None → said ≡ code.Done
      → LeaveSays before after said
