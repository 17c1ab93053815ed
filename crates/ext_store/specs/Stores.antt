-- What contracts see of a store, of its lanes and closers, and of kept numbers. Contracts see a lane as its lane of the
-- cells, in the words of `CallActs` of ext_model, and as what it knows of values, faults and keys.
use Rattle.std.specs.Prelude.{ℕ, zero, suc, ◌≡◌, ◌≢◌, ◌<◌, ◌≤◌, IsTrue, IsFalse, List, [], ◌∷◌, ◌++◌, length, Some}
use Rattle.ext_model.specs.declared.look.Fault.{Fault}
use Rattle.ext_model.specs.CallActs.{MayStoreNow}
use Rattle.ext_model.specs.declared.size.Size.{Size}
use Rattle.ext_tree.specs.Keys as keys
use Rattle.ext_values.specs.Known.{Known, AreNotesOf, known_at, nothing_known}
use Rattle.ext_cells.specs.Lanes.{CellsId, Lane, AreLimits}
use Rattle.ext_tree.specs.Trees.{Id}
use Rattle.ext_model.specs.History.{Limits}
use Rattle.ext_store_core.specs.ContextCalls as cells
use Rattle.ext_store_core.specs.ContextCalls.{ContextCells}

-- The identity of a store: its cells, and the names of the slots of its values and of its kept faults and of the places of its
-- keys, each in the order of their numbers.
pub record StoreId : Type 0 where
  pub cells : CellsId
  pub slots : List ℕ
  pub fault_slots : List ℕ
  pub keys : List ℕ

-- A store: its identity, the ids of its contexts, and how many exchanges a call makes at most.
pub record StoreView : Type 0 where
  pub id : StoreId
  pub tree : List Id
  pub tries : ℕ

-- What ext_store_core sees of a store: all but its values and kept faults.
abbrev pub context_cells : StoreView → ContextCells
context_cells store = record { cells = store.id.cells; keys = store.id.keys; tree = store.tree; tries = store.tries }

-- The cell of a context and a place of a key, by their numbers.
abbrev pub cell_in : StoreView → ℕ → ℕ → ℕ
cell_in store key context = cells.cell_in (context_cells store) key context

-- There is a slot for each number's value. A store that keeps faults has one for each number's fault, too.
pub record HasSlots (limits : Limits) (slots fault_slots : List ℕ) : Type 0 where
  pub numbers : limits.numbers ≡ length slots
  pub faults : IsTrue limits.keep_faults → limits.numbers ≡ length fault_slots
  pub no_faults : IsFalse limits.keep_faults → fault_slots ≡ []

-- A lane: its steps on the cells, what it knows of each number's value and kept fault, and what it knows of the places
-- of keys.
pub record StoreLane (V : Type 0) : Type 0 where
  pub cells : Lane
  pub known : List (Known V)
  pub faults : List (Known Fault)
  pub keys : List keys.KnownPlace

-- A closer: the cells of its store, and the context that it closes.
pub record CloserView : Type 0 where
  pub cells : CellsId
  pub context : ℕ

-- ---- what belongs to a store

-- The lane is one of this store's.
pub record IsLaneOf {V : Type 0} (id : StoreId) (lane : StoreLane V) : Type 0 where
  pub cells : lane.cells.cells ≡ id.cells
  pub slots : AreNotesOf id.slots lane.known
  pub fault_slots : AreNotesOf id.fault_slots lane.faults
  pub keys : keys.AreKeyNotesOf id.keys lane.keys

-- The closer is one of this store's, for one of its contexts.
pub record IsCloserOf (store : StoreView) (closer : CloserView) : Type 0 where
  pub cells : closer.cells ≡ store.id.cells
  pub context : closer.context < length store.tree

-- ---- kept numbers

-- The lane has drawn the number, not stored it yet, and knows its value.
pub record IsKeptBy {V : Type 0} (lane : StoreLane V) (number : ℕ) : Type 0 where
  pub storable : MayStoreNow lane.cells.view number
  pub value : V
  pub known : known_at lane.known number ≡ Some value

-- What the lane kept before, it still keeps.
abbrev pub StillKeeps : {V : Type 0} → StoreLane V → StoreLane V → Type 0
StillKeeps before after = (number : ℕ) → IsKeptBy before number → IsKeptBy after number

-- The same, except this number.
abbrev pub StillKeepsBut : {V : Type 0} → ℕ → StoreLane V → StoreLane V → Type 0
StillKeepsBut stored before after = (number : ℕ) → number ≢ stored → IsKeptBy before number → IsKeptBy after number

-- ---- steps on the cells alone

-- Only the lane's steps on the cells have changed.
abbrev pub IsOnCells : {V : Type 0} → StoreLane V → StoreLane V → Type 0
IsOnCells before after =
    after ≡ record { cells = after.cells; known = before.known; faults = before.faults; keys = before.keys }

-- ---- opening

-- A lane that has made no step and knows no value, fault or key.
abbrev pub fresh_store_lane : {V : Type 0} → List ℕ → List ℕ → List ℕ → Lane → StoreLane V
fresh_store_lane slots fault_slots key_places lane =
    record {
      cells = lane;
      known = nothing_known slots;
      faults = nothing_known fault_slots;
      keys = keys.no_key_known key_places;
    }

-- A closer for each of the first `n` contexts, in order.
abbrev pub closers_below : CellsId → ℕ → List CloserView
closers_below cells zero = []
closers_below cells (suc n) = closers_below cells n ++ record { cells = cells; context = n } ∷ []

-- The limits of a store of this size are in their ranges, however many contexts there are.
pub record AreStoreLimits (size : Size) (keys lanes tries numbers : ℕ) : Type 0 where
  pub keys_fit : (1 ≤ keys) × (keys ≤ 1024)
  pub others_fit : AreLimits size 0 lanes tries numbers
