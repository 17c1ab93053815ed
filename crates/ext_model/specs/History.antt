-- The history of a store: the events of all lanes in one list over cells, oldest first, what they leave, and which
-- histories are legal. A cell is a context and a key in one number. ext_history defines histories, own events and
-- legality for events of any type.
use Rattle.std.specs.Prelude.{ℕ, ◌≡◌, ◌+◌, ◌<◌, nat_eq, List, Option, None, Some, IfSome, IsTrue, Bool, Contains, fold, count_by, filter_map}
use Rattle.ext_history.specs.Histories as histories
use Rattle.ext_model.specs.declared.event.Act.{Act}
use Rattle.ext_model.specs.declared.event.Act.TheVariants.{Keep, Put, Remove, Claim, Fill, Fail, Abandon, Seal}
use Rattle.ext_model.specs.declared.event.Event.{Event}
use Rattle.ext_model.specs.declared.slot.Slot.{Slot}
use Rattle.ext_model.specs.State.{State, opening}
use Rattle.ext_model.specs.Events.{Reply, Happens, reply, place_of, is_on, apply}

-- The events so far, oldest first.
abbrev pub History : Type 0
History = List (Event ℕ)

abbrev pub by : ℕ → Act ℕ → Event ℕ
by lane act = record { lane = lane; act = act }

-- The size of a store, and whether it keeps faults. Cells and lanes count from 0, numbers of values and faults from 1.
pub record Limits : Type 0 where
  pub cells : ℕ
  pub lanes : ℕ
  pub numbers : ℕ
  pub keep_faults : Bool

-- ---- what a history leaves

-- The state after the events, starting from the opened store.
abbrev pub state_after : History → State ℕ
state_after h = fold (apply nat_eq) opening h

-- What stands in a row of cells, such as the contexts under one key. `cell_of` gives the cell of each.
abbrev pub slots_in : (ℕ → ℕ) → History → ℕ → Option Slot
slots_in cell_of h index = (state_after h).slots (cell_of index)

-- The cell's version: how many of the events are on it.
abbrev pub version_of : History → ℕ → ℕ
version_of h cell = count_by (λ e. is_on nat_eq cell e.act) h

abbrev pub lane_of : Event ℕ → ℕ
lane_of e = e.lane

-- The events of one lane, in order.
abbrev pub own : ℕ → History → History
own lane h = histories.own lane_of lane h

-- None of these events is on the cell.
abbrev pub IsQuiet : ℕ → History → Type 0
IsQuiet cell events = version_of events cell ≡ 0

-- ---- numbers that acts draw and store

-- The number that an act draws, if any.
abbrev pub drawn_number : {P : Type 0} → Act P → Option ℕ
drawn_number (Keep number) = Some number
drawn_number (Put at number) = None
drawn_number (Remove at) = None
drawn_number (Claim at) = None
drawn_number (Fill at number) = None
drawn_number (Fail at number) = None
drawn_number (Abandon at) = None
drawn_number (Seal at) = None

-- The number that an act stores, for a value or a fault.
abbrev pub stored_number : {P : Type 0} → Act P → Option ℕ
stored_number (Keep number) = None
stored_number (Put at number) = Some number
stored_number (Remove at) = None
stored_number (Claim at) = None
stored_number (Fill at number) = Some number
stored_number (Fail at number) = Some number
stored_number (Abandon at) = None
stored_number (Seal at) = None

-- The numbers that the events stored, in order.
abbrev pub stored : History → List ℕ
stored h = filter_map (λ e. stored_number e.act) h

-- The number that an act stores for a fault.
abbrev pub fault_number : {P : Type 0} → Act P → Option ℕ
fault_number (Keep number) = None
fault_number (Put at number) = None
fault_number (Remove at) = None
fault_number (Claim at) = None
fault_number (Fill at number) = None
fault_number (Fail at number) = Some number
fault_number (Abandon at) = None
fault_number (Seal at) = None

-- The numbers of the kept faults, in order.
abbrev pub faults : History → List ℕ
faults h = filter_map (λ e. fault_number e.act) h

-- ---- legal histories

-- What one thread answers to an act of the lane directly after these events.
abbrev pub reply_after : Limits → History → ℕ → Act ℕ → Reply
reply_after limits h lane act = reply limits.numbers (version_of h) (state_after h) lane act

-- The event may come directly after these, in a store of this size.
pub record IsAllowed (limits : Limits) (before : History) (e : Event ℕ) : Type 0 where
  -- It is by one of the store's lanes.
  pub lane : e.lane < limits.lanes
  -- Its cell, if it has one, is one of the store's.
  pub within : IfSome (place_of e.act) (λ cell. cell < limits.cells)
  -- One thread would do it then, and not refuse it or answer it without an event.
  pub happens : (answer : Option ℕ) × (reply_after limits before e.lane e.act ≡ Happens answer)
  -- A drawn number is the next one.
  pub next : IfSome (drawn_number e.act) (λ number. number ≡ (state_after before).drawn + 1)
  -- A stored number was drawn by the same lane.
  pub drew : IfSome (stored_number e.act) (λ number. Contains before (by e.lane (Keep number)))
  -- A stored number was never stored before.
  pub fresh : IfSome (stored_number e.act) (λ number. ¬ (Contains (stored before) number))
  -- A fault is kept only in a store that keeps faults.
  pub keeps : IfSome (fault_number e.act) (λ number. IsTrue limits.keep_faults)

-- Each event of a legal history is allowed directly after the events before it.
abbrev pub IsLegal : Limits → History → Type 0
IsLegal limits h = histories.IsLegal (IsAllowed limits) h
