-- The rule of the table of lock words: the words are those of one legal history, of which every lane has seen a
-- beginning and all its own events. It holds between any two steps. Each kind of step below keeps it and shows its lane
-- what it met.
use Rattle.std.specs.Prelude.{ℕ, ◌≡◌, ◌==◌, ◌+◌, ◌<◌, ◌≤◌, Bool, true, false, List, [], ◌∷◌, ◌++◌, length, Option, Some, None, slice_index}
use mathlib.Core.Option.{some}
use mathlib.Core.List.{IsPrefix}
use lib.ListN.{get_elem?}
use Rattle.atomic_table.specs.Table.{Step, Me}
use Rattle.ext_history.specs.Histories.{seen, GoesOn}
use Rattle.ext_locks.specs.declared.event.LockMode.{LockMode}
use Rattle.ext_locks.specs.declared.seat.SeatView.{SeatView}
use Rattle.ext_locks.specs.History.{LockHistory, event, lane_of, own, IsLegal, IsAllowed}
use Rattle.ext_locks.specs.Views.{LaneView}
use Rattle.ext_locks.specs.InnerWords.{IsWord}

-- ---- the rule

-- What a seat saw, itself or by a note, is a beginning of the history, in which its lane has no events beyond those it
-- has seen.
pub record Fits (h : LockHistory) (v : SeatView) : Type 0 where
  pub seen_is : IsPrefix (seen v.fronts) h
  pub told_is : IsPrefix v.told h
  pub own_is : (lane : ℕ) → v.number ≡ Some lane → own lane h ≡ own lane (seen v.fronts)

-- A lane's seat has a number below the count of lanes. Both it and the seat that hands out numbers know the count.
pub record Counts (lanes : ℕ) (v : SeatView) : Type 0 where
  pub lane : (number : ℕ) → v.number ≡ Some number → (number < lanes) × (v.lanes ≡ lanes)
  pub gives : (next : ℕ) → v.next ≡ Some next → v.lanes ≡ lanes

-- No lane has a number that is still to be handed out, and none beyond the count of lanes is handed out.
pub record Gives (lanes : ℕ) (h : LockHistory) (views : List SeatView) (next : ℕ) : Type 0 where
  pub most : next ≤ lanes
  pub below : (seat lane : ℕ) (v : SeatView) → get_elem? views seat ≡ some v → v.number ≡ Some lane → lane < next
  pub unused : (lane : ℕ) → next ≤ lane → own lane h ≡ []

-- The rule over all words and views of a table with this many locks and lanes.
pub record Kept (locks lanes : ℕ) (words : List ℕ) (views : List SeatView) : Type 0 where
  pub size : length words ≡ locks
  pub few : lanes ≤ 32
  pub history : LockHistory
  pub legal : IsLegal lanes history
  pub bits : (lock : ℕ) → lock < locks → IsWord history lock (slice_index words lock)
  pub fits : (seat : ℕ) (v : SeatView) → get_elem? views seat ≡ some v → Fits history v
  pub counts : (seat : ℕ) (v : SeatView) → get_elem? views seat ≡ some v → Counts lanes v
  pub apart : (one other lane : ℕ) (v w : SeatView) → get_elem? views one ≡ some v → get_elem? views other ≡ some w
      → v.number ≡ Some lane → w.number ≡ Some lane → one ≡ other
  pub one_gives : (one other m n : ℕ) (v w : SeatView) → get_elem? views one ≡ some v → get_elem? views other ≡ some w
      → v.next ≡ Some m → w.next ≡ Some n → one ≡ other
  pub gives : (seat next : ℕ) (v : SeatView) → get_elem? views seat ≡ some v → v.next ≡ Some next
      → Gives lanes history views next

-- ---- what a lane learns from its steps

-- The view after it has seen this history.
abbrev pub seeing : SeatView → LockHistory → SeatView
seeing v h = record { number = v.number; next = v.next; lanes = v.lanes; fronts = v.fronts ++ h ∷ []; told = [] }

-- The lane with this number and the seat's fronts.
abbrev pub lane_view : SeatView → ℕ → LaneView
lane_view v lane = record { number = lane; fronts = v.fronts }

-- The lane meets a legal history that extends all that it had seen, itself or by a note, by events of other lanes
-- alone.
pub record Meets (v : SeatView) (lane : ℕ) (h : LockHistory) : Type 0 where
  pub on : GoesOn lane_of (IsAllowed v.lanes) (lane_view v lane) h
  pub told : IsPrefix v.told h
  pub few : (other : ℕ) → 32 ≤ other → own other h ≡ []

-- The lane saw a history in which this was the lock's word.
pub record Loaded (v : SeatView) (lane lock found : ℕ) (w : SeatView) : Type 0 where
  pub history : LockHistory
  pub meets : Meets v lane history
  pub word : IsWord history lock found
  pub view : w ≡ seeing v history

-- The event was allowed after a history that the lane met, and was appended to it.
pub record Stepped (v : SeatView) (lane lock : ℕ) (mode : LockMode) (takes : Bool) (w : SeatView) : Type 0 where
  pub history : LockHistory
  pub meets : Meets v lane history
  pub allowed : IsAllowed v.lanes history (event lane lock mode takes)
  pub view : w ≡ seeing v (history ++ event lane lock mode takes ∷ [])

-- An exchange that finds the expected word takes the lock. Any other is a load.
abbrev pub TakesIf : Bool → SeatView → ℕ → ℕ → LockMode → ℕ → SeatView → Type 0
TakesIf true v lane lock mode found w = Stepped v lane lock mode true w
TakesIf false v lane lock mode found w = Loaded v lane lock found w

abbrev pub Takes : LockMode → Step Unit → Me Unit SeatView → ℕ → Me Unit SeatView → Type 0
Takes mode s v found w = (w.1 ≡ v.1)
    × ((lane : ℕ) → v.0.number ≡ Some lane → TakesIf (found == s.first) v.0 lane s.word mode found w.0)

abbrev pub GivesBack : LockMode → Step Unit → Me Unit SeatView → ℕ → Me Unit SeatView → Type 0
GivesBack mode s v found w = (w.1 ≡ v.1)
    × ((lane : ℕ) → v.0.number ≡ Some lane → Stepped v.0 lane s.word mode false w.0)

abbrev pub Loads : Step Unit → Me Unit SeatView → ℕ → Me Unit SeatView → Type 0
Loads s v found w = (w.1 ≡ v.1) × ((lane : ℕ) → v.0.number ≡ Some lane → Loaded v.0 lane s.word found w.0)

-- ---- seats that are split off and joined in

abbrev pub next_after : Option ℕ → Option ℕ
next_after None = None
next_after (Some n) = Some (n + 1)

-- The first seat, which hands out the numbers of `lanes` lanes.
abbrev pub founder : ℕ → SeatView
founder lanes = record { number = None; next = Some 0; lanes = lanes; fronts = []; told = [] }

-- A lane is split off the seat that hands out numbers.
abbrev pub dealer : SeatView → SeatView
dealer v = record { number = v.number; next = next_after v.next; lanes = v.lanes; fronts = v.fronts; told = v.told }

abbrev pub dealt : SeatView → SeatView
dealt v = record { number = v.next; next = None; lanes = v.lanes; fronts = []; told = [] }

-- A note of what a lane has seen, and a lane that took it in.
abbrev pub noted : SeatView → SeatView
noted v = record { number = None; next = None; lanes = v.lanes; fronts = []; told = seen v.fronts }

abbrev pub told_of : SeatView → SeatView → SeatView
told_of v w = record { number = v.number; next = v.next; lanes = v.lanes; fronts = v.fronts; told = w.told }

abbrev pub nobody : SeatView
nobody = record { number = None; next = None; lanes = 0; fronts = []; told = [] }
