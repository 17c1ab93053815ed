-- The rule of the counter from which workers draw jobs, what a worker learns from each step, and what is known of a
-- worker's hand around each call. Contracts of calls cite only the last of these, and `done_by`, what a hand has done.
-- Each job has a slot. Its item stands there until a worker draws the job; its outcome stands there once that worker
-- has given the slot back, with its next draw. A seat's view lists its draws, and the jobs that it did and gave back.
-- It also counts the seats that it stands for, so that the seat that stands for all of them knows that no other has
-- drawn anything. And it has the items, since what a step tells can't read the table's key.
use Rattle.std.specs.Prelude.{ℕ, ◌≡◌, ◌+◌, ◌-◌, ◌<◌, ◌≤◌, Bool, true, false, List, [], ◌∷◌, ◌++◌, length, map, filter_map, cond, All, Option, Some, None, slice_get, slice_index, ltb, leb}
use mathlib.Core.Option.{some}
use mathlib.Core.Option as maybe
use lib.ListN.{get_elem?}
use Rattle.atomic_table.specs.Table.{State, Me, rest}
use Rattle.atomic_table.specs.Seated.{TableId}
use Rattle.atomic_table.specs.declared.shared.Seat.{Seat}
use Rattle.ext_crew.specs.declared.jobs.done.Done.{Done}
use Rattle.ext_crew.specs.declared.jobs.rule.Drawn.{Drawn}
use Rattle.ext_crew.specs.declared.jobs.slot.Slot.{Slot}
use Rattle.ext_crew.specs.declared.jobs.slot.Slot.TheVariants as slot
use Rattle.ext_crew.specs.Times.{times}

-- What a worker has in hand.
abbrev pub Hand : Type 0 → Type 0 → Type 0
Hand T O = Seat (Slot T O) (Drawn T O)

abbrev pub drawn : {T O : Type 0} → ℕ → List ℕ → List (Done O) → List T → Drawn T O
drawn parts draws given items = record { parts = parts; draws = draws; given = given; items = items }

-- ---- slots

abbrev pub item_in : {T O : Type 0} → Slot T O → Option T
item_in (slot.Item item) = Some item
item_in (slot.Outcome outcome) = None
item_in slot.Empty = None

abbrev pub outcome_in : {T O : Type 0} → Slot T O → Option O
outcome_in (slot.Item item) = None
outcome_in (slot.Outcome outcome) = Some outcome
outcome_in slot.Empty = None

-- The outcomes in the slots, in order.
abbrev pub outcomes_in : {T O : Type 0} → List (Slot T O) → List O
outcomes_in slots = filter_map (λ o. o) (map outcome_in slots)

abbrev pub slot_of : {T O : Type 0} → Option T → Slot T O
slot_of (Some item) = slot.Item item
slot_of None = slot.Empty

-- The job in this slot, if it is done.
abbrev pub done_at : {T O : Type 0} → ℕ → Slot T O → List (Done O)
done_at job (slot.Item item) = []
done_at job (slot.Outcome outcome) = record { job = job; outcome = outcome } ∷ []
done_at job slot.Empty = []

-- The same for the slot that a seat took last.
abbrev pub giving : {T O : Type 0} → List (ℕ × Slot T O) → List (Done O)
giving [] = []
giving (s ∷ slots) = done_at s.0 s.1

-- What a seat has done: the jobs it has given back, and the one it still holds.
abbrev pub done_by : {T O : Type 0} → Me (Slot T O) (Drawn T O) → List (Done O)
done_by me = me.0.given ++ giving me.1

abbrev pub jobs_of : {O : Type 0} → List (Done O) → List ℕ
jobs_of done = map (λ d. d.job) done

-- ---- sums over views

-- The sum of `f` over the views.
abbrev pub total : {V : Type 0} → (V → ℕ) → List V → ℕ
total f [] = 0
total f (v ∷ vs) = f v + total f vs

-- How many of the draws are past the last job: `jobs` or more.
abbrev pub ends : ℕ → List ℕ → ℕ
ends jobs [] = 0
ends jobs (d ∷ ds) = cond (leb jobs d) 1 0 + ends jobs ds

-- ---- the rule

-- A seat draws past the last job at most once for each seat that it stands for. One that stands for none has drawn
-- nothing, and any other knows the items. It gives back only what it drew.
pub record Fits {T O : Type 0} (items : List T) (v : Drawn T O) : Type 0 where
  pub few : ends (length items) v.draws ≤ v.parts
  pub idle : v.parts ≡ 0 → v.draws ≡ []
  pub knows : 0 < v.parts → v.items ≡ items
  pub drew : (job : ℕ) → times job (jobs_of v.given) ≤ times job v.draws

-- The job's outcome stands in its slot.
abbrev pub Stands : {T O : Type 0} → List (maybe.Option (Slot T O)) → Done O → Type 0
Stands homes d = get_elem? homes d.job ≡ some (some (slot.Outcome d.outcome))

-- Each number below the counter was drawn once, by one of the views, and no other was drawn. Slots from the counter on
-- have their items, and slots that were given back have their outcomes.
pub record Kept {T O : Type 0} (items : List T) (s : State (Slot T O) (Drawn T O)) : Type 0 where
  pub size : length s.words ≡ 1
  pub slots : length s.homes ≡ length items
  pub parts : total (λ v. v.parts) s.views ≡ 33
  pub once : (x : ℕ) → total (λ v. times x v.draws) s.views ≡ cond (ltb x (slice_index s.words 0)) 1 0
  pub count : total (λ v. length v.draws) s.views ≡ slice_index s.words 0
  pub bound : slice_index s.words 0 ≤ length items + total (λ v. ends (length items) v.draws) s.views
  pub fits : (seat : ℕ) (v : Drawn T O) → get_elem? s.views seat ≡ some v → Fits items v
  pub stand : (k : ℕ) → slice_index s.words 0 ≤ k → k < length items
      → get_elem? s.homes k ≡ some (some (slot_of (slice_get items k)))
  pub given : (seat : ℕ) (v : Drawn T O) → get_elem? s.views seat ≡ some v → All (λ d. Stands s.homes d) v.given

-- ---- what a worker learns from a step

-- Nothing changed, and the counter is at most 33 past the items.
pub record Loaded {T O : Type 0} (v : Me (Slot T O) (Drawn T O)) (found : ℕ) (w : Me (Slot T O) (Drawn T O))
    : Type 0 where
  pub same : w ≡ v
  pub bound : found ≤ length v.0.items + 33

-- The number was drawn. The slot taken before is back with its outcome. If the number has a slot, it was taken with its
-- item.
pub record Took {T O : Type 0} (v : Me (Slot T O) (Drawn T O)) (found : ℕ) (w : Me (Slot T O) (Drawn T O))
    : Type 0 where
  pub view : w.0 ≡ drawn v.0.parts (v.0.draws ++ found ∷ []) (done_by v) v.0.items
  pub slots : w.1 ≡ cond (ltb found (length v.0.items)) ((found, slot_of (slice_get v.0.items found)) ∷ rest v.1)
      (rest v.1)
  pub later : length v.0.draws ≤ found

-- An exchange that finds the expected number is a draw. Any other is a load.
abbrev pub DrawsIf : {T O : Type 0} → Bool → Me (Slot T O) (Drawn T O) → ℕ → Me (Slot T O) (Drawn T O) → Type 0
DrawsIf true v found w = Took v found w
DrawsIf false v found w = Loaded v found w

-- ---- seats that are split off and joined in

-- A worker's seat is split off the first one.
abbrev pub hirer : {T O : Type 0} → Drawn T O → Drawn T O
hirer v = drawn (v.parts - 1) v.draws v.given v.items

abbrev pub hired : {T O : Type 0} → Drawn T O → Drawn T O
hired v = drawn 1 [] [] v.items

-- A seat takes in what another has drawn and done, after its own, and the other is spent.
abbrev pub together : {T O : Type 0} → Drawn T O → Drawn T O → Drawn T O
together v w = drawn (v.parts + w.parts) (v.draws ++ w.draws) (v.given ++ w.given) v.items

abbrev pub spent : {T O : Type 0} → Drawn T O
spent = drawn 0 [] [] []

-- ---- a worker's seat

-- It holds no slot, or one with an outcome.
abbrev pub HoldsOutcome : {T O : Type 0} → List (ℕ × Slot T O) → Type 0
HoldsOutcome [] = Unit {0}
HoldsOutcome {O = O} (s ∷ slots) = (slots ≡ []) × ((outcome : O) × (s.1 ≡ slot.Outcome outcome))

-- Between its draws: it has drawn exactly the jobs that it has done, in this order.
pub record IsDrawing {T O : Type 0} (items : List T) (me : Me (Slot T O) (Drawn T O)) : Type 0 where
  pub parts : me.0.parts ≡ 1
  pub draws : me.0.draws ≡ jobs_of (done_by me)
  pub knows : me.0.items ≡ items
  pub no_end : ends (length items) me.0.draws ≡ 0
  pub holds : HoldsOutcome me.1

-- While a job runs: the worker holds the job's slot, with nothing in it.
pub record HasDrawn {T O : Type 0} (items : List T) (me : Me (Slot T O) (Drawn T O)) (done : List (Done O)) (job : ℕ)
    : Type 0 where
  pub left : me ≡ (drawn 1 (jobs_of done ++ job ∷ []) done items, (job, slot.Empty) ∷ [])
  pub no_end : ends (length items) (jobs_of done ++ job ∷ []) ≡ 0

-- After a draw past the last job: it no longer holds anything.
pub record HasEnded {T O : Type 0} (items : List T) (me : Me (Slot T O) (Drawn T O)) (done : List (Done O))
    : Type 0 where
  pub end : ℕ
  pub past : length items ≤ end
  pub left : me ≡ (drawn 1 (jobs_of done ++ end ∷ []) done items, [])
  pub no_end : ends (length items) (jobs_of done) ≡ 0

-- ---- the counter of a run

-- This is the counter of `count` items, at most 65,536, each with a slot.
abbrev pub IsCounter : {T : Type 0} → TableId → List T → ℕ → Type 0
IsCounter table items count = (table.words ≡ 1) × (length items ≡ count) × (count ≤ 65536) × (table.slots ≡ count)

-- This is the counter of these items, nothing was drawn from it, and its first seat stands for all 33 seats that there
-- may be.
pub record IsOpen {T O : Type 0} (table : TableId) (key items : List T) (first : Hand T O) : Type 0 where
  pub counter : IsCounter table key (length items)
  pub same_items : key ≡ items
  pub same_table : first.table_id ≡ table
  pub me : first.me ≡ (drawn 33 [] [] items, [])
