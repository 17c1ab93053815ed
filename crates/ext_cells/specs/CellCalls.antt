-- What each call on the cells promises of its result: what one thread would be answered at a point of the call, and
-- which events an answer means. `CallActs` of ext_model has the words for events, fronts and points.
use Rattle.std.specs.Prelude.{ℕ, ◌≡◌, ◌<◌, ◌≤◌, ◌+◌, ◌-◌, ◌*◌, ◌/◌, ◌%◌, ◌++◌, Contains, All, slice_index, sum_by, List, [], ◌∷◌, length, map, take, Option, None, Some, Result, Ok, Err}
use Rattle.ext_model.specs.declared.event.Act.{Act}
use Rattle.ext_model.specs.declared.event.Act.TheVariants.{Keep, Put, Remove, Claim, Seal}
use Rattle.ext_model.specs.declared.slot.Slot.{Slot}
use Rattle.ext_model.specs.declared.slot.Slot.TheVariants as slot
use Rattle.ext_model.specs.Events as events
use Rattle.ext_model.specs.Events.{place_of}
use Rattle.ext_model.specs.Closing.{IsSealedUnused}
use Rattle.ext_model.specs.History.{History, reply_after, state_after, version_of}
use Rattle.ext_model.specs.Plain.{number_drawn, what_stood}
use Rattle.ext_model.specs.CellWords.{word_of}
use Rattle.ext_history.specs.Histories.{seen_by, last_after, call_fronts, first_front, IsStepped}
use Rattle.ext_model.specs.CallActs.{LaneView, IsAnswerPoint}
use Rattle.ext_model.specs.CallActs as model
use Rattle.ext_cells.specs.declared.claim.Claimed.{Claimed}
use Rattle.ext_cells.specs.declared.claim.Claimed.TheVariants as claimed
use Rattle.ext_cells.specs.declared.refusal.CellRefusal.{CellRefusal}
use Rattle.ext_cells.specs.declared.refusal.CellRefusal.TheVariants.{Contended, Busy, Closed, Exhausted, NumbersFull}
use Rattle.ext_cells.specs.declared.nearest.Nearest.{Nearest}
use Rattle.ext_cells.specs.declared.standing.Standing.{Standing}
use Rattle.ext_cells.specs.declared.standing.Standing.TheVariants as standing
use Rattle.std.specs.Int.{bit_at}
use Rattle.ext_cells.specs.Standings.{MayEnd}
use Rattle.ext_cells.specs.Lanes.{Lane}

-- ---- what one thread is answered

-- The result of a call with this reply; `value` converts the number that the reply answers. For a claim, a value or
-- kept fault that stands there is an answer, not a refusal. The last reply comes only to the ends of claims.
-- `Contended` stands in for it, since one thread never answers `Contended`.
abbrev pub result_of : {A : Type 0} → (Option ℕ → A) → events.Reply → Result A CellRefusal
result_of value (events.Happens answer) = Ok (value answer)
result_of value (events.Answers answer) = Ok (value answer)
result_of value (events.Refuses events.NumbersFull) = Err NumbersFull
result_of value (events.Refuses events.Busy) = Err Busy
result_of value (events.Refuses events.Closed) = Err Closed
result_of value (events.Refuses events.Exhausted) = Err Exhausted
result_of value (events.Refuses (events.Standing number)) = Ok (value (Some number))
result_of value (events.Refuses (events.FaultStanding number)) = Ok (value (Some number))
result_of value (events.Refuses events.Barred) = Err Contended

-- What one thread answers to a change of a cell directly after a history.
abbrev pub change_reply : Lane → Act ℕ → History → Result (Option ℕ) CellRefusal
change_reply lane act h = result_of what_stood (reply_after lane.cells.limits h lane.view.number act)

-- The result of a claim with this reply. A number that stands there is an answer, which says whether it is that of a
-- value or of a fault.
abbrev pub claim_result : ℕ → events.Reply → Result Claimed CellRefusal
claim_result cell (events.Happens answer) = Ok (claimed.Won cell)
claim_result cell (events.Answers answer) = Ok (claimed.Won cell)
claim_result cell (events.Refuses events.NumbersFull) = Err NumbersFull
claim_result cell (events.Refuses events.Busy) = Err Busy
claim_result cell (events.Refuses events.Closed) = Err Closed
claim_result cell (events.Refuses events.Exhausted) = Err Exhausted
claim_result cell (events.Refuses (events.Standing number)) = Ok (claimed.Standing number)
claim_result cell (events.Refuses (events.FaultStanding number)) = Ok (claimed.Fault number)
claim_result cell (events.Refuses events.Barred) = Err Contended

-- What one thread answers to a claim directly after a history.
abbrev pub claim_reply : Lane → ℕ → History → Result Claimed CellRefusal
claim_reply lane cell h = claim_result cell (reply_after lane.cells.limits h lane.view.number (Claim cell))

-- What one thread answers when a number is drawn. The reply to a keep doesn't depend on the number in it, here 0.
abbrev pub number_reply : Lane → History → Result ℕ CellRefusal
number_reply lane h = result_of number_drawn (reply_after lane.cells.limits h lane.view.number (Keep 0))

-- ---- which events a result means

-- A draw is the event of its number.
abbrev pub number_acts : Result ℕ CellRefusal → List (Act ℕ)
number_acts (Ok number) = Keep number ∷ []
number_acts (Err why) = []

-- A put that is not refused stores its number.
abbrev pub put_acts : ℕ → ℕ → Result (Option ℕ) CellRefusal → List (Act ℕ)
put_acts cell number (Ok stood) = Put cell number ∷ []
put_acts cell number (Err why) = []

-- A remove takes what stood there, and is no event if nothing did.
abbrev pub remove_acts : ℕ → Result (Option ℕ) CellRefusal → List (Act ℕ)
remove_acts cell (Ok None) = []
remove_acts cell (Ok (Some number)) = Remove cell ∷ []
remove_acts cell (Err why) = []

-- A claim that is won is an event.
abbrev pub claim_acts : ℕ → Result Claimed CellRefusal → List (Act ℕ)
claim_acts cell (Ok (claimed.Won claim)) = Claim cell ∷ []
claim_acts cell (Ok (claimed.Standing number)) = []
claim_acts cell (Ok (claimed.Fault number)) = []
claim_acts cell (Err why) = []

-- ---- the results of calls

-- The result is the reply of one thread at a point of the call, and the lane's events are those that it means. Or it is
-- `Contended`, and at least `tries` events of other lanes came after the call's first front.
abbrev pub Answers : {A : Type 0} → ℕ → Lane → Lane → (Result A CellRefusal → List (Act ℕ))
    → (History → Result A CellRefusal) → Result A CellRefusal → Type 0
Answers tries before after acts_of reply_at result =
    model.Answers before.cells.limits tries (Err Contended) before.view after.view acts_of reply_at result

-- How many events changed the word that an act changes: that of its cell or, for a keep, which has no cell, the
-- count of numbers.
abbrev pub changes_at : Option ℕ → History → ℕ
changes_at None h = (state_after h).drawn
changes_at (Some cell) h = version_of h cell

-- Other lanes overtook the call at the very word that its act changes, and the act would succeed now.
pub record IsOvertakenAt (tries : ℕ) (before after : Lane) (act : Act ℕ) : Type 0 where
  -- The act would happen directly after what the lane has seen now.
  pub would_happen : (answer : Option ℕ)
      × (reply_after before.cells.limits (seen_by after.view) before.view.number act ≡ events.Happens answer)
  -- At least `tries` events after the call's first front changed that word.
  pub own_word : changes_at (place_of act) (first_front before.view after.view) + tries
      ≤ changes_at (place_of act) (seen_by after.view)

-- `contended` is the refusal that says that other lanes were in the way. A call answers it only if its act would happen
-- directly after what the lane has seen now: any other answer that one thread would give there is given first. Only
-- changes of the act's own word count; events elsewhere are never in the way of a change.
abbrev pub ComesLast : {A R : Type 0} → R → ℕ → Lane → Lane → Act ℕ → Result A R → Type 0
ComesLast contended tries before after act result = result ≡ Err contended → IsOvertakenAt tries before after act

-- The result of a seal: the cell is sealed and has kept this, whether by this call or an earlier one; or it is refused
-- at a point of the call; or other lanes were in the way.
abbrev pub SealAnswers : ℕ → Lane → Lane → ℕ → Result (Option ℕ) CellRefusal → Type 0
SealAnswers tries before after cell (Ok kept) = model.Seals before.cells.limits cell before.view after.view kept
SealAnswers tries before after cell (Err Contended) = model.IsOvertaken before.cells.limits tries before.view after.view
SealAnswers tries before after cell (Err why) =
    model.HoldsAtPoint before.cells.limits before.view after.view [] (λ p. change_reply before (Seal cell) p ≡ Err why)

-- The fact holds of the claim, if it was won.
abbrev pub IfWon : Result Claimed CellRefusal → (ℕ → Type 0) → Type 0
IfWon (Ok (claimed.Won claim)) Fact = Fact claim
IfWon (Ok (claimed.Standing number)) Fact = Unit {0}
IfWon (Ok (claimed.Fault number)) Fact = Unit {0}
IfWon (Err why) Fact = Unit {0}

-- The call made this one event, a fill, a fail or an abandon, as one thread would at that point.
abbrev pub EndsClaim : Lane → Lane → Act ℕ → Type 0
EndsClaim before after act =
    model.HoldsAtPoint before.cells.limits before.view after.view (act ∷ [])
    (λ p. reply_after before.cells.limits p before.view.number act ≡ events.Happens None)

-- The words of the cells as they stood together at one single point of the call, which made no event. If there are
-- cells to read, the call made at least one step.
pub record StoodTogether (before after : Lane) (cells words : List ℕ) : Type 0 where
  pub calls : model.Calls before.cells.limits before.view after.view []
  pub stepped : 1 ≤ length cells → IsStepped before.view after.view
  pub point : (p : History) × IsAnswerPoint before.view after.view [] p × (words ≡ map (word_of p) cells)

-- The point of a collect. Each pass reads every cell once, and the point is the front after the last read of the pass
-- before the last.
abbrev pub before_last_pass : ℕ → LaneView → LaneView → History
before_last_pass cells before after =
    last_after (seen_by before) (take (length (call_fronts before after) - cells) (call_fronts before after))

-- At least `tries` events after the call's first front were on these cells.
abbrev pub IsOvertakenOn : ℕ → List ℕ → LaneView → LaneView → Type 0
IsOvertakenOn tries cells before after =
    sum_by (version_of (first_front before after)) cells + tries ≤ sum_by (version_of (seen_by after)) cells

-- The result of a collect: words that stood together, or other lanes were in the way.
abbrev pub Collects : ℕ → Lane → Lane → List ℕ → Result (List ℕ) CellRefusal → Type 0
Collects tries before after cells (Ok words) = StoodTogether before after cells words
Collects tries before after cells (Err why) = (why ≡ Contended)
    × model.IsOvertaken before.cells.limits tries before.view after.view

-- ---- the nearest cell

-- The cell of a row in a column, where a row has so many cells, one for each column.
abbrev pub cell_at : ℕ → ℕ → ℕ → ℕ
cell_at width column row = row * width + column

-- The cells of these rows in one column, in the order of the rows.
abbrev pub cells_in : List ℕ → ℕ → ℕ → List ℕ
cells_in rows width column = map (cell_at width column) rows

-- What a look-up learns of what stands at a cell. It learns neither whose claim it is nor what a seal keeps.
abbrev pub standing_of : Option Slot → Option Standing
standing_of None = None
standing_of (Some (slot.Entry number)) = Some (standing.Value number)
standing_of (Some (slot.Fault number)) = Some (standing.Fault number)
standing_of (Some (slot.Claim lane)) = Some standing.Claim
standing_of (Some (slot.Sealed kept)) = Some standing.Seal

-- The first of the cells where anything stands after a history: its index in the list, and what stands there.
pub record StandsFirst (h : History) (cells : List ℕ) (nearest : Nearest) : Type 0 where
  pub within : nearest.index < length cells
  pub nothing_before : All (λ cell. (state_after h).slots cell ≡ None) (take nearest.index cells)
  pub stands : standing_of ((state_after h).slots (slice_index cells nearest.index)) ≡ Some nearest.standing

-- That cell, or none if nothing stands in any of them.
abbrev pub IsNearest : History → List ℕ → Option Nearest → Type 0
IsNearest h cells None = All (λ cell. (state_after h).slots cell ≡ None) cells
IsNearest h cells (Some nearest) = StandsFirst h cells nearest

-- The nearest cell where anything stood at one single point of the call, which made no event. If there are cells to
-- read, the call made at least one step.
pub record StoodNearest (before after : Lane) (cells : List ℕ) (nearest : Option Nearest) : Type 0 where
  pub calls : model.Calls before.cells.limits before.view after.view []
  pub stepped : 1 ≤ length cells → IsStepped before.view after.view
  pub point : (p : History) × IsAnswerPoint before.view after.view [] p × IsNearest p cells nearest

-- The result of such a look-up: that cell, or other lanes were in the way.
abbrev pub FindsNearest : ℕ → Lane → Lane → List ℕ → Result (Option Nearest) CellRefusal → Type 0
FindsNearest tries before after cells (Ok nearest) = StoodNearest before after cells nearest
FindsNearest tries before after cells (Err why) = (why ≡ Contended)
    × model.IsOvertaken before.cells.limits tries before.view after.view

-- ---- the end of a block

-- The cell is in this block of 32 cells, and has no mark among these. The blocks are numbered in order.
pub record IsUnmarked (block marks cell : ℕ) : Type 0 where
  pub block_is : cell / 32 ≡ block
  pub mark : bit_at marks (cell % 32) ≡ 0

-- The call sealed cells of the block that never had an event, all at once: what is seen is the history before their
-- seals, and then these. Afterwards each cell of the block without a mark is sealed, and nobody had used it.
pub record EndsBlock (before after : Lane) (block marks : ℕ) : Type 0 where
  pub cells : List ℕ
  pub calls : model.Calls before.cells.limits before.view after.view (map Seal cells)
  pub past : History
  pub seals : seen_by after.view ≡ past ++ model.events_by before.view.number (map Seal cells)
  pub may : MayEnd before.cells.limits past cells
  pub within : (cell : ℕ) → Contains cells cell → IsUnmarked block marks cell
  pub sealed : (cell : ℕ) → cell < before.cells.limits.cells → IsUnmarked block marks cell
      → IsSealedUnused (seen_by after.view) cell
