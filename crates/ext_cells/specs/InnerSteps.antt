-- What a lane learns from its two kinds of steps on the shared words, a load and an exchange, what changes a cell, and
-- what ends a claim. No public contract cites it.
use Rattle.std.specs.Prelude.{◌≡◌, ◌⊎◌, ℕ, ◌+◌, ◌<◌, ◌≤◌, List, [], ◌∷◌, ◌++◌, Contains, Option, None, Some, Result, Ok, Err}
use Rattle.ext_model.specs.declared.event.Act.{Act}
use Rattle.ext_model.specs.declared.event.Act.TheVariants.{Keep, Put, Remove, Claim, Fill, Fail, Abandon, Seal}
use Rattle.ext_model.specs.Events as events
use Rattle.ext_model.specs.History.{History, Limits, by, reply_after, IsAllowed}
use Rattle.ext_history.specs.Histories.{moved}
use Rattle.ext_model.specs.CallActs.{LaneView}
use Rattle.ext_model.specs.CallActs as model
use Rattle.ext_cells.specs.declared.refusal.CellRefusal.{CellRefusal}
use Rattle.ext_cells.specs.declared.refusal.CellRefusal.TheVariants.{Contended}
use Rattle.ext_cells.specs.declared.stood.Stood.{Stood}
use Rattle.ext_cells.specs.declared.stood.Stood.TheVariants.{Nothing, Value, Fault}
use Rattle.ext_cells.specs.Lanes.{Lane}
use Rattle.ext_cells.specs.CellCalls.{change_reply}
use Rattle.ext_cells.specs.declared.view.View.{View}
use Rattle.ext_cells.specs.InnerViews.{limits_of, knowing, shown}
use Rattle.ext_cells.specs.InnerTableSteps.{FoundBy}
use Rattle.ext_cells.specs.InnerMarks.{marks}
use Rattle.ext_cells.specs.InnerTableSteps.{IsWordAt}

-- ---- single steps

-- so many cells are laid out in so many words, and the seat knows how many
pub record IsTable (words of_table : ℕ) (v : View) (cells : ℕ) : Type 0 where
  pub words_are : words ≡ (marks cells).width
  pub limits_are : of_table ≡ cells
  pub known : v.limits.cells ≡ cells
  pub few : cells ≤ 67108864

-- the view after steps of which the last left this history, and the others showed none
pub record IsShown (v after : View) (h : History) : Type 0 where
  pub indexed : List (ℕ × ℕ)
  pub block : ℕ
  pub least : ℕ
  pub is : after ≡ shown (knowing v indexed block least) h

-- these steps found the word
abbrev pub Found : View → View → ℕ → ℕ → Type 0
Found v after index word = (h : History) × FoundBy v index word h × IsShown v after h

-- or made the act where they found it
abbrev pub Made : View → View → ℕ → ℕ → Act ℕ → Type 0
Made v after index word act =
    (lane : ℕ) → v.lane ≡ Some lane → (h : History) × FoundBy v index word h
    × IsAllowed (limits_of v.limits) h (by lane act) × IsShown v after (h ++ by lane act ∷ [])

-- these steps showed no history, and led to the cell
pub record IsMarked (v after : View) (cell : ℕ) : Type 0 where
  pub indexed : List (ℕ × ℕ)
  pub block : ℕ
  pub least : ℕ
  pub is : after ≡ knowing v indexed block least
  pub there : Contains indexed (cell, cell)

-- ---- steps of a lane

-- The lane after a step that left this history.
abbrev pub stepped : Lane → History → Lane
stepped lane h = record { cells = lane.cells; view = moved lane.view (h ∷ []) }

-- A step of the lane at an index found this history, with this word there.
pub record Finds (limits : Limits) (lane : LaneView) (index word : ℕ) (h : History) : Type 0 where
  pub on : model.GoesOn limits lane h
  pub word_is : IsWordAt limits h index word
  -- The lane is one of those that were opened.
  pub below : lane.number < limits.lanes

-- The lane may make this act next, and then this word stands at the index.
pub record MayGoOn (limits : Limits) (lane : LaneView) (h : History) (index word : ℕ) (act : Act ℕ) : Type 0 where
  pub allowed : IsAllowed limits h (by lane.number act)
  pub word_is : IsWordAt limits (h ++ by lane.number act ∷ []) index word

-- The lane has drawn this number: a step of it found all those below it drawn, and left it drawn.
pub record Draws (lane after : Lane) (number : ℕ) : Type 0 where
  pub count : ℕ
  pub next : number ≡ count + 1
  pub left : count < lane.cells.limits.numbers
  pub history : History
  pub finds : Finds lane.cells.limits lane.view lane.cells.limits.cells count history
  pub allowed : IsAllowed lane.cells.limits history (by lane.view.number (Keep number))
  pub after_is : after ≡ stepped lane (history ++ by lane.view.number (Keep number) ∷ [])

-- A put, a remove, a claim or a seal of the cell.
abbrev pub IsChangeOf : ℕ → Act ℕ → Type 0
IsChangeOf cell (Keep number) = ⊥
IsChangeOf cell (Put at number) = at ≡ cell
IsChangeOf cell (Remove at) = at ≡ cell
IsChangeOf cell (Claim at) = at ≡ cell
IsChangeOf cell (Fill at number) = ⊥
IsChangeOf cell (Fail at number) = ⊥
IsChangeOf cell (Abandon at) = ⊥
IsChangeOf cell (Seal at) = at ≡ cell

-- A fill, a fail or an abandon of the cell.
abbrev pub IsEndOf : ℕ → Act ℕ → Type 0
IsEndOf cell (Keep number) = ⊥
IsEndOf cell (Put at number) = ⊥
IsEndOf cell (Remove at) = ⊥
IsEndOf cell (Claim at) = ⊥
IsEndOf cell (Fill at number) = at ≡ cell
IsEndOf cell (Fail at number) = at ≡ cell
IsEndOf cell (Abandon at) = at ≡ cell
IsEndOf cell (Seal at) = ⊥

-- ---- what an answer keeps of what stood

abbrev pub number_of : Stood → Option ℕ
number_of Nothing = None
number_of (Value number) = Some number
number_of (Fault number) = Some number

abbrev pub value_of : Stood → Option ℕ
value_of Nothing = None
value_of (Value number) = Some number
value_of (Fault number) = None

-- What an act answers that happens where this stood. A seal answers only the number of a value.
abbrev pub answer_to : Act ℕ → Stood → Option ℕ
answer_to (Seal at) stood = value_of stood
answer_to act stood = number_of stood

-- What one thread replies if the act has nothing to do. A claim is refused with the number that stands.
abbrev pub idle_reply : Act ℕ → Stood → events.Reply
idle_reply (Claim at) (Value number) = events.Refuses (events.Standing number)
idle_reply (Claim at) (Fault number) = events.Refuses (events.FaultStanding number)
idle_reply act stood = events.Answers (answer_to act stood)

-- What a put or a remove answers, by what it met.
abbrev pub number_result : Result Stood CellRefusal → Result (Option ℕ) CellRefusal
number_result (Ok stood) = Ok (number_of stood)
number_result (Err why) = Err why

-- What a seal answers, by what it met.
abbrev pub value_result : Result Stood CellRefusal → Result (Option ℕ) CellRefusal
value_result (Ok stood) = Ok (value_of stood)
value_result (Err why) = Err why

-- The result of a change: it happened at a point of the call, or was answered there without an event; or it was refused
-- there; or other lanes were in the way.
abbrev pub Changes : ℕ → Lane → Lane → Act ℕ → Result Stood CellRefusal → Type 0
Changes tries before after act (Ok stood) =
    model.HoldsAtPoint before.cells.limits before.view after.view (act ∷ [])
    (λ p. reply_after before.cells.limits p before.view.number act ≡ events.Happens (answer_to act stood))
    ⊎ model.HoldsAtPoint before.cells.limits before.view after.view []
    (λ p. reply_after before.cells.limits p before.view.number act ≡ idle_reply act stood)
Changes tries before after act (Err Contended) = model.IsOvertaken before.cells.limits tries before.view after.view
Changes tries before after act (Err why) =
    model.HoldsAtPoint before.cells.limits before.view after.view [] (λ p. change_reply before act p ≡ Err why)
