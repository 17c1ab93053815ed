-- Laws of closed contexts and of second looks, each proved by `closing_laws`. JUnit 5 User Guide, "Keeping State in
-- Extensions", and Javadoc `ExtensionContext.Store.CloseableResource` say when contexts are closed; seals and second
-- looks are not from JUnit.
use Rattle.std.specs.Prelude.{ℕ, ◌≡◌, ◌<◌, List, [], ◌∷◌, ◌++◌, Contains, Option}
use Rattle.ext_model.specs.declared.event.Act.{Act}
use Rattle.ext_model.specs.declared.event.Act.TheVariants.{Claim}
use Rattle.ext_model.specs.declared.look.Look.{Look}
use Rattle.ext_model.specs.declared.slot.Slot.{Slot}
use Rattle.ext_model.specs.History.{History, Limits, slots_in, faults, IsQuiet, IsLegal}
use Rattle.ext_history.specs.Histories.{seen_by}
use Rattle.ext_model.specs.CallActs.{LaneView, LooksAgain, LookedAgain}
use Rattle.ext_model.specs.Closing.{IsClosed, remaining, IsRemaining}

-- The remaining numbers are exactly those that seals of the context keep, greatest first and each once.
abbrev pub RemainingIsSo : Type 0
RemainingIsSo = (slots : ℕ → Option Slot) (keys : ℕ) → IsRemaining slots keys (remaining slots keys)

-- A list with exactly these numbers, greatest first and each once, is `remaining`.
abbrev pub RemainingIsOne : Type 0
RemainingIsOne = (slots : ℕ → Option Slot) (keys : ℕ) (numbers : List ℕ) → IsRemaining slots keys numbers
    → numbers ≡ remaining slots keys

-- Nothing happens in a closed context. `cell_of` gives the cell of each of its keys.
abbrev pub NothingFollowsClose : Type 0
NothingFollowsClose =
    (limits : Limits) (h rest : History) (cell_of : ℕ → ℕ) (keys : ℕ)
    → IsLegal limits (h ++ rest) → IsClosed (slots_in cell_of h) keys → (key : ℕ) → key < keys
    → IsQuiet (cell_of key) rest

-- A closed context stays closed.
abbrev pub ClosedStaysClosed : Type 0
ClosedStaysClosed =
    (limits : Limits) (h rest : History) (cell_of : ℕ → ℕ) (keys : ℕ)
    → IsLegal limits (h ++ rest) → IsClosed (slots_in cell_of h) keys → IsClosed (slots_in cell_of (h ++ rest)) keys

-- The remaining numbers of a closed context stay the same.
abbrev pub RemainingStays : Type 0
RemainingStays =
    (limits : Limits) (h rest : History) (cell_of : ℕ → ℕ) (keys : ℕ)
    → IsLegal limits (h ++ rest) → IsClosed (slots_in cell_of h) keys
    → remaining (slots_in cell_of (h ++ rest)) keys ≡ remaining (slots_in cell_of h) keys

-- A remaining number is never that of a fault.
abbrev pub RemainingAreValues : Type 0
RemainingAreValues =
    (limits : Limits) (h : History) (cell_of : ℕ → ℕ) (keys number : ℕ)
    → IsLegal limits h → Contains (remaining (slots_in cell_of h) keys) number → ¬ (Contains (faults h) number)

-- A call's second look is in the history that the lane has seen, after its claim and before its next event.
abbrev pub SecondLooksStand : Type 0
SecondLooksStand =
    (cell_of : ℕ → ℕ) (path : List ℕ) (before after : LaneView) (acts : List (Act ℕ)) (cell : ℕ) (look : Look)
    → LooksAgain cell_of path before after (acts ++ Claim cell ∷ []) look
    → LookedAgain cell_of path before.number cell (seen_by after) look
