-- Laws of the words that acts leave in cells, and of the numbers that lanes draw, each proved by `cell_laws`. The table
-- of words is `after_word` of `WordChanges`; ext_model has what one thread replies and what stands then.
use Rattle.std.specs.Prelude.{ℕ, ◌≡◌, ◌+◌, ◌≤◌, ◌<◌, ◌^◌, nat_eq, List, [], ◌∷◌, ◌++◌, Some, Result, Ok, Err, Contains, filter_map}
use Rattle.std.specs.List.{IsDistinct}
use Rattle.ext_model.specs.declared.event.Act.{Act}
use Rattle.ext_model.specs.Events as events
use Rattle.ext_model.specs.Events.{place_of, slot_after}
use Rattle.ext_model.specs.History.{History, Limits, by, drawn_number, state_after, version_of, reply_after, IsLegal}
use Rattle.ext_model.specs.CellWords.{slot_word, word_of}
use Rattle.ext_cells.specs.declared.cell_state.CellState.{CellState}
use Rattle.ext_cells.specs.declared.refusal.CellRefusal.{CellRefusal}
use Rattle.ext_cells.specs.declared.refusal.CellRefusal.TheVariants.{Busy, Closed, Exhausted}
use Rattle.ext_cells.specs.WordChanges.{word_with, after_word}

-- ---- the table of words

-- The table agrees with the reply of one thread. If the act happens, it gives the next word; if the act is refused for
-- what stands there or for the versions, it gives the same refusal. For other replies the table is not used: there is
-- nothing to do, a claim found a number, the claim is another lane's, or the act has no cell.
abbrev pub Agrees : events.Reply → Result ℕ CellRefusal → ℕ → Type 0
Agrees (events.Happens answer) said next = said ≡ Ok next
Agrees (events.Answers answer) said next = Unit {0}
Agrees (events.Refuses events.NumbersFull) said next = Unit {0}
Agrees (events.Refuses events.Busy) said next = said ≡ Err Busy
Agrees (events.Refuses events.Closed) said next = said ≡ Err Closed
Agrees (events.Refuses events.Exhausted) said next = said ≡ Err Exhausted
Agrees (events.Refuses (events.Standing number)) said next = Unit {0}
Agrees (events.Refuses (events.FaultStanding number)) said next = Unit {0}
Agrees (events.Refuses events.Barred) said next = Unit {0}

-- On each cell after each legal history the table agrees with one thread: if the act happens, the next word is that of
-- what it leaves there, at the next version.
abbrev pub TableFollowsReplies : Type 0
TableFollowsReplies =
    (limits : Limits) (h : History) (lane cell : ℕ) (act : Act ℕ) (state : CellState) (number version : ℕ)
    → limits.numbers < 2 ^ 20 → IsLegal limits h → place_of act ≡ Some cell → number < 2 ^ 20
    → word_of h cell ≡ word_with state number version
    → Agrees (reply_after limits h lane act) (after_word act state number version)
    (slot_word (slot_after lane act ((state_after h).slots cell)) (version_of h cell + 1))

-- The table's next word is the word that the cell has after the event.
abbrev pub TableFollowsEvents : Type 0
TableFollowsEvents =
    (limits : Limits) (h : History) (lane cell : ℕ) (act : Act ℕ) (state : CellState) (number version : ℕ)
    → limits.numbers < 2 ^ 20 → IsLegal limits h → place_of act ≡ Some cell → number < 2 ^ 20
    → word_of h cell ≡ word_with state number version
    → Agrees (reply_after limits h lane act) (after_word act state number version)
    (word_of (h ++ by lane act ∷ []) cell)

-- ---- numbers

-- The numbers that the events drew, in order.
abbrev pub numbers_drawn : History → List ℕ
numbers_drawn h = filter_map (λ e. drawn_number e.act) h

-- No number is drawn twice, by the same lane or another.
abbrev pub NumbersAreDrawnOnce : Type 0
NumbersAreDrawnOnce = (limits : Limits) (h : History) → IsLegal limits h → IsDistinct nat_eq (numbers_drawn h)

-- Each number drawn is one of the store's, from 1 to its limit.
abbrev pub NumbersAreFromOne : Type 0
NumbersAreFromOne = (limits : Limits) (h : History) (number : ℕ) → IsLegal limits h → Contains (numbers_drawn h) number
    → (1 ≤ number) × (number ≤ limits.numbers)
