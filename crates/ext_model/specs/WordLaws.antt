-- Laws of cells' words and of the versions in them, each proved by `word_laws`. A cell with the same word in two
-- readings had no event between them, so two equal readings of several words show one moment. Versions rise with
-- events, so many unequal readings mean many events.
use Rattle.std.specs.Prelude.{ℕ, ◌≡◌, ◌≢◌, ◌+◌, ◌≤◌, ◌<◌, ◌^◌, nat_eq, true, false, List, [], ◌∷◌, ◌++◌, length, sum_by, Contains, Some}
use Rattle.std.specs.List.{IsDistinct}
use Rattle.ext_model.specs.declared.event.Event.{Event}
use Rattle.ext_model.specs.declared.slot.Slot.TheVariants.{Claim}
use Rattle.ext_model.specs.Events.{slot_after, drawn_after, is_on}
use Rattle.ext_model.specs.History.{History, Limits, state_after, version_of, IsQuiet, IsLegal}
use Rattle.ext_model.specs.CellWords.{number_code, word, slot_word, word_of}
use Rattle.ext_model.specs.Allowed.{IsOpen}

-- ---- one event

-- The cell of an event gets what the act leaves, and the next version.
abbrev pub EventChangesItsWord : Type 0
EventChangesItsWord =
    (h : History) (e : Event ℕ) (cell : ℕ)
    → is_on nat_eq cell e.act ≡ true
    → word_of (h ++ e ∷ []) cell ≡ slot_word (slot_after e.lane e.act ((state_after h).slots cell))
    (version_of h cell + 1)

-- Every other cell keeps its word.
abbrev pub OtherWordsStay : Type 0
OtherWordsStay = (h : History) (e : Event ℕ) (cell : ℕ) → is_on nat_eq cell e.act ≡ false
    → word_of (h ++ e ∷ []) cell ≡ word_of h cell

-- The count of numbers drawn changes as the act says.
abbrev pub CountChangesByAct : Type 0
CountChangesByAct = (h : History) (e : Event ℕ)
    → (state_after (h ++ e ∷ [])).drawn ≡ drawn_after e.act (state_after h).drawn

-- ---- several events

-- A cell on which no event is keeps its word, and what stands there.
abbrev pub QuietCellsKeepWords : Type 0
QuietCellsKeepWords = (h rest : History) (cell : ℕ) → IsQuiet cell rest → word_of (h ++ rest) cell ≡ word_of h cell

abbrev pub QuietCellsStay : Type 0
QuietCellsStay = (h rest : History) (cell : ℕ) → IsQuiet cell rest
    → (state_after (h ++ rest)).slots cell ≡ (state_after h).slots cell

-- If a cell has the same word in a legal history and in a prefix of it, no event between the two is on it.
abbrev pub EqualWordsLeaveNoEvent : Type 0
EqualWordsLeaveNoEvent =
    (limits : Limits) (h rest : History) (cell : ℕ)
    → limits.numbers < 2 ^ 20 → IsLegal limits (h ++ rest) → word_of (h ++ rest) cell ≡ word_of h cell
    → IsQuiet cell rest

-- If a cell has the same word in both, it has that word at every point between.
abbrev pub WordsBetweenAreEqual : Type 0
WordsBetweenAreEqual =
    (limits : Limits) (h between rest : History) (cell : ℕ)
    → limits.numbers < 2 ^ 20 → IsLegal limits (h ++ between ++ rest)
    → word_of (h ++ between ++ rest) cell ≡ word_of h cell → word_of (h ++ between) cell ≡ word_of h cell

-- The versions of different cells together rise by at most one for each event.
abbrev pub VersionsRiseWithEvents : Type 0
VersionsRiseWithEvents = (h rest : History) (places : List ℕ) → IsDistinct nat_eq places
    → sum_by (version_of (h ++ rest)) places ≤ sum_by (version_of h) places + length rest

-- If the word of one of several cells has changed, the sum of their versions has risen.
abbrev pub UnequalWordsRaiseVersions : Type 0
UnequalWordsRaiseVersions =
    (h rest : History) (places : List ℕ) (cell : ℕ)
    → Contains places cell → word_of (h ++ rest) cell ≢ word_of h cell
    → sum_by (version_of h) places + 1 ≤ sum_by (version_of (h ++ rest)) places

-- ---- what fits into a word

-- A word determines its state, number and version.
abbrev pub WordsTellParts : Type 0
WordsTellParts =
    (state number version state' number' version' : ℕ)
    → state < 16 → state' < 16 → number < 2 ^ 20 → number' < 2 ^ 20
    → word state number version ≡ word state' number' version'
    → (state ≡ state') × (number ≡ number') × (version ≡ version')

-- The number in a word is one of the store's, or 0.
abbrev pub NumbersFit : Type 0
NumbersFit = (limits : Limits) (h : History) (cell : ℕ) → IsLegal limits h
    → number_code ((state_after h).slots cell) ≤ limits.numbers

-- Versions are below 2 ^ 40.
abbrev pub VersionsFit : Type 0
VersionsFit = (limits : Limits) (h : History) (cell : ℕ) → IsLegal limits h → version_of h cell < 2 ^ 40

-- A claimed cell has two versions left: one for the fill, fail or abandon, and one for the seal.
abbrev pub ClaimsCanEnd : Type 0
ClaimsCanEnd = (limits : Limits) (h : History) (lane cell : ℕ) → IsLegal limits h
    → (state_after h).slots cell ≡ Some (Claim lane) → version_of h cell + 2 < 2 ^ 40

-- A cell that is neither claimed nor sealed has one left for the seal.
abbrev pub CellsCanBeSealed : Type 0
CellsCanBeSealed = (limits : Limits) (h : History) (cell : ℕ) → IsLegal limits h → IsOpen ((state_after h).slots cell)
    → version_of h cell + 1 < 2 ^ 40
