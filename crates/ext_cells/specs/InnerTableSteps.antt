-- What each step of a lane asks, and what it tells. A step that shows a history adds a front; one that only leads to a
-- cell adds none. No public contract cites it.
use Rattle.std.specs.Prelude.{◌≡◌, ◌≢◌, ℕ, ◌+◌, ◌<◌, ◌≤◌, ◌⊎◌, true, Some, List, [], ◌∷◌, ◌++◌, unwrap_or, Contains}
use mathlib.Core.Option.{some}
use mathlib.Core.List.{IsPrefix}
use Rattle.atomic_table.specs.Table.{Me, Step}
use Rattle.ext_model.specs.declared.event.Act.{Act}
use Rattle.ext_model.specs.declared.event.Act.TheVariants.{Keep}
use Rattle.ext_model.specs.Events.{place_of}
use Rattle.ext_model.specs.Closing.{IsSealedUnused}
use Rattle.ext_model.specs.History.{History, Limits, by, own, state_after, IsAllowed, IsLegal}
use Rattle.ext_model.specs.CellWords.{word_of}
use Rattle.ext_history.specs.Histories.{seen}
use Rattle.ext_cells.specs.declared.view.View.{View}
use Rattle.ext_cells.specs.Standings.{Standing, At, Open, Ended, ended_word, seals, MayEnd}
use Rattle.ext_cells.specs.InnerLayouts.{Layout}
use Rattle.ext_cells.specs.InnerViews.{limits_of, shown, led, sought}

-- ---- words

-- How many numbers were drawn, by the count: it may be beyond the limit
pub record Counts (numbers count drawn : ℕ) : Type 0 where
  pub left : count < numbers → drawn ≡ count
  pub full : numbers ≤ count → drawn ≡ numbers

-- The word of a cell after a history, or at the number behind those of the cells how many numbers were drawn
pub record IsWordAt (limits : Limits) (h : History) (aim word : ℕ) : Type 0 where
  pub cell : aim < limits.cells → word ≡ word_of h aim
  pub count : aim ≡ limits.cells → word ≡ (state_after h).drawn

-- the one word that an act changes: that of its cell, or for a keep the count
abbrev pub index_in : Limits → Act ℕ → ℕ
index_in limits act = unwrap_or (place_of act) limits.cells

-- a step found this history, and in it this word
pub record FoundBy (v : View) (aim word : ℕ) (h : History) : Type 0 where
  pub legal : IsLegal (limits_of v.limits) h
  pub begins : IsPrefix (seen v.fronts) h
  pub told : IsPrefix v.told h
  pub word_is : IsWordAt (limits_of v.limits) h aim word
  pub lane_is : (n : ℕ) → v.lane ≡ Some n → n < v.limits.lanes
  pub own_is : (n : ℕ) → v.lane ≡ Some n → own n h ≡ own n (seen v.fronts)

-- ---- a word whose index is known

-- a cell that has an index has this one
abbrev pub OnlyAt : Layout → ℕ → ℕ → Type 0
OnlyAt l cell index = (words : List ℕ) (at : ℕ) → l.sound words ≡ true → l.stands words cell ≡ At at → at ≡ index

-- How a seat knows where the word of a cell is: a step led there; or the cell has had an event, and not just the seal of
-- an end, and has no other index
pub data IsKnown (l : Layout) (v : View) (aim index : ℕ) : Type 0 where
  by_index : Contains v.indexed (aim, index) → IsKnown l v aim index
  by_use : OnlyAt l aim index → aim < v.limits.cells → word_of (seen v.fronts) aim ≢ 0
      → word_of (seen v.fronts) aim ≢ ended_word → IsKnown l v aim index

-- the step found a history with this word, left it as it was, and showed it
abbrev pub Shows : ℕ → ℕ → Me (Act ℕ) View → Me (Act ℕ) View → Type 0
Shows aim word me after = (h : History) × FoundBy me.0 aim word h × (after ≡ (shown me.0 h, me.1))

-- as a load does
abbrev pub Loaded : ℕ → Step (Act ℕ) → Me (Act ℕ) View → ℕ → Me (Act ℕ) View → Type 0
Loaded aim s me found after = Shows aim found me after

-- ---- the count

-- a load of the count
abbrev pub CountLoaded : Me (Act ℕ) View → ℕ → Me (Act ℕ) View → Type 0
CountLoaded me found after = (drawn : ℕ) × Counts me.0.limits.numbers found drawn × Shows me.0.limits.cells drawn me after

-- an addition to it draws the next number, or finds that none was left
pub record Drawn (me : Me (Act ℕ) View) (found : ℕ) (after : Me (Act ℕ) View) : Type 0 where
  pub drew : found < me.0.limits.numbers → (lane : ℕ) → me.0.lane ≡ Some lane
      → (h : History) × FoundBy me.0 me.0.limits.cells found h
      × IsAllowed (limits_of me.0.limits) h (by lane (Keep (found + 1)))
      × (after ≡ (shown me.0 (h ++ by lane (Keep (found + 1)) ∷ []), me.1))
  pub full : me.0.limits.numbers ≤ found → Shows me.0.limits.cells me.0.limits.numbers me after

-- ---- an exchange

-- wherever the word is the old one, the lane may make the act, which leaves the new word
pub record MayExchange (v : View) (lane : ℕ) (act : Act ℕ) (aim old new : ℕ) : Type 0 where
  pub lane_is : v.lane ≡ Some lane
  pub here : aim ≡ index_in (limits_of v.limits) act
  pub within : aim ≤ v.limits.cells
  pub allowed : (h : History) → FoundBy v aim old h → IsAllowed (limits_of v.limits) h (by lane act)
  pub leaves : (h : History) → FoundBy v aim old h → IsWordAt (limits_of v.limits) (h ++ by lane act ∷ []) aim new

-- an exchange that finds another word is a load; else the history goes on by the act that was announced
abbrev pub Exchanged : ℕ → Step (Act ℕ) → Me (Act ℕ) View → ℕ → Me (Act ℕ) View → Type 0
Exchanged aim s me found after =
    (found ≢ s.first → Loaded aim s me found after)
    × (found ≡ s.first
    → (lane : ℕ) (act : Act ℕ) → me.0.lane ≡ Some lane → s.said ≡ some act
    → (h : History) × FoundBy me.0 aim found h × IsAllowed (limits_of me.0.limits) h (by lane act)
    × (after ≡ (shown me.0 (h ++ by lane act ∷ []), me.1)))

-- ---- a block's word

-- What a load of a block's word tells who wants to read a cell: the cell's index, without a front; or its word, as a
-- load of it would
abbrev pub LedTo : ℕ → Standing → Me (Act ℕ) View → Me (Act ℕ) View → Type 0
LedTo cell (At index) me after = after ≡ (led me.0 cell index, me.1)
LedTo cell Open me after = Shows cell 0 me after
LedTo cell Ended me after = Shows cell ended_word me after

abbrev pub Led : Layout → ℕ → Step (Act ℕ) → Me (Act ℕ) View → ℕ → Me (Act ℕ) View → Type 0
Led l cell s me found after = (standing : Standing) → l.tells s.word found cell ≡ Some standing
    → LedTo cell standing me after

-- What it tells who wants to give the cell its mark: of an open cell nothing but itself, and it shows no history then
abbrev pub SoughtBy : ℕ → Standing → ℕ → ℕ → Me (Act ℕ) View → Me (Act ℕ) View → Type 0
SoughtBy cell (At index) block found me after = after ≡ (led me.0 cell index, me.1)
SoughtBy cell Open block found me after = after ≡ (sought me.0 block found, me.1)
SoughtBy cell Ended block found me after = Shows cell ended_word me after

abbrev pub Sought : Layout → ℕ → Step (Act ℕ) → Me (Act ℕ) View → ℕ → Me (Act ℕ) View → Type 0
Sought l cell s me found after = (standing : Standing) → l.tells s.word found cell ≡ Some standing
    → SoughtBy cell standing s.word found me after

-- An exchange that gives an open cell its mark, which the block's new word tells, and shows no history. If it finds
-- another word it is such a load, and that word is not below the one that the seat knows
abbrev pub Marked : Layout → ℕ → Step (Act ℕ) → Me (Act ℕ) View → ℕ → Me (Act ℕ) View → Type 0
Marked l cell s me found after =
    (found ≢ s.first → Sought l cell s me found after × (me.0.block ≡ s.word → me.0.least ≤ found))
    × (found ≡ s.first → (index : ℕ) × (l.tells s.word s.second cell ≡ Some (At index))
    × (after ≡ (led me.0 cell index, me.1)))

-- ---- the end of a block

-- What a lane is told by the end of a block at an index, where it found this word: the history, and the cells that it
-- sealed at this one step, each of which never had an event. They are those that the word told to be open; and each
-- cell that it told to be open or ended has ended then
pub record EndOf (l : Layout) (me after : Me (Act ℕ) View) (lane index found : ℕ) : Type 0 where
  pub history : History
  pub cells : List ℕ
  pub legal : IsLegal (limits_of me.0.limits) history
  pub begins : IsPrefix (seen me.0.fronts) history
  pub told : IsPrefix me.0.told history
  pub lane_is : lane < me.0.limits.lanes
  pub own_is : own lane history ≡ own lane (seen me.0.fronts)
  pub may : MayEnd (limits_of me.0.limits) history cells
  pub opened : (cell : ℕ) → Contains cells cell → l.tells index found cell ≡ Some Open
  pub all : (cell : ℕ) → cell < me.0.limits.cells → l.tells index found cell ≡ Some Open → Contains cells cell
  pub ended : (cell : ℕ) → cell < me.0.limits.cells → (l.tells index found cell ≡ Some Open)
      ⊎ (l.tells index found cell ≡ Some Ended) → IsSealedUnused (history ++ seals lane cells) cell
  pub after_is : after ≡ (shown me.0 (history ++ seals lane cells), me.1)

abbrev pub EndedBy : Layout → Step (Act ℕ) → Me (Act ℕ) View → ℕ → Me (Act ℕ) View → Type 0
EndedBy l s me found after = (lane : ℕ) → me.0.lane ≡ Some lane → EndOf l me after lane s.word found
