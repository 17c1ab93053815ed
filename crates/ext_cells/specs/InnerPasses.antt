-- One pass over some cells, which reads each of them once and in order, and what is kept of their words. No public
-- contract cites it.
use Rattle.std.specs.Prelude.{◌≡◌, ◌⊎◌, ℕ, ◌^◌, ◌+◌, ◌/◌, ◌<◌, List, [], ◌∷◌, All, Option, None, Some, length, slice_index, sum_by, take}
use Rattle.ext_model.specs.declared.slot.Slot.{Slot}
use Rattle.ext_model.specs.History.{History, Limits, own, IsLegal}
use Rattle.ext_model.specs.CellWords.{number_code, slot_word, word_of}
use Rattle.ext_history.specs.Histories.{last_after, seen_by, Follow, moved}
use Rattle.ext_model.specs.CallActs.{LaneView}
use Rattle.ext_cells.specs.declared.nearest.Column.{Column}
use Rattle.ext_cells.specs.declared.nearest.EmptyCells.{EmptyCells}
use Rattle.ext_cells.specs.declared.nearest.Nearest.{Nearest}
use Rattle.ext_cells.specs.declared.nearest.Reading.{Reading}
use Rattle.ext_cells.specs.declared.standing.Standing.{Standing}
use Rattle.ext_cells.specs.WordChanges.{version_in, IsEmptyWord}
use Rattle.ext_cells.specs.CellCalls.{standing_of}
use Rattle.ext_cells.specs.InnerSteps.{Finds}
use Rattle.ext_cells.specs.InnerMarks.{bits_of}

-- Each word is its cell's at the front with which it was read.
abbrev pub EachRead : List ℕ → List ℕ → List History → Type 0
EachRead [] [] [] = Unit {0}
EachRead [] [] (f ∷ fs) = ⊥
EachRead [] (w ∷ ws) fs = ⊥
EachRead (c ∷ cs) [] fs = ⊥
EachRead (c ∷ cs) (w ∷ ws) [] = ⊥
EachRead (c ∷ cs) (w ∷ ws) (f ∷ fs) = (w ≡ word_of f c) × EachRead cs ws fs

pub record ReadPass (limits : Limits) (before after : LaneView) (cells words : List ℕ) : Type 0 where
  pub fronts : List History
  pub is : after ≡ moved before fronts
  pub follow : Follow (seen_by before) fronts
  pub legal : IsLegal limits (last_after (seen_by before) fronts)
  pub own_same : own before.number (last_after (seen_by before) fronts) ≡ own before.number (seen_by before)
  pub read : EachRead cells words fronts

-- ---- a column

-- So stand the marks of a column, behind so many cells and their count.
pub record IsColumn (cells : ℕ) (column : Column) : Type 0 where
  pub marks : column.marks ≡ cells + 16 + column.index / 32
  pub bits : column.bits ≡ bits_of column.index

-- ---- what is kept of the words

-- Whatever slot and version the word stands for, this is what stands there.
abbrev pub Says : ℕ → Option Standing → Type 0
Says word standing = (stands : Option Slot) (version : ℕ) → number_code stands < 2 ^ 20
    → word ≡ slot_word stands version → standing_of stands ≡ standing

-- The first of the words that says that anything stands.
pub record SaysFirst (words : List ℕ) (nearest : Nearest) : Type 0 where
  pub within : nearest.index < length words
  pub before : All IsEmptyWord (take nearest.index words)
  pub says : Says (slice_index words nearest.index) (Some nearest.standing)

abbrev pub IsFirstSaid : List ℕ → Option Nearest → Type 0
IsFirstSaid words None = All IsEmptyWord words
IsFirstSaid words (Some nearest) = SaysFirst words nearest

pub record IsReading (words : List ℕ) (reading : Reading) : Type 0 where
  pub count : reading.count ≡ length words
  pub versions : reading.versions ≡ sum_by version_in words
  pub nearest : IsFirstSaid words reading.nearest

-- ---- a pass that ends at the first cell where anything stands

-- How the pass ended: all cells were empty, or one more cell was read after the empty ones, and something stood there.
abbrev pub EndsAt : Limits → LaneView → LaneView → List ℕ → EmptyCells → Type 0
EndsAt limits before after cells empty =
    ((after ≡ before) × (empty.count ≡ length cells) × (empty.behind ≡ 0))
    ⊎ ((empty.count < length cells) × (¬ IsEmptyWord empty.behind)
    × ((h : History) × Finds limits before (slice_index cells empty.count) empty.behind h
    × (after ≡ moved before (h ∷ []))))

pub record FirstPass (limits : Limits) (before after : LaneView) (cells : List ℕ) (empty : EmptyCells) : Type 0 where
  pub between : LaneView
  pub words : List ℕ
  pub nothing : All IsEmptyWord words
  pub versions : empty.versions ≡ sum_by version_in words
  pub read : ReadPass limits before between (take empty.count cells) words
  pub ends : EndsAt limits between after cells empty
