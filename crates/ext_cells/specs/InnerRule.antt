-- The rule of the shared words: there is one legal history, the words are those of it in a layout, and each lane has
-- seen a part of it from its beginning. No public contract cites it.
use Rattle.std.specs.Prelude.{◌≡◌, ℕ, ◌+◌, ◌<◌, ◌≤◌, ◌^◌, nat_eq, true, Some, List, [], length, slice_index, Contains}
use Rattle.std.specs.List.{IsDistinct}
use mathlib.Core.Option.{some}
use mathlib.Core.List.{IsPrefix}
use lib.ListN.{get_elem?}
use Rattle.atomic_table.specs.Table.{State}
use Rattle.ext_model.specs.declared.event.Act.{Act}
use Rattle.ext_model.specs.History.{History, own, state_after, IsLegal}
use Rattle.ext_history.specs.Histories.{seen}
use Rattle.ext_cells.specs.declared.limits.CellLimits.{CellLimits}
use Rattle.ext_cells.specs.declared.view.View.{View}
use Rattle.ext_cells.specs.Standings.{At, AreCellsOf}
use Rattle.ext_cells.specs.InnerLayouts.{Layout}
use Rattle.ext_cells.specs.InnerViews.{limits_of}
use Rattle.ext_cells.specs.InnerTableSteps.{Counts}

-- a cell of the table stands at an index
pub record StandsAt (limits : CellLimits) (l : Layout) (words : List ℕ) (cell index : ℕ) : Type 0 where
  pub within : cell < limits.cells
  pub stands : l.stands words cell ≡ At index

-- the view has seen a part of the history, which has no event of its lane that it has not seen; and what it knows of
-- indices and of a block's word is so
pub record Fits (limits : CellLimits) (l : Layout) (words : List ℕ) (h : History) (v : View) : Type 0 where
  pub seen_is : IsPrefix (seen v.fronts) h
  pub told_is : IsPrefix v.told h
  -- a lane knows the limits, and its number is one of theirs
  pub limits_are : (n : ℕ) → v.lane ≡ Some n → v.limits ≡ limits
  pub lane_is : (n : ℕ) → v.lane ≡ Some n → n < limits.lanes
  pub own_is : (n : ℕ) → v.lane ≡ Some n → own n h ≡ own n (seen v.fronts)
  pub indexed_are : (cell index : ℕ) → Contains v.indexed (cell, index) → StandsAt limits l words cell index
  pub least_is : l.is_block v.block ≡ true → v.least ≤ slice_index words v.block

-- Lanes add to the count without looking, and may so find that no number was left. Each of these has seen that since,
-- and a lane adds only while it has not: so each did it once
pub record Beyond (limits : CellLimits) (views : List View) (count : ℕ) : Type 0 where
  pub lanes : List ℕ
  pub once : IsDistinct nat_eq lanes
  pub within : (n : ℕ) → Contains lanes n → n < limits.lanes
  pub reach : count ≤ limits.numbers + length lanes
  pub saw : (i : ℕ) (v : View) (n : ℕ) → get_elem? views i ≡ some v → v.lane ≡ Some n → Contains lanes n
      → limits.numbers ≤ (state_after (seen v.fronts)).drawn
  pub born : (i : ℕ) (v : View) (d n : ℕ) → get_elem? views i ≡ some v → v.given ≡ Some d → Contains lanes n → n < d

-- the rule over all words and views of a table that was made for these limits
pub record Kept (limits : CellLimits) (l : Layout) (s : State (Act ℕ) View) : Type 0 where
  pub history : History
  pub legal : IsLegal (limits_of limits) history
  pub wide : length s.words ≡ l.width
  pub sound : l.sound s.words ≡ true
  pub cells_are : AreCellsOf (limits_of limits) (l.stands s.words) history s.words
  pub few : limits.numbers + limits.lanes < 2 ^ 32
  pub count_is : Counts limits.numbers (slice_index s.words l.count) (state_after history).drawn
  pub beyond : Beyond limits s.views (slice_index s.words l.count)
  pub fits : (i : ℕ) (v : View) → get_elem? s.views i ≡ some v → Fits limits l s.words history v
  -- no two views have one number
  pub apart : (i j : ℕ) (v w : View) (n : ℕ) → get_elem? s.views i ≡ some v → get_elem? s.views j ≡ some w
      → v.lane ≡ Some n → w.lane ≡ Some n → i ≡ j
  -- one view alone has the count of lanes, which are no more than the limits say
  pub one_giver : (i j : ℕ) (v w : View) (d e : ℕ) → get_elem? s.views i ≡ some v → get_elem? s.views j ≡ some w
      → v.given ≡ Some d → w.given ≡ Some e → i ≡ j
  pub most : (i : ℕ) (v : View) (d : ℕ) → get_elem? s.views i ≡ some v → v.given ≡ Some d → d ≤ limits.lanes
  -- the numbers that views have are below it
  pub below : (i j : ℕ) (v w : View) (n d : ℕ) → get_elem? s.views i ≡ some v → get_elem? s.views j ≡ some w
      → v.lane ≡ Some n → w.given ≡ Some d → n < d
  -- a number that no view has yet has no event
  pub unborn : (i : ℕ) (v : View) (d n : ℕ) → get_elem? s.views i ≡ some v → v.given ≡ Some d → d ≤ n
      → own n history ≡ []
