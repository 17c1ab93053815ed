-- What contracts see of the cells and of a lane, and how both start. The fronts of a lane are those of `CallActs` in
-- ext_model: the history as it stood after each of its steps, oldest first.
use Rattle.std.specs.Prelude.{ℕ, zero, suc, ◌+◌, ◌*◌, ◌≤◌, List, [], ◌∷◌}
use Rattle.atomic_table.specs.Seated.{TableId}
use Rattle.ext_model.specs.History.{Limits}
use Rattle.ext_model.specs.CallActs.{LaneView}
use Rattle.ext_model.specs.Sizes.{most_contexts, most_lanes, most_numbers}
use Rattle.ext_model.specs.declared.size.Size.{Size}

-- The identity of the cells: their table, how many cells, lanes and numbers there are, and whether faults are kept.
pub record CellsId : Type 0 where
  pub table : TableId
  pub limits : Limits

-- The cells, and how many exchanges of a cell's word, or of the count of numbers, a call makes at most.
pub record CellsView : Type 0 where
  pub id : CellsId
  pub tries : ℕ

-- A lane: the cells to which it belongs, its number and its fronts.
pub record Lane : Type 0 where
  pub cells : CellsId
  pub view : LaneView

-- ---- opening

-- The limits of an opening of this size. There are enough cells for all its contexts with 1,024 keys each.
pub record AreLimits (size : Size) (cells lanes tries numbers : ℕ) : Type 0 where
  pub cells_fit : cells ≤ most_contexts size * 1024
  pub lanes_fit : (1 ≤ lanes) × (lanes ≤ most_lanes size)
  pub tries_fit : (1 ≤ tries) × (tries ≤ 64)
  pub numbers_fit : (1 ≤ numbers) × (numbers ≤ most_numbers size)

-- The lane with this number before its first step.
abbrev pub fresh_lane : CellsId → ℕ → Lane
fresh_lane id number = record { cells = id; view = record { number = number; fronts = [] } }

-- `more` lanes, numbered from `first` on.
abbrev pub fresh_lanes : CellsId → ℕ → ℕ → List Lane
fresh_lanes id first zero = []
fresh_lanes id first (suc more) = fresh_lane id first ∷ fresh_lanes id (first + 1) more
