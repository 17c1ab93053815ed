-- How a cell stands: at an index of the table, which has its word; or nowhere yet; or nowhere for good, because its
-- block has ended. And what the end of a block is: the seals of cells that never had an event. How the words of a table
-- say how a cell stands is `stands`, any function here.
use Rattle.std.specs.Prelude.{◌≡◌, ℕ, ◌+◌, ◌<◌, ◌^◌, nat_eq, List, map, slice_index, Contains}
use Rattle.std.specs.List.{IsDistinct}
use Rattle.ext_model.specs.declared.event.Act.TheVariants.{Seal}
use Rattle.ext_model.specs.Closing.{IsSealedUnused}
use Rattle.ext_model.specs.History.{History, Limits, version_of}
use Rattle.ext_model.specs.CallActs.{events_by}
use Rattle.ext_model.specs.CellWords.{word_of}

pub data Standing : Type 0 where
  At : ℕ → Standing
  Open : Standing
  Ended : Standing

-- the word of a cell whose one event is the seal of nothing
abbrev pub ended_word : ℕ
ended_word = 2 ^ 24 + 3

-- what the history has of a cell that stands so
abbrev pub IsCellAt : History → List ℕ → ℕ → Standing → Type 0
IsCellAt h words cell (At index) = slice_index words index ≡ word_of h cell
IsCellAt h words cell Open = version_of h cell ≡ 0
IsCellAt h words cell Ended = IsSealedUnused h cell

-- the word of a cell that stands so
abbrev pub told_word : List ℕ → Standing → ℕ
told_word words (At index) = slice_index words index
told_word words Open = 0
told_word words Ended = ended_word

-- each cell is as it stands, and no two stand at one index
pub record AreCellsOf (limits : Limits) (stands : ℕ → Standing) (h : History) (words : List ℕ) : Type 0 where
  pub each : (cell : ℕ) → cell < limits.cells → IsCellAt h words cell (stands cell)
  pub apart : (cell other index : ℕ) → cell < limits.cells → other < limits.cells → stands cell ≡ At index
      → stands other ≡ At index → cell ≡ other

-- the seals of these cells by one lane, in their order
abbrev pub seals : ℕ → List ℕ → History
seals lane cells = events_by lane (map Seal cells)

-- the cells may be sealed by the end of a block: they are of the table, none is named twice, and none ever had an event
pub record MayEnd (limits : Limits) (h : History) (cells : List ℕ) : Type 0 where
  pub distinct : IsDistinct nat_eq cells
  pub within : (cell : ℕ) → Contains cells cell → cell < limits.cells
  pub unused : (cell : ℕ) → Contains cells cell → version_of h cell ≡ 0
