-- A layout: how the words of a table say where each cell stands. The words of blocks lead to cells, and a block's word
-- may change in two ways: a cell gets its mark, and the block ends. The other words are those of cells, each at its
-- index, and the count of numbers drawn. No public contract cites it.
use Rattle.std.specs.Prelude.{◌≡◌, ◌≢◌, Bool, true, false, ℕ, ◌<◌, ◌≤◌, ◌⊎◌, nat_eq, List, slice_index, slice_set, length, replicate, Contains, Option, Some}
use Rattle.std.specs.List.{IsDistinct}
use Rattle.ext_model.specs.History.{Limits}
use Rattle.ext_cells.specs.Standings.{Standing, At, Open, Ended}

pub record Layout : Type 0 where
  -- how many words the table has, the index of the count, and which indices are those of blocks' words
  pub width : ℕ
  pub count : ℕ
  pub is_block : ℕ → Bool
  -- what is true of the words between any two steps, whatever the history is
  pub sound : List ℕ → Bool
  -- how a cell stands
  pub stands : List ℕ → ℕ → Standing
  -- what the word of the block at an index tells of a cell by itself: index, word and cell
  pub tells : ℕ → ℕ → ℕ → Option Standing
  -- that word once the cell has its mark,
  pub marking : ℕ → ℕ → ℕ → ℕ
  -- and a block's word once it has ended
  pub end_of : ℕ → ℕ

-- A block's word gives an open cell an index: one where no cell stands, and whose word is 0
pub record IsMarking (limits : Limits) (l : Layout) (words : List ℕ) (index cell : ℕ) (later : List ℕ) : Type 0 where
  pub index_is : ℕ
  pub stands : l.stands later cell ≡ At index_is
  pub told : l.tells index (slice_index later index) cell ≡ Some (At index_is)
  pub empty : slice_index words index_is ≡ 0
  pub free : (other : ℕ) → other < limits.cells → l.stands words other ≡ At index_is → ⊥
  pub others : (other : ℕ) → other < limits.cells → (other ≡ cell) ⊎ (l.stands later other ≡ l.stands words other)
  pub within : (index_is < l.width) × (l.is_block index_is ≡ false)
  pub grows : slice_index words index ≤ slice_index later index
  pub sound : l.sound later ≡ true

-- A block ends: those of its cells that are open have ended then, and these are just the ones of which its word told so
pub record IsEnding (limits : Limits) (l : Layout) (words : List ℕ) (index : ℕ) (later : List ℕ) : Type 0 where
  pub cells : List ℕ
  pub distinct : IsDistinct nat_eq cells
  pub within : (cell : ℕ) → Contains cells cell → cell < limits.cells
  pub told : (cell : ℕ) → Contains cells cell → l.tells index (slice_index words index) cell ≡ Some Open
  pub all : (cell : ℕ) → cell < limits.cells → l.tells index (slice_index words index) cell ≡ Some Open
      → Contains cells cell
  pub each : (cell : ℕ) → cell < limits.cells → (Contains cells cell × (l.stands later cell ≡ Ended))
      ⊎ ((Contains cells cell → ⊥) × (l.stands later cell ≡ l.stands words cell))
  pub grows : slice_index words index ≤ slice_index later index
  pub sound : l.sound later ≡ true

pub record IsLayout (limits : Limits) (l : Layout) : Type 0 where
  -- where all words are 0 each cell is open
  pub opening : l.sound (replicate l.width 0) ≡ true
  pub all_open : (cell : ℕ) → cell < limits.cells → l.stands (replicate l.width 0) cell ≡ Open
  -- no cell stands at the count or at a block's word
  pub count_is : (l.count < l.width) × (l.is_block l.count ≡ false)
  pub indices : (words : List ℕ) (cell at : ℕ) → l.sound words ≡ true → cell < limits.cells
      → l.stands words cell ≡ At at → (at < l.width) × (l.is_block at ≡ false) × (at ≢ l.count)
  -- blocks' words alone say how cells stand, and each by itself says it truly
  pub steady : (words : List ℕ) (at next cell : ℕ) → l.is_block at ≡ false
      → l.stands (slice_set words at next) cell ≡ l.stands words cell
  pub told : (words : List ℕ) (index cell : ℕ) (standing : Standing) → l.sound words ≡ true → cell < limits.cells
      → l.tells index (slice_index words index) cell ≡ Some standing → l.stands words cell ≡ standing
  -- the word of a cell, and the count, may be any
  pub changes : (words : List ℕ) (cell at next : ℕ) → l.sound words ≡ true → cell < limits.cells
      → l.stands words cell ≡ At at → l.sound (slice_set words at next) ≡ true
  pub draws : (words : List ℕ) (next : ℕ) → l.sound words ≡ true → l.sound (slice_set words l.count next) ≡ true
  -- the two changes of a block's word
  pub marking : (words : List ℕ) (index cell : ℕ) → l.sound words ≡ true → length words ≡ l.width → index < l.width
      → l.is_block index ≡ true → cell < limits.cells
      → l.tells index (slice_index words index) cell ≡ Some Open
      → IsMarking limits l words index cell (slice_set words index (l.marking index (slice_index words index) cell))
  pub ending : (words : List ℕ) (index : ℕ) → l.sound words ≡ true → length words ≡ l.width → index < l.width
      → l.is_block index ≡ true
      → IsEnding limits l words index (slice_set words index (l.end_of (slice_index words index)))
