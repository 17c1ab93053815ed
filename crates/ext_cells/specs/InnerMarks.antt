-- Marks: each cell has a word of its own, at its number; behind these is the count, and then, on other lines of the
-- cache, one word for each 32 cells, the word of their block. Bit 0 of that word is set once the block has ended, and a
-- further bit for each cell, its mark, once the cell stands at its word. No public contract cites it.
use Rattle.std.specs.Prelude.{ℕ, zero, suc, ◌+◌, ◌/◌, ◌%◌, ◌^◌, nat_eq, nat_lt, Bool, true, false, if◌then◌else◌, List, slice_index, Some, None}
use Rattle.std.specs.Int.{bit_at}
use Rattle.std.specs.Int.Bits.{bit_or}
use Rattle.ext_cells.specs.Standings.{Standing, At, Open, Ended}
use Rattle.ext_cells.specs.InnerLayouts.{Layout}

-- how many blocks so many cells have
abbrev pub block_count : ℕ → ℕ
block_count cells = (cells + 31) / 32

-- the index of a cell's block, of so many cells
abbrev pub block_index : ℕ → ℕ → ℕ
block_index cells cell = cells + 16 + cell / 32

-- ---- the word of a block

abbrev pub is_ended : ℕ → Bool
is_ended block = nat_eq (bit_at block 0) 1

abbrev pub end_of : ℕ → ℕ
end_of block = bit_or block 1

-- the bit of a cell's mark
abbrev pub mark_of : ℕ → ℕ
mark_of cell = cell % 32 + 1

-- this bit and that of the end
abbrev pub bits_of : ℕ → ℕ
bits_of cell = 2 ^ mark_of cell + 1

abbrev pub has_mark : ℕ → ℕ → Bool
has_mark block cell = nat_eq (bit_at block (mark_of cell)) 1

abbrev pub with_mark : ℕ → ℕ → ℕ
with_mark block cell = bit_or block (2 ^ mark_of cell)

-- ---- how cells stand

-- by the mark and the end
abbrev pub standing_by : Bool → Bool → ℕ → Standing
standing_by true ended cell = At cell
standing_by false true cell = Ended
standing_by false false cell = Open

-- by the word of the cell's block
abbrev pub standing_in : ℕ → ℕ → Standing
standing_in block cell = standing_by (has_mark block cell) (is_ended block) cell

abbrev pub stands : ℕ → List ℕ → ℕ → Standing
stands cells words cell = standing_in (slice_index words (block_index cells cell)) cell

-- the test holds of each number below
abbrev pub all_below : (ℕ → Bool) → ℕ → Bool
all_below test zero = true
all_below test (suc n) = if test n then all_below test n else false

-- a cell without a mark has word 0
abbrev pub is_bare : ℕ → List ℕ → ℕ → Bool
is_bare cells words cell = if has_mark (slice_index words (block_index cells cell)) cell then true
    else nat_eq (slice_index words cell) 0

-- Marks of so many cells
abbrev pub marks : ℕ → Layout
marks cells = record {
  width = cells + 16 + block_count cells;
  count = cells;
  is_block = λ index. nat_lt cells index;
  sound = λ words. all_below (is_bare cells words) cells;
  stands = stands cells;
  tells = λ index block cell. if nat_eq (block_index cells cell) index then Some (standing_in block cell) else None;
  marking = λ index block cell. with_mark block cell;
  end_of = end_of;
}
