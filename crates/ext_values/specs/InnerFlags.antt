-- Flags, one bit each, in words of 64.
use Rattle.std.specs.Prelude.{ℕ, ◌/◌, ◌%◌, ◌==◌, Bool, List, map, slice_index}
use Rattle.std.specs.Int.{bit_at}
use Rattle.std.specs.List.{range_with_len}

-- The flag with this index, from 0.
abbrev pub flag_at : List ℕ → ℕ → Bool
flag_at words index = bit_at (slice_index words (index / 64)) (index % 64) == 1

-- The first `count` flags of these words, in order.
abbrev pub flags_of : ℕ → List ℕ → List Bool
flags_of count words = map (λ index. flag_at words index) (range_with_len 0 count)
