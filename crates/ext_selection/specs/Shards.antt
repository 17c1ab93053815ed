-- The parts of a suite. In which part a test stands depends on its id alone, so that it is the same on each machine and
-- stays so when tests are added. An own rule.
use Rattle.std.specs.Prelude.{◌≡◌, ℕ, ◌+◌, ◌%◌, ◌<◌, ◌==◌, Bool, true, List, length, Option, Some, None}
use Rattle.std.specs.List.{before_first, after_first, position_or_len}
use Rattle.std.specs.Str.Parse.{IsNumeral, digits_value, without_leading_plus}
use Rattle.ext_selection.specs.Hashing.{text_number}
use Rattle.ext_selection.specs.declared.shards.Shard.{Shard}

-- The part, of so many, of the test whose id is written so.
abbrev pub part_in : ℕ → List ℕ → ℕ
part_in count id = text_number id % count + 1

abbrev pub is_in : Option Shard → List ℕ → Bool
is_in None id = true
is_in (Some shard) id = part_in shard.count id == shard.part

-- The text is this number in decimal digits, with a plus sign before them or none.
pub record IsDecimal (text : List ℕ) (n : ℕ) : Type 0 where
  pub numeral : IsNumeral 10 (without_leading_plus text)
  pub value : digits_value 10 (without_leading_plus text) ≡ n

-- In ASCII 47 is `/`.
abbrev pub is_slash : ℕ → Bool
is_slash c = c == 47

-- The text is two numbers with a `/` between them.
pub record ReadsShard (text : List ℕ) (part count : ℕ) : Type 0 where
  pub slash : position_or_len is_slash text < length text
  pub first : IsDecimal (before_first is_slash text) part
  pub last : IsDecimal (after_first is_slash text) count
