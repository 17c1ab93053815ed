-- Names of shared texts: what names a file in each folder, and none of those that lie beside it. An own rule.
use Rattle.std.specs.Prelude.{ℕ, ◌==◌, ◌&&◌, ◌||◌, nat_le, Bool, List, length}
use Rattle.std.specs.List.{list_all}
use Rattle.std.specs.Char.{is_ascii_alphanumeric}

-- A letter, a digit, or in ASCII 45 `-` and 95 `_`.
abbrev pub is_name_byte : ℕ → Bool
is_name_byte c = (is_ascii_alphanumeric c || c == 45) || c == 95

abbrev pub is_text_name : List ℕ → Bool
is_text_name name = (nat_le 1 (length name) && nat_le (length name) 64) && list_all is_name_byte name
