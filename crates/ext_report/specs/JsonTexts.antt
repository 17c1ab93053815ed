-- A text of JSON as it is printed: U+007F, the control characters behind it and those that turn the direction of a text,
-- which JSON lets stand as they are, are escaped, as `\u009b`. So nothing in it is an order to a terminal. Such a
-- character stands in a string alone, and so the text reads back as it was (RFC 8259, section 7).
use Rattle.std.specs.Prelude.{ℕ, Bool, ◌||◌, codes, encode_utf8, false, nat_lt, List, [], ◌++◌, if◌then◌else◌}
use Rattle.std.specs.Fmt.{digits}
use Rattle.std.specs.List.{flat_map}
use Rattle.std.specs.Str.{chars}
use Rattle.ext_report.specs.TerminalLines.{is_among, is_direction}

-- It is escaped.
abbrev pub is_escaped : ℕ → Bool
is_escaped c = is_among 0x7F 0x9F c || is_direction c

-- What stands before the digits of its code, of which there are four in all.
abbrev pub zeros : ℕ → List ℕ
zeros c = if nat_lt c 256 then codes "00" else []

-- A character as it is printed.
abbrev pub json_character : ℕ → List ℕ
json_character c = if is_escaped c then codes "\\u" ++ (zeros c ++ digits 16 false c) else encode_utf8 c

-- A text as it is printed.
abbrev pub json_text : List ℕ → List ℕ
json_text text = flat_map json_character (chars text)
