-- A text of JSON as it can stand in a page: of ASCII alone, without `<` and U+007F, so that nothing in it ends the
-- script that holds it. Where such a character stood, which is within a string, stands its escape: `<`, or two
-- of them above U+FFFF. So it reads back as it was.
use Rattle.std.specs.Prelude.{ℕ, ◌+◌, ◌/◌, ◌%◌, ◌==◌, ◌&&◌, not, codes, encode_utf8, false, nat_lt, ◌-◌, List, [], ◌++◌, if◌then◌else◌}
use Rattle.std.specs.List.{flat_map}
use Rattle.std.specs.Fmt.{digits}
use Rattle.std.specs.Str.{chars}

-- What stands before the digits of a unit, of which there are four in all.
abbrev pub zeros : ℕ → List ℕ
zeros unit =
    if nat_lt unit 16 then codes "000"
    else if nat_lt unit 256 then codes "00"
    else if nat_lt unit 4096 then codes "0"
    else []

-- A unit of UTF-16.
abbrev pub unit_text : ℕ → List ℕ
unit_text unit = codes "\\u" ++ (zeros unit ++ digits 16 false unit)

-- A character above U+FFFF, by its distance from there.
abbrev pub pair_text : ℕ → List ℕ
pair_text rest = unit_text (55296 + rest / 1024) ++ unit_text (56320 + rest % 1024)

abbrev pub ascii_character : ℕ → List ℕ
ascii_character c =
    if not (c == 60) && nat_lt c 127 then encode_utf8 c
    else if nat_lt c 65536 then unit_text c
    else pair_text (c - 65536)

abbrev pub ascii : List ℕ → List ℕ
ascii text = flat_map ascii_character (chars text)
