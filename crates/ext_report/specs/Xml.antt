-- A text as it stands in XML 1.0, in an attribute or in an element: its characters one by one, in UTF-8.
--
-- The marks `&`, `<`, `>` and `"` are written as entities. So are a tab, a line feed and a carriage return, which a
-- parser would otherwise read from an attribute as spaces. What XML 1.0 forbids, which is the other characters below
-- U+0020, U+FFFE and U+FFFF, is written as U+FFFD: that stands for no text which a fault or an id may have, as an
-- escape in words would.
use Rattle.std.specs.Prelude.{ℕ, Bool, ◌==◌, ◌||◌, codes, encode_utf8, List, if◌then◌else◌, nat_lt}
use Rattle.std.specs.List.{flat_map}
use Rattle.std.specs.Str.{chars}

-- No XML 1.0 text has this character, unless it is a tab, a line feed or a carriage return.
abbrev pub is_forbidden : ℕ → Bool
is_forbidden c = nat_lt c 32 || (c == 0xFFFE) || (c == 0xFFFF)

-- The replacement character, U+FFFD.
abbrev pub replacement : ℕ
replacement = 0xFFFD

-- A character as it is written.
abbrev pub xml_character : ℕ → List ℕ
xml_character c =
    if c == 38 then codes "&amp;"
    else if c == 60 then codes "&lt;"
    else if c == 62 then codes "&gt;"
    else if c == 34 then codes "&quot;"
    else if c == 9 then codes "&#9;"
    else if c == 10 then codes "&#10;"
    else if c == 13 then codes "&#13;"
    else if is_forbidden c then encode_utf8 replacement
    else encode_utf8 c

-- A text as it is written.
abbrev pub xml_text : List ℕ → List ℕ
xml_text text = flat_map xml_character (chars text)
