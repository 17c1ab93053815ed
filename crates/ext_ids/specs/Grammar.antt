-- Which texts are ids, and of which pairs of a type and a value:
--
--     id      = segment { "/" segment }        1 to 16 segments
--     segment = "[" part ":" part "]"
--     part    = one or more items
--     item    = any character but % + [ ] : /
--             | "%25" | "%2B" | "%5B" | "%5D" | "%3A" | "%2F"
--
-- The form is that of `UniqueId` (Javadoc of the JUnit Platform). The limit of 16 segments is not from JUnit, nor is it
-- that no other spelling is accepted. Texts are bytes in UTF-8. A character past ASCII stands for itself, and none of
-- its bytes is a mark (`SpellsCharacters` of `SpellingLaws`).
use Rattle.std.specs.Prelude.{ℕ, ◌≡◌, ◌≢◌, ◌≤◌, ◌<◌, ◌==◌, ◌&&◌, if◌then◌else◌, List, [], ◌∷◌, ◌++◌, length, codes, Option, Some, None}
use Rattle.std.specs.List.{flat_map, AllByRecursion}

-- A type and a value, decoded.
abbrev pub Pair : Type 0
Pair = List ℕ × List ℕ

-- The six marks, which stand in a part only as escapes.
abbrev pub percent : ℕ
percent = 37

abbrev pub plus : ℕ
plus = 43

abbrev pub left_bracket : ℕ
left_bracket = 91

abbrev pub right_bracket : ℕ
right_bracket = 93

abbrev pub colon : ℕ
colon = 58

abbrev pub slash : ℕ
slash = 47

-- A character as it is written: a mark by its escape, any other by itself.
abbrev pub spelled : ℕ → List ℕ
spelled c =
    if c == percent then codes "%25"
    else if c == plus then codes "%2B"
    else if c == left_bracket then codes "%5B"
    else if c == right_bracket then codes "%5D"
    else if c == colon then codes "%3A"
    else if c == slash then codes "%2F"
    else c ∷ []

-- The mark that the two digits after a `%` stand for, which are 25, 2B, 5B, 5D, 3A or 2F. In ASCII 50, 51 and 53 are
-- the digits 2, 3 and 5, and 65, 66, 68 and 70 the letters A, B, D and F.
abbrev pub escape_of : List ℕ → Option ℕ
escape_of [] = None
escape_of (h ∷ []) = None
escape_of (h ∷ l ∷ rest) =
    if (h == 50) && (l == 53) then Some percent
    else if (h == 50) && (l == 66) then Some plus
    else if (h == 53) && (l == 66) then Some left_bracket
    else if (h == 53) && (l == 68) then Some right_bracket
    else if (h == 51) && (l == 65) then Some colon
    else if (h == 50) && (l == 70) then Some slash
    else None

-- A part as it is written.
abbrev pub part_text : List ℕ → List ℕ
part_text part = flat_map spelled part

-- A segment as it is written: `[`, the type, `:`, the value, `]`.
abbrev pub segment_text : Pair → List ℕ
segment_text p = left_bracket ∷ (part_text p.0 ++ (colon ∷ (part_text p.1 ++ (right_bracket ∷ []))))

-- A segment after the first, with the `/` before it.
abbrev pub further_text : Pair → List ℕ
further_text p = slash ∷ segment_text p

-- An id as it is written: its segments, separated by `/`.
abbrev pub id_text : List Pair → List ℕ
id_text [] = []
id_text (p ∷ ps) = segment_text p ++ flat_map further_text ps

-- Neither the type nor the value is empty.
abbrev pub IsFilled : Pair → Type 0
IsFilled p = (p.0 ≢ []) × (p.1 ≢ [])

-- The pairs make an id: there are 1 to 16, and no part is empty.
pub record IsId (pairs : List Pair) : Type 0 where
  pub some : 0 < length pairs
  pub few : length pairs ≤ 16
  pub filled : AllByRecursion IsFilled pairs

-- The text spells the id of these pairs.
pub record IsIdText (text : List ℕ) (pairs : List Pair) : Type 0 where
  pub id : IsId pairs
  pub spells : text ≡ id_text pairs

-- The text spells a part that is not empty. Only contracts within the crate cite it.
pub record IsPartText (text : List ℕ) : Type 0 where
  pub part : List ℕ
  pub some : part ≢ []
  pub spells : text ≡ part_text part
