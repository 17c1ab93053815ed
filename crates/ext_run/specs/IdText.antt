-- What is printed of an id: a line for each segment, with its type and its value, decoded and separated by a space, and
-- then the id as it is written. Of an id that is made of parts it is the id alone.
use Rattle.std.specs.Prelude.{ℕ, ◌==◌, codes, List, ◌++◌, map}
use Rattle.std.specs.List.{after_first, before_first, flat_map}
use Rattle.ext_ids.specs.Grammar.{Pair, id_text}

abbrev pub pair_line : Pair → List ℕ
pair_line p = p.0 ++ codes " " ++ p.1 ++ codes "\n"

abbrev pub id_line : List Pair → List ℕ
id_line pairs = id_text pairs ++ codes "\n"

abbrev pub id_lines : List Pair → List ℕ
id_lines pairs = flat_map pair_line pairs ++ id_text pairs ++ codes "\n"

-- ---- the parts that words have

-- `=`
abbrev pub equals : ℕ
equals = 61

-- The type is what stands before the first `=`, and the value what stands behind it. Of a word without one the type is
-- the whole word, and the value is empty.
abbrev pub part_of : List ℕ → Pair
part_of word = (before_first (λ b. b == equals) word, after_first (λ b. b == equals) word)

abbrev pub parts_of : List (List ℕ) → List Pair
parts_of words = map part_of words
