-- When two ids are equal, and which is the parent of which. Both go by the decoded parts, as JUnit's `UniqueId`
-- compares its segments.
use Rattle.std.specs.Prelude.{Bool, true, false, ◌&&◌, List, [], ◌∷◌}
use Rattle.std.specs.Str.{bytes_eq}
use Rattle.ext_ids.specs.Grammar.{Pair}

abbrev pub pair_eq : Pair → Pair → Bool
pair_eq p q = bytes_eq p.0 q.0 && bytes_eq p.1 q.1

-- The second id is the first with one more segment.
abbrev pub is_parent : List Pair → List Pair → Bool
is_parent [] [] = false
is_parent [] (y ∷ []) = true
is_parent [] (y ∷ z ∷ ys) = false
is_parent (x ∷ xs) [] = false
is_parent (x ∷ xs) (y ∷ ys) = pair_eq x y && is_parent xs ys
