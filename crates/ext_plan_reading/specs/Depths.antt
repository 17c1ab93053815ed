-- How far up callbacks around tests may act. They run in the context of each test at or below their node, so the test
-- nearest the root decides.
use Rattle.std.specs.Prelude.{ℕ, min, fold, Bool, true, false, ◌&&◌, List, [], ◌∷◌, length, if◌then◌else◌}
use Rattle.ext_ids.specs.Ids.{pair_eq}
use Rattle.ext_tree.specs.Trees.{Id}

-- The second id is the first, or that of a node below it.
abbrev pub is_at_or_below : Id → Id → Bool
is_at_or_below [] id = true
is_at_or_below (pair ∷ above) [] = false
is_at_or_below (pair ∷ above) (other ∷ id) = pair_eq pair other && is_at_or_below above id

-- A node's id, and whether it is a test.
abbrev pub Outline : Type 0
Outline = Id × Bool

-- The least depth so far, or that of this node if it is a test at or below the first id and nearer the root.
abbrev pub with_depth : Id → ℕ → Outline → ℕ
with_depth above least node = if node.1 && is_at_or_below above node.0 then min least (length node.0) else least

-- The least number of segments of the id of a test at or below the node with this id. If there is no such test it is
-- 16, more than any step goes up.
abbrev pub least_test_depth : List Outline → Id → ℕ
least_test_depth nodes above = fold (with_depth above) 16 nodes
