-- A test that a list of ids is a tree, for definitions that have to compute. Trees says what a tree is; the law
-- `TestTells` says that the two agree.
use Rattle.std.specs.Prelude.{ℕ, Bool, true, false, not, ◌&&◌, ◌==◌, nat_le, List, [], ◌∷◌, ◌++◌, length}
use Rattle.std.specs.List.{list_any}
use Rattle.std.specs.Cmp.Lexicographic.{pointwise}
use Rattle.ext_ids.specs.Ids.{pair_eq, is_parent}
use Rattle.ext_tree.specs.Trees.{Id}

-- The id may come after these: it is new, not a second root, and its parent is one of them.
abbrev pub may_follow : List Id → Id → Bool
may_follow before id = not (list_any (pointwise pair_eq id) before) && not (length id == 1)
    && list_any (λ parent. is_parent parent id) before

-- Each of the later ids may come after those before it.
abbrev pub each_may_follow : List Id → List Id → Bool
each_may_follow before [] = true
each_may_follow before (id ∷ more) = may_follow before id && each_may_follow (before ++ id ∷ []) more

-- The ids make a tree of at most `most` contexts: the first is a root, and each other id may come where it does.
abbrev pub is_tree : ℕ → List Id → Bool
is_tree most [] = false
is_tree most (root ∷ more) = nat_le (length (root ∷ more)) most && (length root == 1)
    && each_may_follow (root ∷ []) more
