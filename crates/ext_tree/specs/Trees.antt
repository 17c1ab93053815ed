-- Which lists of ids are trees of contexts, what is wrong with the others, and the path from a context to the root.
-- Contexts form a tree as in JUnit (User Guide, "Keeping State in Extensions"). The limits, the order of the list and
-- the order of the faults are not from JUnit. A context is its place in the list, from 0. A path is the context, its
-- parent, and so on to the root: the order in which JUnit asks.
use Rattle.std.specs.Prelude.{ℕ, ◌≡◌, ◌≢◌, ◌<◌, ◌≤◌, List, [], ◌∷◌, ◌++◌, length, slice_index_or, zero, suc, if◌then◌else◌}
use Rattle.ext_ids.specs.Grammar.{Pair}
use Rattle.ext_tree.specs.declared.fault.TreeFault.{TreeFault}
use Rattle.ext_tree.specs.declared.fault.TreeFault.TheVariants as faults
use Rattle.ext_ids.specs.Ids.{is_parent}

abbrev pub Id : Type 0
Id = List Pair

abbrev pub id_at : List Id → ℕ → Id
id_at ids k = slice_index_or ids k []

-- The child is its parent with one more segment.
abbrev pub IsParent : Id → Id → Type 0
IsParent parent child = (p : Pair) × (child ≡ parent ++ p ∷ [])

-- The id at `k` stands at an earlier place, too.
abbrev pub StandsBefore : List Id → ℕ → Type 0
StandsBefore ids k = (j : ℕ) × (j < k) × (id_at ids j ≡ id_at ids k)

-- The parent of the id at `k` stands at an earlier place.
abbrev pub HasParentBefore : List Id → ℕ → Type 0
HasParentBefore ids k = (j : ℕ) × (j < k) × IsParent (id_at ids j) (id_at ids k)

-- The id at `k` may come where it does: it is new, not a second root, and its parent comes before it.
pub record MayFollow (ids : List Id) (k : ℕ) : Type 0 where
  pub fresh : ¬ StandsBefore ids k
  pub below : length (id_at ids k) ≢ 1
  pub parent : HasParentBefore ids k

-- What is wrong with the id at `k`: the first of these that applies.
pub data IsWrong (ids : List Id) (k : ℕ) : TreeFault → Type 0 where
  twice : StandsBefore ids k → IsWrong ids k (faults.Twice k)
  second_root : ¬ StandsBefore ids k → length (id_at ids k) ≡ 1 → IsWrong ids k (faults.TwoRoots k)
  without_parent : ¬ StandsBefore ids k → length (id_at ids k) ≢ 1 → ¬ HasParentBefore ids k
      → IsWrong ids k (faults.NoParent k)

-- There are 1 to 65,536 ids, and the first is a root.
pub record HasRoot (ids : List Id) : Type 0 where
  pub some : 0 < length ids
  pub few : length ids ≤ 65536
  pub root : length (id_at ids 0) ≡ 1

-- The ids before `n`, except the first, may come where they do.
pub record FollowBelow (ids : List Id) (n : ℕ) : Type 0 where
  pub each : (k : ℕ) → 0 < k → k < n → MayFollow ids k

-- The ids make a tree.
pub record IsTree (ids : List Id) : Type 0 where
  pub first : HasRoot ids
  pub later : FollowBelow ids (length ids)

-- The ids make a tree of at most `most` contexts.
pub record IsTreeWithin (most : ℕ) (ids : List Id) : Type 0 where
  pub tree : IsTree ids
  pub few : length ids ≤ most

-- The first fault of a list of ids, from the left, where a tree may have `most` contexts.
pub data HasFault (most : ℕ) (ids : List Id) : TreeFault → Type 0 where
  none_at_all : length ids ≡ 0 → HasFault most ids faults.NoRoot
  too_many : most < length ids → HasFault most ids faults.TooMany
  no_root : 0 < length ids → length ids ≤ most → length (id_at ids 0) ≢ 1 → HasFault most ids faults.NoRoot
  later : HasRoot ids → length ids ≤ most → (k : ℕ) (what : TreeFault) → 0 < k → k < length ids → FollowBelow ids k
      → IsWrong ids k what
      → HasFault most ids what

-- ---- paths and children

-- The one context is the parent of the other.
pub record IsParentOf (ids : List Id) (parent child : ℕ) : Type 0 where
  pub parent_within : parent < length ids
  pub child_within : child < length ids
  pub ids_are : IsParent (id_at ids parent) (id_at ids child)

-- The walk goes on from the context: its parent, that one's parent, and so on to the root, which is context 0.
abbrev pub IsWalk : List Id → ℕ → List ℕ → Type 0
IsWalk ids context [] = context ≡ 0
IsWalk ids context (parent ∷ rest) = IsParentOf ids parent context × IsWalk ids parent rest

-- The path of a context: the context, then the walk from it.
abbrev pub IsPathOf : List Id → ℕ → List ℕ → Type 0
IsPathOf ids context [] = ⊥
IsPathOf ids context (first ∷ walk) = (first ≡ context) × IsWalk ids context walk

-- The context's children among the first `n` contexts, in order.
abbrev pub children_below : List Id → ℕ → ℕ → List ℕ
children_below ids context zero = []
children_below ids context (suc n) =
    if is_parent (id_at ids context) (id_at ids n) then children_below ids context n ++ n ∷ []
    else children_below ids context n

-- The context's children, in order.
abbrev pub children_of : List Id → ℕ → List ℕ
children_of ids context = children_below ids context (length ids)
