-- What the steps of building a tree find. Only contracts within the crate cite it.
use Rattle.std.specs.Prelude.{ℕ, ◌≡◌, ◌<◌, ◌≤◌, List, length, slice_index, HoldsAt, Option, Some, None, Result, Ok, Err}
use Rattle.std.specs.Global.{Vec}
use Rattle.ext_tree.specs.declared.fault.TreeFault.{TreeFault}
use Rattle.ext_tree.specs.Trees.{Id, id_at, IsParent, HasParentBefore, FollowBelow, MayFollow, IsWrong, IsTree, children_below, IsPathOf}

-- The id at `k` may come where it does, and its parent is the id at `parent`.
pub record Follows (ids : List Id) (k parent : ℕ) : Type 0 where
  pub may : MayFollow ids k
  pub before : parent < k
  pub is : IsParent (id_at ids parent) (id_at ids k)

-- Where the parent of the id at `k` is among those before it.
abbrev pub IsParentBefore : List Id → ℕ → Option ℕ → Type 0
IsParentBefore ids k None = ¬ HasParentBefore ids k
IsParentBefore ids k (Some parent) = (parent < k) × IsParent (id_at ids parent) (id_at ids k)

-- The place of the parent of the id at `k`, or what is wrong with the id.
abbrev pub IsJudged : List Id → ℕ → Result ℕ TreeFault → Type 0
IsJudged ids k (Ok parent) = Follows ids k parent
IsJudged ids k (Err e) = IsWrong ids k e

-- The first id, from the left, that may not come where it does, and what is wrong with it.
pub record IsFirstWrong (ids : List Id) (what : TreeFault) : Type 0 where
  pub place : ℕ
  pub some : 0 < place
  pub less : place < length ids
  pub before : FollowBelow ids place
  pub wrong : IsWrong ids place what

-- The places of the parents of the first `n` ids. The entry for the root may be anything.
pub record AreParents (ids : List Id) (n : ℕ) (parents : List ℕ) : Type 0 where
  pub count : length parents ≡ n
  pub each : (k : ℕ) → 0 < k → k < n → Follows ids k (slice_index parents k)

-- For each context, its children among the first `n` contexts.
pub record AreChildren (ids : List Id) (n : ℕ) (lists : List (Vec ℕ)) : Type 0 where
  pub count : length lists ≡ length ids
  pub each : (c : ℕ) → c < length ids → HoldsAt (λ v. v.items ≡ children_below ids c n) lists c

-- The paths of the first `n` contexts.
pub record ArePaths (ids : List Id) (n : ℕ) (paths : List (List ℕ)) : Type 0 where
  pub count : length paths ≡ n
  pub each : (c : ℕ) → c < n → HoldsAt (λ path. IsPathOf ids c path × (length path ≤ 16)) paths c

-- What a tree stores beside its ids.
pub record IsShaped (ids : List Id) (paths : List (List ℕ)) (lists : List (Vec ℕ)) : Type 0 where
  pub tree : IsTree ids
  pub paths_are : ArePaths ids (length ids) paths
  pub lists_are : AreChildren ids (length ids) lists
