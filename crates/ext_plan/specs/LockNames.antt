-- The names of the resource locks that a plan's nodes name (JUnit 5 User Guide, "Synchronization"). How many there may
-- be is not from JUnit.
use Rattle.std.specs.Prelude.{ℕ, List, [], ◌∷◌, ◌++◌, map, fold, if◌then◌else◌}
use Rattle.std.specs.List.{flat_map}
use Rattle.ext_plan.specs.Plans.{LockText, read, read_write, NodeText}
use Rattle.ext_plan.specs.Labels.{is_label}

abbrev pub lock_name : LockText → List ℕ
lock_name (read name) = name
lock_name (read_write name) = name

-- The names, followed by this one unless it is there already.
abbrev pub with_name : List (List ℕ) → List ℕ → List (List ℕ)
with_name names name = if is_label names name then names else names ++ name ∷ []

-- All names of locks, in the order in which the nodes name them.
abbrev pub named_locks : List NodeText → List (List ℕ)
named_locks nodes = flat_map (λ node. map lock_name node.locks) nodes

-- The different names of locks.
abbrev pub lock_names : List NodeText → List (List ℕ)
lock_names nodes = fold with_name [] (named_locks nodes)

-- How many different names of locks there may be.
abbrev pub lock_limit : ℕ
lock_limit = 63
