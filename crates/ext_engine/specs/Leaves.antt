-- Suites whose tests are the nodes with nothing below them, and the locks that a node asks for (Javadoc
-- `ResourceLock`). In JUnit, descriptors say themselves which of them are tests.
use Rattle.std.specs.Prelude.{ℕ, Bool, ◌&&◌, ◌==◌, nat_lt, Some, List, length}
use Rattle.ext_locks.specs.declared.event.LockMode.TheVariants as lock_mode
use Rattle.ext_tree.specs.Trees.{Id, children_of}
use Rattle.ext_engine.specs.Suites.{Asked}

-- A context of the tree with nothing below it.
abbrev pub is_leaf : List Id → ℕ → Bool
is_leaf ids node = nat_lt node (length ids) && (length (children_of ids node) == 0)

-- The lock with this name, for reading.
abbrev pub reads : List ℕ → Asked
reads name = record { name = Some name; mode = lock_mode.Read }

-- The lock with this name, for writing.
abbrev pub writes : List ℕ → Asked
writes name = record { name = Some name; mode = lock_mode.ReadWrite }
