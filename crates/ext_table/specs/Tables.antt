-- What a table says of its nodes, as a suite (JUnit 5 User Guide, "Parallel Execution", "Synchronization" and "Test
-- Lifecycle Callbacks"). Of a node past the table's end it says nothing: it is a container beside others.
use Rattle.std.specs.Prelude.{◌≡◌, ◌⊎◌, ℕ, ◌≤◌, ◌<◌, ◌&&◌, Bool, true, false, is_some, Option, Some, None, List, [], All, String, length, map, min, slice_get, slice_index_or, string_bytes}
use Rattle.std.specs.declared.alloc.Global.{Global}
use Rattle.ext_lifecycle.specs.declared.call.Kind.{Kind}
use Rattle.ext_lifecycle.specs.declared.call.Kind.TheVariants as kinds
use Rattle.ext_lifecycle.specs.Modes.{is_concurrent}
use Rattle.ext_tree.specs.Trees.{Id}
use Rattle.ext_engine.specs.Leaves.{is_leaf}
use Rattle.ext_engine.specs.Suites.{Asked, SuiteView}
use Rattle.ext_table.specs.declared.row.NamedLock.{NamedLock}
use Rattle.ext_table.specs.declared.row.Row.{Row}

-- ---- what is said of one node

abbrev pub concurrent_in : {T : Type 0} → Option (Row T) → Bool
concurrent_in None = true
concurrent_in (Some row) = is_concurrent row.mode

abbrev pub isolated_in : {T : Type 0} → Option (Row T) → Bool
isolated_in None = false
isolated_in (Some row) = row.is_isolated

abbrev pub test_in : {T : Type 0} → Option (Row T) → Bool
test_in None = false
test_in (Some row) = is_some row.test

abbrev pub locks_in : {T : Type 0} → Option (Row T) → List NamedLock
locks_in None = []
locks_in (Some row) = row.locks.items

abbrev pub reserved_in : {T : Type 0} → Option (Row T) → Bool
reserved_in None = false
reserved_in (Some row) = row.is_in_reserve

-- What each callback of a kind is given.
abbrev pub callbacks_of : {T : Type 0} → Kind → Row T → List T
callbacks_of kinds.BeforeAll row = row.before_all.items
callbacks_of kinds.BeforeEach row = row.before_each.items
callbacks_of kinds.Test row = []
callbacks_of kinds.AfterEach row = row.after_each.items
callbacks_of kinds.AfterAll row = row.after_all.items

abbrev pub callbacks_in : {T : Type 0} → Kind → Option (Row T) → List T
callbacks_in kind None = []
callbacks_in kind (Some row) = callbacks_of kind row

-- ---- the suite

-- The bytes of the names of locks.
abbrev pub texts_in : List (String Global) → List (List ℕ)
texts_in names = map (λ name. string_bytes name) names

-- The lock whose name stands at this index.
abbrev pub asked : List (List ℕ) → NamedLock → Asked
asked names lock = record { name = Some (slice_index_or names lock.name []); mode = lock.mode }

abbrev pub table_view : {T : Type 0} → List (Row T) → List (List ℕ) → List Id → SuiteView
table_view rows names ids = record {
  is_concurrent = λ node. concurrent_in (slice_get rows node);
  is_isolated = λ node. isolated_in (slice_get rows node);
  is_test = λ node. is_leaf ids node && test_in (slice_get rows node);
  locks = λ node. map (asked names) (locks_in (slice_get rows node));
}

-- How many callbacks of a kind a node registers: of more than 1,048,576 the first ones alone are called.
abbrev pub registered_in : {T : Type 0} → List (Row T) → Kind → ℕ → ℕ
registered_in rows kind node = min (length (callbacks_in kind (slice_get rows node))) 1048576

-- What the suite may answer to whether a node is run: no only of one in reserve, or where the run ends after so many
-- failures.
abbrev pub GivesEnabled : {T : Type 0} → List (Row T) → ℕ → ℕ → Bool → Type 0
GivesEnabled rows stop_after node answer =
    answer ≡ false → (1 ≤ stop_after) ⊎ (reserved_in (slice_get rows node) ≡ true)

-- All locks of these nodes are among so many names.
abbrev pub AreKnown : {T : Type 0} → ℕ → List (Row T) → Type 0
AreKnown count rows = All (λ row. All (λ lock. lock.name < count) row.locks.items) rows
