-- What a suite says of its nodes, and which locks a test takes (JUnit 5 User Guide, "Synchronization" and "Parallel
-- Execution"). That a test also takes the locks of its ancestors, and the global one, is not from JUnit.
use Rattle.std.specs.Prelude.{◌≡◌, ℕ, Bool, true, false, if◌then◌else◌, Option, Some, None, List, ◌∷◌, map}
use Rattle.std.specs.List.{flat_map, list_any}
use Rattle.ext_locks.specs.declared.event.LockMode.{LockMode}
use Rattle.ext_locks.specs.declared.event.LockMode.TheVariants as lock_mode
use Rattle.ext_locks.specs.declared.request.Resource.{Resource}
use Rattle.ext_locks.specs.declared.request.Resource.TheVariants.{Global, Named}
use Rattle.ext_locks.specs.declared.request.LockRequest.{LockRequest}
use Rattle.ext_locks.specs.Names.{IsMerged}
use Rattle.ext_locks.specs.Sets.{HeldView}
use Rattle.ext_tree.specs.Trees.{IsPathOf, Id}

-- A lock that is asked for: the bytes of its name, or `None` for the global one, and its mode.
pub record Asked : Type 0 where
  pub name : Option (List ℕ)
  pub mode : LockMode

abbrev pub name_of : Resource → Option (List ℕ)
name_of Global = None
name_of (Named name) = Some name.now

abbrev pub asks : LockRequest → Asked
asks r = record { name = name_of r.resource; mode = r.mode }

-- The nodes as a suite describes them.
pub record SuiteView : Type 0 where
  pub is_concurrent : ℕ → Bool
  pub is_isolated : ℕ → Bool
  pub is_test : ℕ → Bool
  pub locks : ℕ → List Asked

-- ---- the locks of a test

-- The global lock is asked for writing if the test or an ancestor is isolated, otherwise for reading.
abbrev pub global_mode : SuiteView → List ℕ → LockMode
global_mode suite path = if list_any suite.is_isolated path then lock_mode.ReadWrite else lock_mode.Read

-- What a test with this path asks for: the global lock, and the locks named at the test and at its ancestors.
abbrev pub locks_on : SuiteView → List ℕ → List Asked
locks_on suite path = record { name = None; mode = global_mode suite path } ∷ flat_map suite.locks path

-- The set for what is asked, among locks of these names: each lock once, in the stronger mode.
pub record IsSetOf (names : List (List ℕ)) (asked : List Asked) (set : List (ℕ × LockMode)) : Type 0 where
  pub requests : List LockRequest
  pub these : map asks requests ≡ asked
  pub merged : IsMerged names requests set

-- A test holds the set of what it asks for.
pub record IsSetOfTest (suite : SuiteView) (tree : List Id) (node : ℕ) (held : HeldView) : Type 0 where
  pub path : List ℕ
  pub path_is : IsPathOf tree node path
  pub set_is : IsSetOf held.names (locks_on suite path) held.set

-- A test is lent its locks, and a container none.
pub record IsLent (suite : SuiteView) (tree : List Id) (node : ℕ) (held : Option HeldView) : Type 0 where
  pub container : suite.is_test node ≡ false → held ≡ None
  pub test : suite.is_test node ≡ true → (h : HeldView) × (held ≡ Some h) × IsSetOfTest suite tree node h
