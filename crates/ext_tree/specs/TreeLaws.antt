-- Laws of trees and of keys, by which a reader may judge the definitions.
use Rattle.std.specs.Prelude.{ℕ, true, ◌≡◌, ◌≢◌, ◌<◌, ◌≤◌, ◌+◌, ◌*◌, ◌++◌, ◌⊎◌, ◌↔◌, List, length, Contains, AllPairs}
use Rattle.ext_tree.specs.declared.fault.TreeFault.{TreeFault}
use Rattle.ext_tree.specs.Decided.{is_tree}
use Rattle.ext_tree.specs.Keys.{NamespaceValue, KeyValue, global_namespace, created_namespace, appended, AreDifferent, HasNumber}
use Rattle.ext_tree.specs.Trees.{IsPathOf, IsParentOf, children_of, Id, IsTree, IsTreeWithin, HasFault}

-- The list of ids is a tree of at most `most` contexts, or it has a fault.
abbrev pub IsTreeOrFaulty : ℕ → List Id → Type 0
IsTreeOrFaulty most ids = IsTreeWithin most ids ⊎ ((fault : TreeFault) × HasFault most ids fault)

-- For each limit, a list of ids is a tree or has a fault, never both and never two faults.
pub record FaultsTell : Type 0 where
  pub one_of_both : (most : ℕ) (ids : List Id) → most ≤ 65536 → IsTreeOrFaulty most ids
  pub not_both : (most : ℕ) (ids : List Id) (fault : TreeFault) → IsTreeWithin most ids → HasFault most ids fault → ⊥
  pub one_fault : (most : ℕ) (ids : List Id) (fault second : TreeFault) → HasFault most ids fault
      → HasFault most ids second → fault ≡ second

-- The test for trees accepts exactly the trees of at most `most` contexts.
abbrev pub TestTells : Type 0
TestTells = (most : ℕ) (ids : List Id) → most ≤ 65536 → (is_tree most ids ≡ true) ↔ IsTreeWithin most ids

-- A context of a tree has at most one parent, which comes before it, and at most one path.
pub record PathsAreUnique : Type 0 where
  pub one_parent : (ids : List Id) (p q context : ℕ) → IsTree ids → IsParentOf ids p context → IsParentOf ids q context
      → p ≡ q
  pub before : (ids : List Id) (p context : ℕ) → IsTree ids → IsParentOf ids p context → p < context
  pub one_path : (ids : List Id) (context : ℕ) (path second : List ℕ) → IsTree ids → IsPathOf ids context path
      → IsPathOf ids context second → path ≡ second

-- The children of a context are the contexts whose parent it is, each once and in order.
pub record ChildrenAreListed (ids : List Id) (context : ℕ) : Type 0 where
  pub child : (k : ℕ) → Contains (children_of ids context) k → IsParentOf ids context k
  pub listed : (k : ℕ) → IsParentOf ids context k → Contains (children_of ids context) k
  pub order : AllPairs (λ a b. a < b) (children_of ids context)

abbrev pub ParentsListChildren : Type 0
ParentsListChildren = (ids : List Id) (context : ℕ) → context < length ids → ChildrenAreListed ids context

-- A key has at most one number, and a number at most one key.
pub record NumbersTell : Type 0 where
  pub one_number : (keys : List KeyValue) (key : KeyValue) (number second : ℕ) → AreDifferent keys
      → HasNumber keys key number → HasNumber keys key second → number ≡ second
  pub one_key : (keys : List KeyValue) (key other : KeyValue) (number : ℕ) → HasNumber keys key number
      → HasNumber keys other number → key ≡ other

-- A cell determines its context and key, for any number of keys.
abbrev pub CellsTell : Type 0
CellsTell = (keys context key context' key' : ℕ) → key < keys → key' < keys
    → context * keys + key ≡ context' * keys + key' → (context ≡ context') × (key ≡ key')

-- Parts may be given at once or one after the other. The global namespace with parts is never equal to a created one.
pub record NamespacesTell : Type 0 where
  pub step_by_step : (namespace : NamespaceValue) (first second : List (List ℕ))
      → appended (appended namespace first) second ≡ appended namespace (first ++ second)
  pub created : (first second : List (List ℕ))
      → appended (created_namespace first) second ≡ created_namespace (first ++ second)
  pub global_apart : (parts created : List (List ℕ)) → appended global_namespace parts ≢ created_namespace created
