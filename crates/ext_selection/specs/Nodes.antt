-- Where the nodes of a table stand. A node is its index, from 0, and stands in the node that its row names if that one
-- comes before it: the root, which names itself, stands in none.
use Rattle.std.specs.Prelude.{◌≡◌, ◌≢◌, ℕ, ◌<◌, false, List, All, AllPairs, Contains, length, slice_index_or}
use Rattle.ext_selection.specs.declared.nodes.Node.{Node}

-- What stands at an index past the end.
abbrev pub no_node : Node
no_node = record { is_test = false; is_in_turn = false; above = 0 }

abbrev pub node_at : List Node → ℕ → Node
node_at nodes k = slice_index_or nodes k no_node

-- One node stands in another.
pub record StandsIn (nodes : List Node) (inner outer : ℕ) : Type 0 where
  pub within : inner < length nodes
  pub before : outer < inner
  pub named : (node_at nodes inner).above ≡ outer

-- Two nodes stand beside one another in a third.
pub record AreBeside (nodes : List Node) (one other : ℕ) : Type 0 where
  pub outer : ℕ
  pub one_in : StandsIn nodes one outer
  pub other_in : StandsIn nodes other outer

-- Indices of nodes among so many, each once.
pub record AreIndices (count : ℕ) (indices : List ℕ) : Type 0 where
  pub within : All (λ index. index < count) indices
  pub once : AllPairs (λ a b. a ≢ b) indices

-- With each index stands that of the node that its own stands in.
pub record AreClosed (nodes : List Node) (indices : List ℕ) : Type 0 where
  pub each : (inner outer : ℕ) → StandsIn nodes inner outer → Contains indices inner → Contains indices outer
