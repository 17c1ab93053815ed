-- What the functions of the crate say to one another about an order.
use Rattle.std.specs.Prelude.{◌≡◌, ℕ, ◌+◌, ◌*◌, ◌^◌, ◌<◌, List, slice_index, if◌then◌else◌}
use Rattle.ext_selection.specs.Nodes.{node_at, StandsIn}
use Rattle.ext_selection.specs.declared.nodes.Node.{Node}
use Rattle.ext_selection.specs.declared.rank.Rank.{Rank}

-- How many nodes each stands in.
pub record AreDepths (nodes : List Node) (depths : List ℕ) : Type 0 where
  pub each : (j k : ℕ) → StandsIn nodes j k → slice_index depths j ≡ slice_index depths k + 1

-- The number by which a node comes among those beside it: its index if it runs in turn, else what the seed draws.
abbrev pub number_of : List Node → (ℕ → ℕ) → ℕ → ℕ
number_of nodes numbers k = if (node_at nodes k).is_in_turn then k else numbers k

-- A rank is lower the fewer nodes its node stands in, and among those of one depth by the number.
pub record IsRank (nodes : List Node) (numbers : ℕ → ℕ) (depths : List ℕ) (rank : Rank) : Type 0 where
  pub small : number_of nodes numbers rank.index < 2 ^ 64
  pub key : rank.key ≡ slice_index depths rank.index * 2 ^ 64 + number_of nodes numbers rank.index
