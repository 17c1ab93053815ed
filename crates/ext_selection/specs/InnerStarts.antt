-- What the functions of the crate say to one another about where a node comes when all that stands in it follows right
-- behind it.
use Rattle.std.specs.Prelude.{◌≡◌, ℕ, ◌≤◌, ◌<◌, ◌+◌, ◌*◌, ◌^◌, ◌&&◌, nat_lt, List, length, Option, Some, None, slice_get, slice_index, slice_set, if◌then◌else◌}
use Rattle.ext_selection.specs.Nodes.{node_at, StandsIn, AreBeside}
use Rattle.ext_selection.specs.Shuffling.{ComesFirst}
use Rattle.ext_selection.specs.declared.nodes.Node.{Node}
use Rattle.ext_selection.specs.declared.rank.Rank.{Rank}

-- The node that one stands in.
abbrev pub outer_of : List Node → ℕ → Option ℕ
outer_of nodes k =
    if nat_lt k (length nodes) && nat_lt (node_at nodes k).above k then Some (node_at nodes k).above else None

-- Each node comes behind the one that it stands in.
pub record IsBehind (nodes : List Node) (order : List ℕ) : Type 0 where
  pub each : (inner outer : ℕ) → StandsIn nodes inner outer → ComesFirst order outer inner

-- Of the nodes of the order none starts before the one that it stands in, nor before one beside it that comes first.
pub record AreStarts (nodes : List Node) (order starts : List ℕ) : Type 0 where
  pub behind : (inner outer a b : ℕ) → slice_get order a ≡ Some inner → slice_get order b ≡ Some outer
      → StandsIn nodes inner outer → slice_index starts outer ≤ slice_index starts inner
  pub beside : (one other a b : ℕ) → slice_get order a ≡ Some one → slice_get order b ≡ Some other
      → AreBeside nodes one other → ComesFirst order one other → slice_index starts one ≤ slice_index starts other

-- A node starts where the last one beside it ended, and those in it start there too.
abbrev pub StartsAt : Option ℕ → ℕ → List ℕ → List ℕ → List ℕ → List ℕ → Type 0
StartsAt None index starts ends starts' ends' = (starts' ≡ starts) × (ends' ≡ ends)
StartsAt (Some outer) index starts ends starts' ends' =
    (starts' ≡ slice_set starts index (slice_index ends outer))
    × ((end : ℕ) × (slice_index ends outer ≤ end)
    × (ends' ≡ slice_set (slice_set ends index (slice_index ends outer)) outer end))

-- A rank is lower the sooner a node starts, and among those of one start the sooner it comes.
pub record IsStartRank (order starts : List ℕ) (rank : Rank) : Type 0 where
  pub at : ℕ
  pub small : at < 2 ^ 64
  pub there : slice_get order at ≡ Some rank.index
  pub key : rank.key ≡ slice_index starts rank.index * 2 ^ 64 + at

-- The second order has those of the first, and what comes first in it still does if it starts no later.
pub record IsRegrouped (order starts regrouped : List ℕ) : Type 0 where
  pub each : (one other : ℕ) → ComesFirst order one other
      → ((a b : ℕ) → slice_get order a ≡ Some one → slice_get order b ≡ Some other → slice_index starts one ≤ slice_index starts other)
      → ComesFirst regrouped one other
