-- The closers of a node and of all nodes below it, and how they are split among its children. No public contract cites
-- it.
use Rattle.std.specs.Prelude.{◌≡◌, ◌≢◌, ℕ, ◌+◌, ◌<◌, List, length, map, take, All, Contains}
use Rattle.ext_tree.specs.Trees.{Id, id_at, IsParentOf}
use Rattle.ext_engine.specs.declared.node.closers.Item.{Item}
use Rattle.ext_store.specs.Stores.{StoreView, CloserView, IsCloserOf}

-- Context `c` is context `k` or an ancestor of it.
abbrev pub IsWithin : List Id → ℕ → ℕ → Type 0
IsWithin ids c k = take (length (id_at ids c)) (id_at ids k) ≡ id_at ids c

abbrev pub contexts : List CloserView → List ℕ
contexts closers = map (λ c. c.context) closers

-- The closers are the store's.
abbrev pub OfStore : StoreView → List CloserView → Type 0
OfStore store closers = All (IsCloserOf store) closers

-- There is a closer for the node and for each context below it.
pub record HasClosers (store : StoreView) (node : ℕ) (closers : List CloserView) : Type 0 where
  pub each : (k : ℕ) → k < length store.tree → IsWithin store.tree node k → Contains (contexts closers) k

-- There is a closer for each context below the node; there may be none for the node itself.
pub record HasBelow (store : StoreView) (node : ℕ) (closers : List CloserView) : Type 0 where
  pub each : (k : ℕ) → k < length store.tree → IsWithin store.tree node k → k ≢ node → Contains (contexts closers) k

-- An item is a child of the node, with the closers of its subtree.
pub record IsItem (store : StoreView) (parent : ℕ) (item : Item) : Type 0 where
  pub child : IsParentOf store.tree parent item.node
  pub own : OfStore store item.closers.items
  pub closers : HasClosers store item.node item.closers.items

-- The item has the closers of all contexts within its node that were among these, and only closers of the store.
pub record HasTaken (store : StoreView) (closers : List CloserView) (item : Item) : Type 0 where
  pub own : OfStore store item.closers.items
  pub each : (k : ℕ) → IsWithin store.tree item.node k → Contains (contexts closers) k
      → Contains (contexts item.closers.items) k

-- An item is a node with the closers of its subtree. Its level and `depth` add up to 17, so that `depth` levels are
-- enough for the subtree.
pub record IsNode (store : StoreView) (depth : ℕ) (item : Item) : Type 0 where
  pub within : item.node < length store.tree
  pub depth_is : depth + length (id_at store.tree item.node) ≡ 17
  pub own : OfStore store item.closers.items
  pub closers : HasClosers store item.node item.closers.items
