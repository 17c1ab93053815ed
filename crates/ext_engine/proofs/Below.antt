-- The children of a node, as nodes of a level less.
use Rattle.std.proofs.Common.{◌≡◌, ℕ, ◌+◌, ◌-◌, ◌≤◌, ◌∙◌, List, ap, arith, length}
use Rattle.std.specs.Prelude.{All}
use Rattle.std.proofs.lemmas.List.{length_push}
use Rattle.std.proofs.lemmas.List.Elements.{All-weaker}
use Rattle.ext_tree.specs.Trees.{id_at}
use Rattle.ext_store.specs.Stores.{StoreView}
use Rattle.ext_engine.specs.declared.node.closers.Item.{Item}
use Rattle.ext_engine.specs.InnerClosers.{IsItem, IsNode}

pub items_below : (store : StoreView) (depth node : ℕ) (items : List Item) → depth + length (id_at store.tree node) ≡ 17 → 1 ≤ depth → All (IsItem store node) items → All (IsNode store (depth - 1)) items
items_below store depth node items deep some all =
    All-weaker (IsItem store node) (IsNode store (depth - 1)) (λ i own. (let parent = own.child.ids_are in let e = ap length parent.1 ∙ length_push (id_at store.tree node) parent.0 in record {
      within = own.child.child_within;
      depth_is = omega (arith, e, deep, some);
      own = own.own;
      closers = own.closers;
    })) items all
