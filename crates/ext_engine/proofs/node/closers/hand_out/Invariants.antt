use Rattle.std.proofs.Common.{◌≡◌, ◌++◌, map}
use Rattle.std.specs.Prelude.{All}
use Rattle.ext_tree.specs.Trees.{children_of}
use Rattle.ext_engine.specs.InnerClosers.{HasTaken}
use Rattle.ext_engine.proofs.node.closers.hand_out.Given as goal

abbrev pub invariant-loop-closer : goal.invariant-loop-closer
invariant-loop-closer g l = record {
  can : (goal.iterator-loop-closer g).can_next l.closer-iterator;
  finite : (goal.iterator-loop-closer g).is_finite l.closer-iterator;
  items : l.yielded ++ l.closer-iterator.rest.items ≡ l.fn.closers.items;
  children : map (λ i. i.node) l.items.items ≡ children_of l.store.tree l.node;
  taken : All (HasTaken l.store l.yielded) l.items.items;
}
