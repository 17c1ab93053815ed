use Rattle.std.proofs.Common.{◌≡◌, map, take, []}
use Rattle.std.specs.Prelude.{All}
use Rattle.ext_engine.proofs.node.closers.without_closers.Given as goal

abbrev pub invariant-loop-node : goal.invariant-loop-node
invariant-loop-node l = record {
  nodes : map (λ i. i.node) l.items.items ≡ take l.node-index l.nodes;
  empty : All (λ i. i.closers.items ≡ []) l.items.items;
}
