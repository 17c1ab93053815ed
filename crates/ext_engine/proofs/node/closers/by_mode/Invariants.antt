use Rattle.std.proofs.Common.{◌≡◌, ◌++◌, filter, not}
use Rattle.ext_engine.proofs.node.closers.by_mode.Given as goal

abbrev pub invariant-loop-item : goal.invariant-loop-item
invariant-loop-item g l = record {
  can : (goal.iterator-loop-item g).can_next l.item-iterator;
  finite : (goal.iterator-loop-item g).is_finite l.item-iterator;
  beside : l.beside.items ++ filter (λ i. (g.S.Suite.suite_view l.suite).is_concurrent i.node) l.item-iterator.rest.items ≡ filter (λ i. (g.S.Suite.suite_view l.suite).is_concurrent i.node) l.fn.items.items;
  in_turn : l.in_turn.items ++ filter (λ i. not ((g.S.Suite.suite_view l.suite).is_concurrent i.node)) l.item-iterator.rest.items ≡ filter (λ i. not ((g.S.Suite.suite_view l.suite).is_concurrent i.node)) l.fn.items.items;
}
