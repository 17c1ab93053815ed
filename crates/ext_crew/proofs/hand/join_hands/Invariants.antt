use Rattle.std.proofs.Common.{◌≡◌, ◌++◌, length}
use Rattle.std.specs.Prelude.{flat_map, All}
use Rattle.ext_crew.specs.InnerHands.{draws_of, given_of, HasWorked, IsFirst}
use Rattle.ext_crew.proofs.hand.join_hands.Given as goal

abbrev pub invariant-loop-hand : goal.invariant-loop-hand
invariant-loop-hand g l = record {
  can : (goal.iterator-loop-hand g).can_next l.hand-iterator;
  finite : (goal.iterator-loop-hand g).is_finite l.hand-iterator;
  worked : All (λ h. HasWorked l.counter.table_id l.counter.key.value.items h) l.hand-iterator.rest.items;
  joined : IsFirst l.counter.table_id l.first (length l.hand-iterator.rest.items);
  draws : l.first.me.0.draws ++ flat_map draws_of l.hand-iterator.rest.items ≡ flat_map draws_of l.fn.hands.items;
  given : l.first.me.0.given ++ flat_map given_of l.hand-iterator.rest.items ≡ flat_map given_of l.fn.hands.items;
}
