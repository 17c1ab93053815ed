use Rattle.std.proofs.Common.{◌≡◌, ◌-◌, ◌≤◌, [], vec_len, vec_capacity}
use Rattle.std.specs.Prelude.{All}
use Rattle.ext_crew.specs.InnerCounter.{drawn}
use Rattle.ext_crew.specs.InnerHands.{IsReady}
use Rattle.ext_crew.proofs.hand.make_hands.Given as goal

abbrev pub invariant-loop : goal.invariant-loop
invariant-loop g l = record {
  made : vec_len l.hands ≡ l.counter;
  room : l.workers ≤ vec_capacity l.hands;
  ready : All (λ h. IsReady l.counter-2.table_id l.counter-2.key.value.items h) l.hands.items;
  table : l.first.table_id ≡ l.initial.first.table_id;
  me : l.first.me ≡ (drawn (33 - l.counter) [] [] l.counter-2.key.value.items, []);
}
