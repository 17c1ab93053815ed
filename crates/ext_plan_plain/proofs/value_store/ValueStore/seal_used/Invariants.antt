use Rattle.std.proofs.Common.{◌≡◌, ◌≤◌, ◌-◌, length}
use Rattle.ext_plan_plain.specs.ContextEnds.{seal_keys, numbers_left}
use Rattle.ext_plan_plain.specs.InnerSteps.{state_view}
use Rattle.ext_plan_plain.proofs.value_store.ValueStore.seal_used.Given as goal

abbrev pub invariant-loop-key : goal.invariant-loop-key
invariant-loop-key l = record {
  state : state_view l.self ≡ seal_keys l.from l.at (state_view l.initial.self);
  numbers : l.numbers ≡ numbers_left l.from l.at (state_view l.self);
  few : length l.numbers ≤ l.from;
  within : l.from ≤ l.initial.self.store.places;
  used : l.self.store.used ≡ l.initial.self.store.used;
}

abbrev pub decreases-loop-key : goal.decreases-loop-key
decreases-loop-key l = l.initial.self.store.places - l.from
