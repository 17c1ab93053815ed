use Rattle.std.proofs.Common.{◌≤◌, ◌∙◌, [], map, refl, sym, ap, subst, arith}
use Rattle.std.specs.Prelude.{option_map}
use Rattle.std.proofs.lemmas.List.{take_all}
use Rattle.ext_plan_plain.specs.ContextEnds.{closeables}
use Rattle.ext_plan_plain.specs.InnerSteps.{state_view, HasClosed}
use Rattle.ext_plan_plain.proofs.Sealing.{closes-more, closes-same, HasClosed-is, HasClosed-more}
use Rattle.ext_plan_plain.proofs.value_store.ValueStore.close_values.Goals as goal
use Rattle.ext_plan_plain.proofs.value_store.ValueStore.close_values.Goals.{in-Some+in_ok-fault, in_default}
use Rattle.ext_plan.specs.Values.{close_fault, value_view}

pub loop-number-init : goal.loop-number-init
loop-number-init g c = record {
  closed = record { faults = []; counted = c.new-closes.ensures; texts = refl };
  bounded = omega (arith, ap (λ e. e.more_faults) c.new-closes.ensures);
  few = omega (arith, ap (λ e. e.closed) c.new-closes.ensures);
}

pub add-requires-clause-room : goal.add-requires-clause-room
add-requires-clause-room g c = omega (arith, c.loop-number.invariant.few, c.loop-number-test.true, c.requires)

pub add-requires-clause-bounded : goal.add-requires-clause-bounded
add-requires-clause-bounded g c = c.loop-number.invariant.bounded

pub loop-number-preserved : goal.loop-number-preserved
loop-number-preserved g c =
    let values = (state_view c.args.self.now).values in
    let numbers = c.args.numbers.now in
    elim c.match-closeable.branch [
      | in-Some+in_ok-fault w ↦
          let value = value_view w.in-Some.value in
          let found = sym (ap (option_map value_view) w.in-Some.is) ∙ c.closeable.ensures in
          let more = closes-more values numbers c.loop-number.number-index value c.loop-number-test.true found in
          let one = HasClosed-more c.loop-number.closes _ _ _ _ c.loop-number.invariant.closed w.add.ensures.counted w.in_ok-fault.ensures.fault in
          record {
            closed = HasClosed-is c.match-closeable.closes _ _ _ w.closes-is more one;
            bounded = subst (λ e. e.more_faults ≤ e.closed) (sym w.closes-is) w.add.ensures.bounded;
            few = omega (arith, ap (λ e. e.closed) w.closes-is, w.add.ensures.one_more, c.loop-number.invariant.few);
          }
      | in_default w ↦
          let found = sym (ap (option_map value_view) w.in_default.is) ∙ c.closeable.ensures in
          record {
            closed = HasClosed-is c.match-closeable.closes _ _ _ w.closes-is (closes-same values numbers c.loop-number.number-index c.loop-number-test.true found) c.loop-number.invariant.closed;
            bounded = subst (λ e. e.more_faults ≤ e.closed) (sym w.closes-is) c.loop-number.invariant.bounded;
            few = omega (arith, ap (λ e. e.closed) w.closes-is, c.loop-number.invariant.few);
          }
    ]

pub returns : goal.returns
returns g c =
    let whole = take_all c.loop-number.number-index c.args.numbers.now (omega (arith, c.loop-number-test.false)) in
    subst (λ numbers. HasClosed c.loop-number.closes (map close_fault (closeables (state_view c.args.self.now).values numbers))) whole c.loop-number.invariant.closed
