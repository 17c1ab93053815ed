use Rattle.std.proofs.Common.{◌≡◌}
use Rattle.ext_c.specs.Closing.{CloseSays}
use Rattle.ext_c.specs.Slots.{StaysButClosers}
use Rattle.ext_c.proofs.Said.{on_slot}
use Rattle.ext_c.proofs.exports.ext_close.Goals as goal

pub returns : goal.returns
returns c = record {
  says =
      on_slot StaysButClosers ((c.close-code.new.count ≡ 0) × (c.close-code.new.values ≡ c.args.values.now))
      (λ before after. CloseSays c.args.context before after c.args.values.now c.close-code.new.values c.close-code.new.count)
      c.args.slot.now c.give.new.self c.number-2.result c.in-Some.seat.value c.deref_mut.result.now c.close-code.new.self c.close-code.result
      c.in-Some.ensures.taken c.give.ensures.state c.give.ensures.seat c.give.ensures.legal (record { store = c.close-code.ensures.store; claim = c.close-code.ensures.claim; keys = c.close-code.ensures.keys }) c.deref_mut.ensures.value c.number-2.ensures c.close-code.ensures.says;
}
