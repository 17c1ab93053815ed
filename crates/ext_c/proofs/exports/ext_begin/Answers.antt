use Rattle.std.proofs.Common.{◌≡◌}
use Rattle.ext_c.specs.Answers.{BeginSays}
use Rattle.ext_c.specs.Slots.{StaysSo}
use Rattle.ext_c.proofs.Said.{on_slot}
use Rattle.ext_c.proofs.exports.ext_begin.Goals as goal

pub returns : goal.returns
returns c = record {
  says =
      on_slot StaysSo (c.begin-code.new.found ≡ c.args.found.now) (λ before after. BeginSays c.args.context c.args.key before after c.args.found.now c.begin-code.new.found)
      c.args.slot.now c.give.new.self c.number-2.result c.in-Some.seat.value c.deref_mut.result.now c.begin-code.new.self c.begin-code.result
      c.in-Some.ensures.taken c.give.ensures.state c.give.ensures.seat c.give.ensures.legal (record { store = c.begin-code.ensures.store; closers = c.begin-code.ensures.closers; keys = c.begin-code.ensures.keys }) c.deref_mut.ensures.value c.number-2.ensures c.begin-code.ensures.says;
}
