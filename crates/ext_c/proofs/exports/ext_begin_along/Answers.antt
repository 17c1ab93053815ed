use Rattle.std.proofs.Common.{◌≡◌}
use Rattle.ext_c.specs.Answers.{BeginAlongSays}
use Rattle.ext_c.specs.Slots.{StaysSo}
use Rattle.ext_c.proofs.Said.{on_slot}
use Rattle.ext_c.proofs.exports.ext_begin_along.Goals as goal

pub returns : goal.returns
returns c = record {
  says =
      on_slot StaysSo (c.begin_along-code.new.found ≡ c.args.found.now) (λ before after. BeginAlongSays c.args.path.now c.args.key before after c.args.found.now c.begin_along-code.new.found)
      c.args.slot.now c.give.new.self c.number-2.result c.in-Some.seat.value c.deref_mut.result.now c.begin_along-code.new.self c.begin_along-code.result
      c.in-Some.ensures.taken c.give.ensures.state c.give.ensures.seat c.give.ensures.legal (record { store = c.begin_along-code.ensures.store; closers = c.begin_along-code.ensures.closers; keys = c.begin_along-code.ensures.keys }) c.deref_mut.ensures.value c.number-2.ensures c.begin_along-code.ensures.says;
}
