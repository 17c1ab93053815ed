use Rattle.std.proofs.Common.{◌≡◌}
use Rattle.ext_c.specs.Answers.{GetAlongSays}
use Rattle.ext_c.specs.Slots.{KeepsClaim}
use Rattle.ext_c.proofs.Said.{on_slot}
use Rattle.ext_c.proofs.exports.ext_get_along.Goals as goal

pub returns : goal.returns
returns c = record {
  says =
      on_slot KeepsClaim (c.get_along-code.new.found ≡ c.args.found.now) (λ before after. GetAlongSays c.args.path.now c.args.key before after c.args.found.now c.get_along-code.new.found)
      c.args.slot.now c.give.new.self c.number-2.result c.in-Some.seat.value c.deref_mut.result.now c.get_along-code.new.self c.get_along-code.result
      c.in-Some.ensures.taken c.give.ensures.state c.give.ensures.seat c.give.ensures.legal (record { so = record { store = c.get_along-code.ensures.store; closers = c.get_along-code.ensures.closers; keys = c.get_along-code.ensures.keys }; claim = c.get_along-code.ensures.claim }) c.deref_mut.ensures.value c.number-2.ensures c.get_along-code.ensures.says;
}
