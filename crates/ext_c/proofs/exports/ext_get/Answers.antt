use Rattle.std.proofs.Common.{◌≡◌}
use Rattle.ext_c.specs.Answers.{GetSays}
use Rattle.ext_c.specs.Slots.{KeepsClaim}
use Rattle.ext_c.proofs.Said.{on_slot}
use Rattle.ext_c.proofs.exports.ext_get.Goals as goal

pub returns : goal.returns
returns c = record {
  says =
      on_slot KeepsClaim (c.get-code.new.found ≡ c.args.found.now) (λ before after. GetSays c.args.context c.args.key before after c.args.found.now c.get-code.new.found)
      c.args.slot.now c.give.new.self c.number-2.result c.in-Some.seat.value c.deref_mut.result.now c.get-code.new.self c.get-code.result
      c.in-Some.ensures.taken c.give.ensures.state c.give.ensures.seat c.give.ensures.legal (record { so = record { store = c.get-code.ensures.store; closers = c.get-code.ensures.closers; keys = c.get-code.ensures.keys }; claim = c.get-code.ensures.claim }) c.deref_mut.ensures.value c.number-2.ensures c.get-code.ensures.says;
}
