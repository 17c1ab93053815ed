use Rattle.std.proofs.Common.{◌≡◌}
use Rattle.ext_c.specs.Answers.{RemoveSays}
use Rattle.ext_c.specs.Slots.{KeepsClaim}
use Rattle.ext_c.proofs.Said.{on_slot}
use Rattle.ext_c.proofs.exports.ext_remove.Goals as goal

pub returns : goal.returns
returns c = record {
  says =
      on_slot KeepsClaim (c.remove-code.new.taken ≡ c.args.taken.now) (λ before after. RemoveSays c.args.context c.args.key before after c.args.taken.now c.remove-code.new.taken)
      c.args.slot.now c.give.new.self c.number-2.result c.in-Some.seat.value c.deref_mut.result.now c.remove-code.new.self c.remove-code.result
      c.in-Some.ensures.taken c.give.ensures.state c.give.ensures.seat c.give.ensures.legal (record { so = record { store = c.remove-code.ensures.store; closers = c.remove-code.ensures.closers; keys = c.remove-code.ensures.keys }; claim = c.remove-code.ensures.claim }) c.deref_mut.ensures.value c.number-2.ensures c.remove-code.ensures.says;
}
