use Rattle.std.proofs.Common.{◌≡◌}
use Rattle.ext_c.specs.Answers.{FailSays}
use Rattle.ext_c.specs.Slots.{HasNoClaim}
use Rattle.ext_c.proofs.Said.{on_slot}
use Rattle.ext_c.proofs.exports.ext_fail.Goals as goal

pub returns : goal.returns
returns c = record {
  says =
      on_slot HasNoClaim (c.fail-code.new.number ≡ c.args.number.now) (λ before after. FailSays c.args.handle before after c.args.number.now c.fail-code.new.number)
      c.args.slot.now c.give.new.self c.number-2.result c.in-Some.seat.value c.deref_mut.result.now c.fail-code.new.self c.fail-code.result
      c.in-Some.ensures.taken c.give.ensures.state c.give.ensures.seat c.give.ensures.legal (record { so = record { store = c.fail-code.ensures.store; closers = c.fail-code.ensures.closers; keys = c.fail-code.ensures.keys }; unclaimed = c.fail-code.ensures.claim }) c.deref_mut.ensures.value c.number-2.ensures c.fail-code.ensures.says;
}
