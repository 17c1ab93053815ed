use Rattle.std.proofs.Common.{◌≡◌}
use Rattle.ext_c.specs.Answers.{PutSays}
use Rattle.ext_c.specs.Slots.{KeepsClaim}
use Rattle.ext_c.proofs.Said.{on_slot}
use Rattle.ext_c.proofs.exports.ext_put.Goals as goal

pub returns : goal.returns
returns c = record {
  says =
      on_slot KeepsClaim (c.put-code.new.stood ≡ c.args.stood.now) (λ before after. PutSays c.args.context c.args.key (record { raw = c.args.handle; closeable = c.args.closeable }) before after c.args.stood.now c.put-code.new.stood)
      c.args.slot.now c.give.new.self c.number-2.result c.in-Some.seat.value c.deref_mut.result.now c.put-code.new.self c.put-code.result
      c.in-Some.ensures.taken c.give.ensures.state c.give.ensures.seat c.give.ensures.legal (record { so = record { store = c.put-code.ensures.store; closers = c.put-code.ensures.closers; keys = c.put-code.ensures.keys }; claim = c.put-code.ensures.claim }) c.deref_mut.ensures.value c.number-2.ensures c.put-code.ensures.says;
}
