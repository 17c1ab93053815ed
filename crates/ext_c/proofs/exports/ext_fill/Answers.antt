use Rattle.std.proofs.Common.{◌≡◌}
use Rattle.ext_c.specs.Answers.{FillSays}
use Rattle.ext_c.specs.Slots.{HasNoClaim}
use Rattle.ext_c.proofs.Said.{on_slot}
use Rattle.ext_c.proofs.exports.ext_fill.Goals as goal

pub returns : goal.returns
returns c = record {
  says =
      on_slot HasNoClaim (c.fill-code.new.number ≡ c.args.number.now) (λ before after. FillSays (record { raw = c.args.handle; closeable = c.args.closeable }) before after c.args.number.now c.fill-code.new.number)
      c.args.slot.now c.give.new.self c.number-2.result c.in-Some.seat.value c.deref_mut.result.now c.fill-code.new.self c.fill-code.result
      c.in-Some.ensures.taken c.give.ensures.state c.give.ensures.seat c.give.ensures.legal (record { so = record { store = c.fill-code.ensures.store; closers = c.fill-code.ensures.closers; keys = c.fill-code.ensures.keys }; unclaimed = c.fill-code.ensures.claim }) c.deref_mut.ensures.value c.number-2.ensures c.fill-code.ensures.says;
}
