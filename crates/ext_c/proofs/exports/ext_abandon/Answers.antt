use Rattle.ext_c.specs.Answers.{AbandonSays}
use Rattle.ext_c.specs.Slots.{HasNoClaim}
use Rattle.ext_c.proofs.Said.{on_slot}
use Rattle.ext_c.proofs.exports.ext_abandon.Goals as goal

pub returns : goal.returns
returns c = record {
  says =
      on_slot HasNoClaim (Unit {0}) AbandonSays
      c.args.slot.now c.give.new.self c.number-2.result c.in-Some.seat.value c.deref_mut.result.now c.abandon-code.new.self c.abandon-code.result
      c.in-Some.ensures.taken c.give.ensures.state c.give.ensures.seat c.give.ensures.legal (record { so = record { store = c.abandon-code.ensures.store; closers = c.abandon-code.ensures.closers; keys = c.abandon-code.ensures.keys }; unclaimed = c.abandon-code.ensures.claim }) c.deref_mut.ensures.value c.number-2.ensures c.abandon-code.ensures.says;
}
