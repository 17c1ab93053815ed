use Rattle.std.proofs.Common.{◌≡◌}
use Rattle.ext_c.specs.Answers.{NamesKey}
use Rattle.ext_c.specs.Slots.{OnlyLearnsKeys}
use Rattle.ext_c.proofs.Said.{on_slot}
use Rattle.ext_c.proofs.exports.ext_key.Goals as goal

pub returns : goal.returns
returns c = record {
  says =
      on_slot OnlyLearnsKeys (c.number_named-code.new.number ≡ c.args.key.now) (λ before after. NamesKey c.args.bytes.now c.args.lengths.now before after c.args.key.now c.number_named-code.new.number)
      c.args.slot.now c.give.new.self c.number-2.result c.in-Some.seat.value c.deref_mut.result.now c.number_named-code.new.self c.number_named-code.result
      c.in-Some.ensures.taken c.give.ensures.state c.give.ensures.seat c.give.ensures.legal c.number_named-code.ensures.learns c.deref_mut.ensures.value c.number-2.ensures c.number_named-code.ensures.says;
}
