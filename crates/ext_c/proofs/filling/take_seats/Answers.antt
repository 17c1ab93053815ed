use Rattle.std.proofs.Common.{◌≡◌, ◌∙◌, ◌<◌, ◌≤◌, arith, length}
use Rattle.std.proofs.lemmas.List.{take_more_set}
use Rattle.std.specs.Vec.Iter.{into_iter_items}
use Rattle.ext_c.proofs.Opened.{given_all, given_next, left_none}
use Rattle.ext_c.proofs.filling.take_seats.Goals as goal

pub loop-slot-preserved : goal.loop-slot-preserved
loop-slot-preserved c =
    let lt : c.loop-slot.slot-index < length c.loop-slot.slots = omega (arith, c.loop-slot-test.true, c.loop-slot.auto.slots) in
    given_next c.args.seats.items (into_iter_items c.loop-slot.rest) (into_iter_items c.next.new.self) c.loop-slot.slots _ c.loop-slot.slot-index c.in-Some.seat c.give.new.self c.loop-slot.invariant
    c.in-Some.ensures.items (record { filled = c.give.ensures.state; has = c.give.ensures.seat }) (take_more_set c.loop-slot.slots c.loop-slot.slot-index c.give.new.self lt)

pub unreachable-requires : goal.unreachable-requires
unreachable-requires c =
    let none : length (into_iter_items c.loop-slot.rest) ≡ 0 = omega (arith, c.loop-slot.rest.rest.ok, c.in-None.ensures.cases.0) in
    let lt : c.loop-slot.slot-index < length c.loop-slot.slots = omega (arith, c.loop-slot-test.true, c.loop-slot.auto.slots) in
    left_none c.args.seats.items (into_iter_items c.loop-slot.rest) c.loop-slot.slots c.loop-slot.slot-index c.loop-slot.invariant none lt (c.loop-slot.auto.slots ∙ c.requires)

pub returns : goal.returns
returns c =
    let le : length c.loop-slot.slots ≤ c.loop-slot.slot-index = omega (arith, c.loop-slot-test.false, c.loop-slot.auto.slots) in
    given_all c.args.seats.items (into_iter_items c.loop-slot.rest) c.loop-slot.slots c.loop-slot.slot-index c.loop-slot.invariant le (c.loop-slot.auto.slots ∙ c.requires)
