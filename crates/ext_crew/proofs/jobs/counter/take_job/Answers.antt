use Rattle.std.proofs.Common.{◌<◌, length, ap, sym, ◌∙◌, subst, rules}
use Rattle.std.specs.Prelude.{slice_get, Option}
use Rattle.std.specs.Option.{IsSome}
use Rattle.ext_crew.specs.InnerCounter.{item_in, slot_of}
use Rattle.ext_crew.specs.declared.jobs.slot.Slot.{Slot}
use Rattle.ext_crew.proofs.Draws.{taken_slot, holds_one, same_value, item_in-slot_of, some_item}
use Rattle.ext_crew.proofs.jobs.counter.take_job.Goals as goal

pub exchange-requires : goal.exchange-requires
exchange-requires g c =
    let items = c.args.counter.now.key.value.items in
    let one = taken_slot items c.args.hand.now.me.1 c.args.number c.requires.slots (search rules) in
    (c.requires.table, (slot_of (slice_get items c.args.number), holds_one c.args.hand.now.me.1 c.args.number _ one))

pub unwrap-item-requires : goal.unwrap-item-requires
unwrap-item-requires g c =
    let items = c.args.counter.now.key.value.items in
    let few : c.args.number < length items = search rules in
    let one = taken_slot items c.args.hand.now.me.1 c.args.number c.requires.slots few in
    let is = same_value c.args.hand.now.me.1 c.args.number _ c.exchange.result one c.exchange.ensures.2 in
    let x = some_item items c.args.number few in
    let I : Slot g.row.T.Denot g.row.O.Denot → Option g.row.T.Denot = λ y. item_in y in
    let S : Option g.row.T.Denot → Type 0 = λ o. IsSome o in
    subst S (sym x.1 ∙ (sym (item_in-slot_of g.row.O.Denot (slice_get items c.args.number)) ∙ (ap I is ∙ sym c.into_item.ensures))) (search rules)
