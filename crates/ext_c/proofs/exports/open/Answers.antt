use Rattle.std.proofs.Common.{rules, sym, refl, length, ◌∙◌}
use Rattle.ext_store.specs.Stores.{closers_below}
use Rattle.ext_c.specs.Limits.{AreInRange}
use Rattle.ext_c.specs.Opening.{AreEmpty, OpenSays, lanes_below}
use Rattle.ext_c.proofs.Opened.{have_lanes, open_no_tree, seat_count}
use Rattle.ext_c.proofs.exports.open.Goals as goal

pub returns-in-Err-clause-says : goal.returns-in-Err-clause-says
returns-in-Err-clause-says c =
    let empty : AreEmpty c.args.slots.now = search rules in
    let within : AreInRange c.args.limits = search rules in
    open_no_tree c.args.bytes.now c.args.lengths.now c.args.limits c.args.slots.now c.in-Err.code empty within c.in-Err.ensures.refused

pub take_seats-requires : goal.take_seats-requires
take_seats-requires c =
    let are = c.in-Some.ensures in
    sym (seat_count are.store c.args.limits.lanes (closers_below are.store.id.cells (length are.store.tree)) c.in-Some.seats.items are.seats_are ∙ c.requires.lanes)

pub returns-in-Some-clause-says : goal.returns-in-Some-clause-says
returns-in-Some-clause-says c =
    let empty : AreEmpty c.args.slots.now = search rules in
    let are = c.in-Some.ensures in
    OpenSays.opened empty c.in-Ok.ensures.texts c.in-Ok.tree c.in-Ok.ensures.ids c.in-Ok.ensures.tree are.store are.is
    (have_lanes are.store (lanes_below are.store c.args.limits.lanes) (closers_below are.store.id.cells (length are.store.tree)) c.in-Some.seats.items c.take_seats.new.slots are.seats_are refl
    c.take_seats.ensures)
    refl

pub returns-in-None-clause-says : goal.returns-in-None-clause-says
returns-in-None-clause-says c =
    let empty : AreEmpty c.args.slots.now = search rules in
    let within : AreInRange c.args.limits = search rules in
    OpenSays.no_memory empty within c.in-Ok.ensures.texts refl refl
