use Rattle.std.proofs.Common.{◌≡◌, ◌≤◌, sym, subst, arith}
use Rattle.ext_cells.specs.InnerTableSteps.{index_in}
use Rattle.ext_cells.proofs.Lanes.{may_exchange, made_lane, made_stays, missed_stays}
use Rattle.ext_cells.proofs.cells.Cells.exchange.Goals as goal

pub exchange-found-requires-clause-may : goal.exchange-found-requires-clause-may
exchange-found-requires-clause-may c = (
  c.lane.inside.number,
  may_exchange c.lane.inside.seat.table_id _ _ _ _ _ _ _ c.lane.view_is c.lane.invariant
      (subst (λ z. c.args.index ≡ index_in z.limits c.args.act) (sym c.requires.lane) c.requires.index)
      (let within = c.requires.within in subst (λ z. c.args.index ≤ z.limits.cells) (sym c.requires.lane) (omega (arith, within)))
      c.requires.may,
)

pub invariant_of-lane : goal.invariant_of-lane
invariant_of-lane c = let did = c.exchange-found.ensures in
    made_stays c.lane.inside.seat.table_id _ c.lane.inside.seat.me.0 c.exchange-found.new.seat.me.0 c.lane.inside.number c.args.index c.args.old c.args.new c.exchange-found.result c.args.act _ c.lane.view_is c.lane.invariant did.table (did.made c.if-found-old.true)

pub invariant_of-lane-2 : goal.invariant_of-lane-2
invariant_of-lane-2 c = let did = c.exchange-found.ensures in
    missed_stays c.lane.inside.seat.table_id _ c.lane.inside.seat.me.0 c.exchange-found.new.seat.me.0 c.lane.inside.number c.args.index c.args.old c.args.new c.exchange-found.result c.args.act _ c.lane.view_is c.lane.invariant did.table (did.missed c.if-found-old.false)

pub returns-then-found-old-clause-made : goal.returns-then-found-old-clause-made
returns-then-found-old-clause-made c =
    let did = c.exchange-found.ensures in
    made_lane c.lane.inside.seat.table_id _ c.lane.inside.seat.me.0 c.exchange-found.new.seat.me.0 c.lane.inside.number c.args.index c.args.old c.args.new c.exchange-found.result c.args.act _ c.lane.view_is c.lane.invariant did.table c.requires.may (did.made c.if-found-old.true)
