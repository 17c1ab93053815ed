use Rattle.std.proofs.Common.{◌+◌, ap, sym, ◌∙◌, arith}
use Rattle.ext_model.specs.declared.event.Act.TheVariants.{Keep}
use Rattle.ext_cells.proofs.Lanes.{drew_lane, full_lane, made_stays, missed_stays}
use Rattle.ext_cells.proofs.cells.Cells.draw.Goals as goal

pub invariant_of-lane : goal.invariant_of-lane
invariant_of-lane c =
    let limit = ap (λ z. z.cells.limits.numbers) c.lane.view_is ∙ ap (λ z. z.limits.numbers) c.requires.lane ∙ ap (λ z. z.id.limits.numbers) (sym c.self.view_is) in
    let from = c.from.ensures in
    let less = c.if-count-from.true in
    made_stays c.lane.inside.seat.table_id c.draw-count.new.seat.table_id c.lane.inside.seat.me.0 c.draw-count.new.seat.me.0 c.lane.inside.number _ c.draw-count.result 0 0 (Keep (c.draw-count.result + 1)) _ c.lane.view_is c.lane.invariant c.draw-count.ensures.table
    (c.draw-count.ensures.drew (omega (arith, limit, from, less)))

pub invariant_of-lane-2 : goal.invariant_of-lane-2
invariant_of-lane-2 c =
    let limit = ap (λ z. z.cells.limits.numbers) c.lane.view_is ∙ ap (λ z. z.limits.numbers) c.requires.lane ∙ ap (λ z. z.id.limits.numbers) (sym c.self.view_is) in
    let from = c.from.ensures in
    let most = c.if-count-from.false in
    missed_stays c.lane.inside.seat.table_id c.draw-count.new.seat.table_id c.lane.inside.seat.me.0 c.draw-count.new.seat.me.0 c.lane.inside.number _ 0 0 _ (Keep 0) _ c.lane.view_is c.lane.invariant c.draw-count.ensures.table
    (c.draw-count.ensures.full (omega (arith, limit, from, most)))

pub returns-then-count-from-clause-drew : goal.returns-then-count-from-clause-drew
returns-then-count-from-clause-drew c =
    let limit = ap (λ z. z.cells.limits.numbers) c.lane.view_is ∙ ap (λ z. z.limits.numbers) c.requires.lane ∙ ap (λ z. z.id.limits.numbers) (sym c.self.view_is) in
    let from = c.from.ensures in
    let less = c.if-count-from.true in
    drew_lane c.lane.inside.seat.table_id c.draw-count.new.seat.table_id c.lane.inside.seat.me.0 c.draw-count.new.seat.me.0 c.lane.inside.number _ c.lane.view_is c.lane.invariant c.draw-count.ensures.table c.draw-count.result (omega (arith, limit, from, less))
    (c.draw-count.ensures.drew (omega (arith, limit, from, less)))

pub returns-clause-full : goal.returns-clause-full
returns-clause-full c =
    let limit = ap (λ z. z.cells.limits.numbers) c.lane.view_is ∙ ap (λ z. z.limits.numbers) c.requires.lane ∙ ap (λ z. z.id.limits.numbers) (sym c.self.view_is) in
    let from = c.from.ensures in
    let most = c.if-count-from.false in
    full_lane c.lane.inside.seat.table_id c.draw-count.new.seat.table_id c.lane.inside.seat.me.0 c.draw-count.new.seat.me.0 c.lane.inside.number _ c.lane.view_is c.lane.invariant c.draw-count.ensures.table
    (c.draw-count.ensures.full (omega (arith, limit, from, most)))
