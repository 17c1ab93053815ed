use Rattle.std.proofs.Common.{◌≡◌, ◌+◌, ap, sym, ◌∙◌}
use Rattle.ext_cells.proofs.BlockEnds.{low_bits, ends_block, end_stays, end_cells, end_steps}
use Rattle.ext_cells.proofs.cells.Cells.end_block.Goals as goal

-- where the block's word stands, as the lane knows the cells
at_block : (c : goal.After-end-found) → c.self.inside.limits.cells + 16 + c.args.block ≡ c.lane.inside.seat.me.0.limits.cells + 16 + c.args.block
at_block c =
    let cells : c.lane.inside.seat.me.0.limits.cells ≡ c.self.inside.limits.cells = ap (λ z. z.cells.limits.cells) c.lane.view_is ∙ ap (λ z. z.limits.cells) c.requires.lane ∙ ap (λ z. z.id.limits.cells) (sym c.self.view_is) in
    ap (λ n. n + 16 + c.args.block) (sym cells)

pub invariant_of-lane : goal.invariant_of-lane
invariant_of-lane c =
    end_stays c.lane.inside.seat.table_id c.end-found.new.seat.table_id c.lane.inside.seat.me c.end-found.new.seat.me c.lane.inside.number c.args.block _ c.end-found.result _ c.args.lane.now c.lane.view_is c.lane.invariant c.end-found.ensures.table (at_block c) (low_bits c.end-found.result) (c.end-found.ensures.ended c.lane.inside.number c.lane.invariant.0)

pub returns-clause-lane : goal.returns-clause-lane
returns-clause-lane c =
    end_cells c.lane.inside.seat.table_id c.end-found.new.seat.table_id c.lane.inside.seat.me c.end-found.new.seat.me c.lane.inside.number c.args.block _ c.end-found.result _ c.args.lane.now c.lane.view_is c.lane.invariant c.end-found.ensures.table (at_block c) (low_bits c.end-found.result) (c.end-found.ensures.ended c.lane.inside.number c.lane.invariant.0)

pub returns-clause-ended : goal.returns-clause-ended
returns-clause-ended c =
    ends_block c.lane.inside.seat.table_id c.end-found.new.seat.table_id c.lane.inside.seat.me c.end-found.new.seat.me c.lane.inside.number c.args.block _ c.end-found.result _ c.args.lane.now c.lane.view_is c.lane.invariant c.end-found.ensures.table (at_block c) (low_bits c.end-found.result) (c.end-found.ensures.ended c.lane.inside.number c.lane.invariant.0)

pub returns-clause-steps : goal.returns-clause-steps
returns-clause-steps c =
    end_steps c.lane.inside.seat.table_id c.end-found.new.seat.table_id c.lane.inside.seat.me c.end-found.new.seat.me c.lane.inside.number c.args.block _ c.end-found.result _ c.args.lane.now c.lane.view_is c.lane.invariant c.end-found.ensures.table (at_block c) (low_bits c.end-found.result) (c.end-found.ensures.ended c.lane.inside.number c.lane.invariant.0)
