use Rattle.std.proofs.Common.{arith}
use Rattle.ext_cells.proofs.CountSteps.{may_add, drawn_made, drawn_full}
use Rattle.ext_cells.proofs.cell_steps.CellSteps.draw.Goals as goal

pub fetch_add-requires : goal.fetch_add-requires
fetch_add-requires c =
    let words = c.requires.cells.words_are in
    (c.requires.table, omega (arith, words), may_add c.args.self.now.table.shared.key _ _ c.args.seat.now.me c.args.cells c.requires.lane.0 c.requires.cells.limits_are c.requires.lane.1 c.requires.left)

pub returns-clause-drew : goal.returns-clause-drew
returns-clause-drew c less = drawn_made c.args.seat.now.me c.fetch_add.new.seat.me c.fetch_add.result c.fetch_add.ensures.2 less

pub returns-clause-full : goal.returns-clause-full
returns-clause-full c most = drawn_full c.args.seat.now.me c.fetch_add.new.seat.me c.fetch_add.result c.fetch_add.ensures.2 most
