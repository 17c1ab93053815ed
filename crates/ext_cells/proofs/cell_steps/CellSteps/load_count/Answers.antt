use Rattle.std.proofs.Common.{refl, arith}
use Rattle.ext_cells.proofs.CountSteps.{may_load_count, count_shown}
use Rattle.ext_cells.proofs.cell_steps.CellSteps.load_count.Goals as goal

pub load-count-requires : goal.load-count-requires
load-count-requires c =
    let words = c.requires.cells.words_are in
    (c.requires.table, omega (arith, words), may_load_count c.args.self.now.table.shared.key _ _ c.args.seat.now.me c.args.cells c.requires.lane.0 c.requires.cells.limits_are c.requires.lane.1)

pub returns-then-count-most-clause-found : goal.returns-then-count-most-clause-found
returns-then-count-most-clause-found c =
    let most = c.from-most.ensures in
    let limit = c.requires.numbers in
    let less = c.if-count-most.true in
    count_shown c.args.seat.now.me c.load-count.new.seat.me c.args.cells c.load-count.result _ c.requires.cells.known c.load-count.ensures.2
    (record { left = λ _. refl; full = λ many. absurd (omega (arith, most, limit, less, many)) })

pub returns-clause-found : goal.returns-clause-found
returns-clause-found c =
    let most = c.from-most.ensures in
    let limit = c.requires.numbers in
    let many = c.if-count-most.false in
    count_shown c.args.seat.now.me c.load-count.new.seat.me c.args.cells c.load-count.result _ c.requires.cells.known c.load-count.ensures.2
    (record { left = λ less. absurd (omega (arith, most, limit, less, many)); full = λ _. omega (arith, most, limit) })
