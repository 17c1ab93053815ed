use Rattle.std.proofs.Common.{sym, subst, ◌<◌, arith}
use Rattle.ext_cells.proofs.MarkSteps.{may_end}
use Rattle.ext_cells.proofs.cell_steps.CellSteps.end.Goals as goal

pub fetch_or-requires : goal.fetch_or-requires
fetch_or-requires c =
    let is = c.requires.cells in
    let block = c.requires.block in
    let words = is.words_are in
    let table = is.limits_are in (
      c.requires.table,
      block.1,
      may_end c.args.self.now.table.shared.key _ _ c.args.seat.now.me c.args.block c.requires.lane.0 c.requires.lane.1 table 1 (subst (λ n. n < c.args.block) (sym table) block.0)
          (let less = block.1 in omega (arith, words, table, less)),
    )
