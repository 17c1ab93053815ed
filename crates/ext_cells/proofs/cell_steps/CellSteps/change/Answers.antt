use Rattle.ext_cells.specs.InnerViews.{limits_of}
use Rattle.ext_cells.specs.InnerMarks.{marks}
use Rattle.ext_cells.proofs.WordSteps.{exchanges}
use Rattle.ext_cells.proofs.Marked.{is_layout}
use Rattle.ext_cells.proofs.cell_steps.CellSteps.change.Goals as goal

pub compare_exchange_with-requires : goal.compare_exchange_with-requires
compare_exchange_with-requires c =
    let limits = c.args.self.now.table.shared.key in
    (c.requires.table, c.requires.index, exchanges limits (marks limits.cells) _ _ _ c.args.index c.args.index _ _ c.requires.may.0 c.args.act (is_layout (limits_of limits)) c.requires.may.1 c.requires.known)
