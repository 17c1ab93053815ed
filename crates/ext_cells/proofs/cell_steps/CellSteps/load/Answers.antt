use Rattle.std.proofs.Common.{ap}
use Rattle.ext_cells.specs.InnerViews.{limits_of}
use Rattle.ext_cells.specs.InnerMarks.{marks}
use Rattle.ext_cells.proofs.WordSteps.{loads}
use Rattle.ext_cells.proofs.Marked.{is_layout}
use Rattle.ext_cells.proofs.cell_steps.CellSteps.load.Goals as goal

pub load-requires : goal.load-requires
load-requires c =
    let limits = c.args.self.now.table.shared.key in
    (c.requires.table, c.requires.index, loads limits (marks limits.cells) _ _ _ c.args.index c.args.index _ (is_layout (limits_of limits)) c.requires.lane.1 c.requires.known)

pub returns-clause-found : goal.returns-clause-found
returns-clause-found c = let e = c.load.ensures.2 in (e.0, e.1, ap (λ z. z.0) e.2)
