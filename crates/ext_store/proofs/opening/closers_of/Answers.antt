use Rattle.std.proofs.Common.{ap}
use Rattle.ext_cells.specs.Lanes.{CellsView}
use Rattle.ext_store.proofs.Fresh.{closers_push}
use Rattle.ext_store.proofs.opening.closers_of.Goals as goal

pub loop-context-preserved : goal.loop-context-preserved
loop-context-preserved c = closers_push c.args.cells.now.id _ _ _ c.loop-context.context c.loop-context.invariant (ap (λ (z : CellsView). z.id) c.of.ensures) c.in_ok-push.ensures.items
