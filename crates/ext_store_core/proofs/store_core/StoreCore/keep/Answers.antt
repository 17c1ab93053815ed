use Rattle.std.proofs.Common.{ap, subst}
use Rattle.ext_model.specs.declared.event.Act.TheVariants.{Keep}
use Rattle.ext_cells.specs.declared.refusal.CellRefusal.TheVariants as refusal
use Rattle.ext_cells.specs.CellCalls as cells
use Rattle.ext_cells.specs.CellCalls.{ComesLast}
use Rattle.ext_store_core.specs.ContextCalls.{ContextCells}
use Rattle.ext_store_core.proofs.store_core.StoreCore.keep.Goals as goal

pub returns-clause-reply : goal.returns-clause-reply
returns-clause-reply c =
    subst (λ tries. cells.Answers tries c.args.lane.now c.next_number.new.lane cells.number_acts (cells.number_reply c.args.lane.now) c.next_number.result) (ap (λ (x : ContextCells). x.tries) c.self.view_is) c.next_number.ensures.reply

pub returns-clause-contended : goal.returns-clause-contended
returns-clause-contended c =
    subst (λ tries. ComesLast refusal.Contended tries c.args.lane.now c.next_number.new.lane (Keep 0) c.next_number.result) (ap (λ (x : ContextCells). x.tries) c.self.view_is) c.next_number.ensures.contended
