use Rattle.std.proofs.Common.{sym, subst}
use Rattle.ext_model.specs.declared.event.Act.TheVariants.{Seal}
use Rattle.ext_cells.specs.declared.refusal.CellRefusal.TheVariants as refusal
use Rattle.ext_cells.specs.CellCalls.{ComesLast, SealAnswers}
use Rattle.ext_cells.proofs.Answered.{seal_answers, value_last}
use Rattle.ext_cells.proofs.cells.Cells.seal.Goals as goal

pub returns-clause-reply : goal.returns-clause-reply
returns-clause-reply c =
    subst (SealAnswers c.args.self.now.tries c.args.lane.now c.change.new.lane c.args.cell) (sym c.value_number.ensures)
    (seal_answers c.args.self.now.tries c.args.lane.now c.change.new.lane c.args.cell c.change.result c.change.ensures.reply)

pub returns-clause-contended : goal.returns-clause-contended
returns-clause-contended c =
    subst (ComesLast refusal.Contended c.args.self.now.tries c.args.lane.now c.change.new.lane (Seal c.args.cell)) (sym c.value_number.ensures)
    (value_last c.args.self.now.tries c.args.lane.now c.change.new.lane (Seal c.args.cell) c.change.result c.change.ensures.contended)
