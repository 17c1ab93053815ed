use Rattle.std.proofs.Common.{sym, subst}
use Rattle.ext_model.specs.declared.event.Act.TheVariants.{Remove}
use Rattle.ext_cells.specs.declared.refusal.CellRefusal.TheVariants as refusal
use Rattle.ext_cells.specs.CellCalls.{Answers, ComesLast, change_reply, remove_acts}
use Rattle.ext_cells.proofs.Answered.{remove_answers, number_last}
use Rattle.ext_cells.proofs.cells.Cells.remove.Goals as goal

pub returns-clause-reply : goal.returns-clause-reply
returns-clause-reply c =
    subst (Answers c.args.self.now.tries c.args.lane.now c.change.new.lane (remove_acts c.args.cell) (change_reply c.args.lane.now (Remove c.args.cell))) (sym c.any_number.ensures)
    (remove_answers c.args.self.now.tries c.args.lane.now c.change.new.lane c.args.cell c.change.result c.change.ensures.reply)

pub returns-clause-contended : goal.returns-clause-contended
returns-clause-contended c =
    subst (ComesLast refusal.Contended c.args.self.now.tries c.args.lane.now c.change.new.lane (Remove c.args.cell)) (sym c.any_number.ensures)
    (number_last c.args.self.now.tries c.args.lane.now c.change.new.lane (Remove c.args.cell) c.change.result c.change.ensures.contended)
