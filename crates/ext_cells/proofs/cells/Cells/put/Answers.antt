use Rattle.std.proofs.Common.{sym, subst}
use Rattle.ext_model.specs.declared.event.Act.TheVariants.{Put}
use Rattle.ext_cells.specs.declared.refusal.CellRefusal.TheVariants as refusal
use Rattle.ext_cells.specs.CellCalls.{Answers, ComesLast, change_reply, put_acts}
use Rattle.ext_cells.proofs.Answered.{put_answers, number_last}
use Rattle.ext_cells.proofs.Storable.{refused_storable}
use Rattle.ext_cells.proofs.cells.Cells.put.Goals as goal

pub returns-clause-reply : goal.returns-clause-reply
returns-clause-reply c =
    subst (Answers c.args.self.now.tries c.args.lane.now c.change.new.lane (put_acts c.args.cell c.args.number) (change_reply c.args.lane.now (Put c.args.cell c.args.number))) (sym c.any_number.ensures)
    (put_answers c.args.self.now.tries c.args.lane.now c.change.new.lane c.args.cell c.args.number c.change.result c.change.ensures.reply)

pub returns-clause-contended : goal.returns-clause-contended
returns-clause-contended c =
    subst (ComesLast refusal.Contended c.args.self.now.tries c.args.lane.now c.change.new.lane (Put c.args.cell c.args.number)) (sym c.any_number.ensures)
    (number_last c.args.self.now.tries c.args.lane.now c.change.new.lane (Put c.args.cell c.args.number) c.change.result c.change.ensures.contended)

pub returns-clause-storable : goal.returns-clause-storable
returns-clause-storable c = refused_storable c.args.self.now.tries c.args.lane.now c.change.new.lane c.args.cell c.args.number c.requires.number _ (returns-clause-reply c)
