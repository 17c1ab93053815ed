use Rattle.std.specs.Prelude.{ℕ, Option, Ok, Err}
use Rattle.ext_model.specs.declared.event.Act.TheVariants.{Put}
use Rattle.ext_cells.specs.CellCalls.{ComesLast}
use Rattle.ext_store_core.specs.declared.fault.Refusal.TheVariants as refusal
use Rattle.std.proofs.Common.{ap, subst, sym}
use Rattle.ext_store_core.specs.ContextCalls.{Puts, ContextCells}
use Rattle.ext_store_core.proofs.Replies.{stored}
use Rattle.ext_store_core.proofs.Refused.{put_refusal, comes_last}
use Rattle.ext_store_core.proofs.store_core.StoreCore.put.Goals as goal

pub at-requires : goal.at-requires
at-requires c = put_refusal c.self.inside.cells.tries c.args.lane.now c.put.new.lane _ _ c.in-Err.why c.in-Err.ensures.reply

pub returns-in-Ok-clause-answer : goal.returns-in-Ok-clause-answer
returns-in-Ok-clause-answer c =
    stored c.args.self.now c.args.context c.args.key c.args.lane.now c.put.new.lane _ _ c.args.number (Ok c.in-Ok.stood) (ap (λ (s : ContextCells). s.tries) c.self.view_is) c.cell-cell.ensures.cell c.in-Ok.ensures.reply

pub returns-in-Err-clause-answer : goal.returns-in-Err-clause-answer
returns-in-Err-clause-answer c =
    subst (λ why. Puts c.args.self.now c.args.context c.args.key c.args.number c.args.lane.now c.put.new.lane (Err (c.args.number, why))) (sym c.at.ensures)
    (stored c.args.self.now c.args.context c.args.key c.args.lane.now c.put.new.lane _ _ c.args.number (Err c.in-Err.why) (ap (λ (s : ContextCells). s.tries) c.self.view_is) c.cell-cell.ensures.cell c.in-Err.ensures.reply)

pub returns-in-Ok-clause-lane : goal.returns-in-Ok-clause-lane
returns-in-Ok-clause-lane c = c.put.ensures.lane

pub returns-in-Err-clause-lane : goal.returns-in-Err-clause-lane
returns-in-Err-clause-lane c = c.put.ensures.lane

pub returns-in-Ok-clause-contended : goal.returns-in-Ok-clause-contended
returns-in-Ok-clause-contended c e = absurd (cc e)

pub returns-in-Err-clause-contended : goal.returns-in-Err-clause-contended
returns-in-Err-clause-contended c =
    subst (λ (z : ℕ × ℕ). ComesLast {A = Option ℕ} refusal.Contended z.0 c.args.lane.now c.put.new.lane (Put z.1 c.args.number) (Err c.at.result)) (λ i. (ap (λ (s : ContextCells). s.tries) c.self.view_is i, c.cell-cell.ensures.cell i))
    (comes_last {A = Option ℕ} c.self.inside.cells.tries c.args.lane.now c.put.new.lane c.args.context (Put c.cell-cell.result c.args.number) c.in-Err.why c.at.result (put_refusal c.self.inside.cells.tries c.args.lane.now c.put.new.lane _ _ c.in-Err.why c.in-Err.ensures.reply) c.at.ensures c.in-Err.ensures.contended)
