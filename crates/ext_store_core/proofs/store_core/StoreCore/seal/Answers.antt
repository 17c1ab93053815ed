use Rattle.std.specs.Prelude.{ℕ, Option, Err}
use Rattle.std.proofs.Common.{ap, subst}
use Rattle.ext_store_core.specs.ContextCalls.{ContextCells}
use Rattle.ext_model.specs.declared.event.Act.TheVariants.{Seal}
use Rattle.ext_cells.specs.CellCalls.{ComesLast}
use Rattle.ext_store_core.specs.declared.fault.Refusal.TheVariants as refusal
use Rattle.ext_store_core.proofs.Refused.{seal_refusal, comes_last}
use Rattle.ext_store_core.proofs.store_core.StoreCore.seal.Goals as goal

pub at-requires : goal.at-requires
at-requires c = seal_refusal c.self.inside.cells.tries c.args.lane.now c.seal.new.lane _ c.in-Err.why c.in-Err.ensures.reply

pub returns-in-Ok-clause-lane : goal.returns-in-Ok-clause-lane
returns-in-Ok-clause-lane c = c.seal.ensures.lane

pub returns-in-Err-clause-lane : goal.returns-in-Err-clause-lane
returns-in-Err-clause-lane c = c.seal.ensures.lane

pub returns-in-Ok-clause-contended : goal.returns-in-Ok-clause-contended
returns-in-Ok-clause-contended c e = absurd (cc e)

pub returns-in-Err-clause-contended : goal.returns-in-Err-clause-contended
returns-in-Err-clause-contended c =
    subst (λ (z : ℕ × ℕ). ComesLast {A = Option ℕ} refusal.Contended z.0 c.args.lane.now c.seal.new.lane (Seal z.1) (Err c.at.result)) (λ i. (ap (λ (s : ContextCells). s.tries) c.self.view_is i, c.cell-cell.ensures.cell i))
    (comes_last {A = Option ℕ} c.self.inside.cells.tries c.args.lane.now c.seal.new.lane c.args.context (Seal c.cell-cell.result) c.in-Err.why c.at.result (seal_refusal c.self.inside.cells.tries c.args.lane.now c.seal.new.lane _ c.in-Err.why c.in-Err.ensures.reply) c.at.ensures c.in-Err.ensures.contended)
