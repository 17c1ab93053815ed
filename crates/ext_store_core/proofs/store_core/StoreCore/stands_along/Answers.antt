use Rattle.std.proofs.Common.{sym, subst}
use Rattle.ext_history.specs.Histories.{seen_by}
use Rattle.ext_model.specs.History.{IsLegal}
use Rattle.ext_cells.specs.Lanes.{CellsId}
use Rattle.ext_store_core.specs.Claiming.{Stands}
use Rattle.ext_store_core.proofs.Missing.{stands_by}
use Rattle.ext_store_core.proofs.store_core.StoreCore.stands_along.Goals as goal

pub returns-clause-stands : goal.returns-clause-stands
returns-clause-stands c =
    subst (Stands c.args.self.now c.args.path.now c.args.key c.args.lane.now c.look_along-looked.new.lane) (sym c.of.ensures)
    (stands_by c.args.self.now c.args.path.now c.args.key c.args.lane.now c.look_along-looked.new.lane c.look_along-looked.result c.look_along-looked.ensures.look)

pub returns-clause-legal : goal.returns-clause-legal
returns-clause-legal c = subst (λ (z : CellsId). IsLegal z.limits (seen_by c.look_along-looked.new.lane.view)) c.look_along-looked.ensures.lane c.tell_proof.ensures.legal
