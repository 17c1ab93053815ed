use Rattle.std.proofs.Common.{[], refl, ap, subst}
use Rattle.ext_cells.specs.Lanes.{Lane}
use Rattle.ext_store.specs.Stores.{StoreView, StoreLane, CloserView, cell_in}
use Rattle.ext_store.specs.ContextCalls.{SealsKey}
use Rattle.ext_store.proofs.Frames.{stays_inside}
use Rattle.ext_store.proofs.SealsKeep.{seal_frame}
use Rattle.ext_model.specs.declared.event.Act.TheVariants.{Seal}
use Rattle.ext_cells.specs.CellCalls.{ComesLast}
use Rattle.ext_store_core.specs.declared.fault.Refusal.TheVariants as refusal
use Rattle.ext_store.proofs.store.Store.seal.Goals as goal

pub returns-clause-answer : goal.returns-clause-answer
returns-clause-answer g c =
    subst (λ (z : StoreView × Lane × CloserView). SealsKey z.0 z.2.context c.args.key z.1 c.seal.new.lane c.seal.result) (λ i. (c.self.view_is i, (c.lane.view_is i).cells, c.closer.view_is i)) c.seal.ensures.answer

pub returns-clause-stays : goal.returns-clause-stays
returns-clause-stays g c =
    stays_inside c.args.self.now.id [] (record { cells = c.lane.inside.cells; known = c.lane.inside.notes; faults = c.lane.inside.faults; keys = c.lane.inside.keys }) c.args.lane.now (record { cells = c.seal.new.lane; known = c.lane.inside.notes; faults = c.lane.inside.faults; keys = c.lane.inside.keys }) c.lane.view_is refl
    (seal_frame c.args.self.now.id c.self.inside.shared (record { cells = c.lane.inside.cells; known = c.lane.inside.notes; faults = c.lane.inside.faults; keys = c.lane.inside.keys }) c.args.lane.now (record { cells = c.seal.new.lane; known = c.lane.inside.notes; faults = c.lane.inside.faults; keys = c.lane.inside.keys }) c.lane.view_is c.requires.lane c.seal.ensures.lane refl _ c.args.key c.seal.result c.seal.ensures.answer)

pub returns-clause-keys : goal.returns-clause-keys
returns-clause-keys g c = ap (λ (l : StoreLane g.row.V.Denot). l.keys) c.lane.view_is

pub returns-clause-contended : goal.returns-clause-contended
returns-clause-contended g c =
    subst (λ (z : StoreView × Lane × CloserView). ComesLast refusal.Contended z.0.tries z.1 c.seal.new.lane (Seal (cell_in z.0 c.args.key z.2.context)) c.seal.result) (λ i. (c.self.view_is i, (c.lane.view_is i).cells, c.closer.view_is i)) c.seal.ensures.contended
