use Rattle.std.proofs.Common.{[], refl, subst}
use Rattle.ext_cells.specs.Lanes.{Lane}
use Rattle.ext_store.specs.Stores.{StoreView, cell_in}
use Rattle.ext_store.specs.LaneCalls.{Removes}
use Rattle.ext_store_core.proofs.Events.{remove_calls}
use Rattle.ext_store.proofs.Frames.{remove_frame, stays_inside}
use Rattle.ext_model.specs.declared.event.Act.TheVariants.{Remove}
use Rattle.ext_cells.specs.CellCalls.{ComesLast}
use Rattle.ext_store_core.specs.declared.fault.Refusal.TheVariants as refusal
use Rattle.ext_store.proofs.store.Store.remove_numbered.Goals as goal

pub returns-clause-answer : goal.returns-clause-answer
returns-clause-answer g c = subst (λ (z : StoreView × Lane). Removes z.0 c.args.context c.args.key z.1 c.remove.new.lane c.remove.result) (λ i. (c.self.view_is i, (c.lane.view_is i).cells)) c.remove.ensures.answer

pub returns-clause-stays : goal.returns-clause-stays
returns-clause-stays g c =
    stays_inside c.args.self.now.id [] (record { cells = c.lane.inside.cells; known = c.lane.inside.notes; faults = c.lane.inside.faults; keys = c.lane.inside.keys }) c.args.lane.now (record { cells = c.remove.new.lane; known = c.lane.inside.notes; faults = c.lane.inside.faults; keys = c.lane.inside.keys }) c.lane.view_is refl
    (remove_frame c.args.self.now.id (record { cells = c.lane.inside.cells; known = c.lane.inside.notes; faults = c.lane.inside.faults; keys = c.lane.inside.keys }) c.args.lane.now (record { cells = c.remove.new.lane; known = c.lane.inside.notes; faults = c.lane.inside.faults; keys = c.lane.inside.keys }) c.lane.view_is c.requires.lane c.remove.ensures.lane refl c.self.inside.shared c.args.context c.args.key c.remove.result
    (remove_calls c.self.inside.shared c.args.context c.args.key c.lane.inside.cells c.remove.new.lane c.remove.result c.remove.ensures.answer))

pub returns-clause-contended : goal.returns-clause-contended
returns-clause-contended g c =
    subst (λ (z : StoreView × Lane). ComesLast refusal.Contended z.0.tries z.1 c.remove.new.lane (Remove (cell_in z.0 c.args.key c.args.context)) c.remove.result) (λ i. (c.self.view_is i, (c.lane.view_is i).cells)) c.remove.ensures.contended
