use Rattle.std.proofs.Common.{[], refl, ap, subst}
use Rattle.ext_cells.specs.Lanes.{Lane}
use Rattle.ext_store.specs.Stores.{StoreView, StoreLane, CloserView}
use Rattle.ext_store.specs.ContextCalls.{SealsUnused}
use Rattle.ext_store.proofs.Frames.{stays_inside}
use Rattle.ext_store.proofs.SealsKeep.{unused_frame}
use Rattle.ext_store.proofs.store.Store.seal_unused.Goals as goal

pub returns-clause-answer : goal.returns-clause-answer
returns-clause-answer g c =
    subst (λ (z : StoreView × Lane × CloserView). SealsUnused z.0 z.2.context c.args.block c.seal_unused.result z.1 c.seal_unused.new.lane) (λ i. (c.self.view_is i, (c.lane.view_is i).cells, c.closer.view_is i)) c.seal_unused.ensures.answer

pub returns-clause-stays : goal.returns-clause-stays
returns-clause-stays g c =
    stays_inside c.args.self.now.id [] (record { cells = c.lane.inside.cells; known = c.lane.inside.notes; faults = c.lane.inside.faults; keys = c.lane.inside.keys }) c.args.lane.now (record { cells = c.seal_unused.new.lane; known = c.lane.inside.notes; faults = c.lane.inside.faults; keys = c.lane.inside.keys }) c.lane.view_is refl
    (unused_frame c.args.self.now.id c.self.inside.shared (record { cells = c.lane.inside.cells; known = c.lane.inside.notes; faults = c.lane.inside.faults; keys = c.lane.inside.keys }) c.args.lane.now (record { cells = c.seal_unused.new.lane; known = c.lane.inside.notes; faults = c.lane.inside.faults; keys = c.lane.inside.keys }) c.lane.view_is c.requires.lane c.seal_unused.ensures.lane refl _ c.args.block c.seal_unused.result c.seal_unused.ensures.answer)

pub returns-clause-keys : goal.returns-clause-keys
returns-clause-keys g c = ap (λ (l : StoreLane g.row.V.Denot). l.keys) c.lane.view_is
