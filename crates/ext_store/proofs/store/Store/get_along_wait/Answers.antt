use Rattle.std.proofs.Common.{[], refl, subst}
use Rattle.std.specs.Prelude.{Ok}
use Rattle.ext_cells.specs.Lanes.{Lane}
use Rattle.ext_store.specs.Stores.{StoreView}
use Rattle.ext_store.specs.LaneCalls.{GetsAlong}
use Rattle.ext_store_core.proofs.Events.{along_quiet}
use Rattle.ext_store.proofs.Frames.{quiet_frame, stays_inside}
use Rattle.ext_store.proofs.store.Store.get_along_wait.Goals as goal

pub returns-clause-answer : goal.returns-clause-answer
returns-clause-answer g c = subst (λ (z : StoreView × Lane). GetsAlong z.0 c.args.path.now c.args.key z.1 c.get_along_wait.new.lane (Ok c.get_along_wait.result)) (λ i. (c.self.view_is i, (c.lane.view_is i).cells)) c.get_along_wait.ensures.answer

pub returns-clause-stays : goal.returns-clause-stays
returns-clause-stays g c =
    stays_inside c.args.self.now.id [] (record { cells = c.lane.inside.cells; known = c.lane.inside.notes; faults = c.lane.inside.faults; keys = c.lane.inside.keys }) c.args.lane.now (record { cells = c.get_along_wait.new.lane; known = c.lane.inside.notes; faults = c.lane.inside.faults; keys = c.lane.inside.keys }) c.lane.view_is refl
    (quiet_frame c.args.self.now.id (record { cells = c.lane.inside.cells; known = c.lane.inside.notes; faults = c.lane.inside.faults; keys = c.lane.inside.keys }) c.args.lane.now (record { cells = c.get_along_wait.new.lane; known = c.lane.inside.notes; faults = c.lane.inside.faults; keys = c.lane.inside.keys }) c.lane.view_is c.requires.lane c.get_along_wait.ensures.lane refl
    (along_quiet c.self.inside.shared c.args.path.now c.args.key c.lane.inside.cells c.get_along_wait.new.lane (Ok c.get_along_wait.result) c.get_along_wait.ensures.answer))

pub returns-clause-decided : goal.returns-clause-decided
returns-clause-decided g c = c.get_along_wait.ensures.decided
