use Rattle.std.proofs.Common.{[], ◌∷◌, refl}
use Rattle.ext_model.specs.declared.event.Act.TheVariants.{Abandon}
use Rattle.ext_store_core.proofs.Claimed.{none_stored, nor_this}
use Rattle.ext_store.proofs.Composing.{storing_frame}
use Rattle.ext_store.proofs.Frames.{stays_inside}
use Rattle.ext_store.proofs.store.Store.abandon_quietly.Goals as goal

pub returns-clause-stays : goal.returns-clause-stays
returns-clause-stays g c =
    stays_inside c.args.self.now.id [] (record { cells = c.lane.inside.cells; known = c.lane.inside.notes; faults = c.lane.inside.faults; keys = c.lane.inside.keys }) c.args.lane.now (record { cells = c.abandon_quietly.new.lane; known = c.lane.inside.notes; faults = c.lane.inside.faults; keys = c.lane.inside.keys }) c.lane.view_is refl
    (storing_frame c.args.self.now.id (record { cells = c.lane.inside.cells; known = c.lane.inside.notes; faults = c.lane.inside.faults; keys = c.lane.inside.keys }) c.args.lane.now (record { cells = c.abandon_quietly.new.lane; known = c.lane.inside.notes; faults = c.lane.inside.faults; keys = c.lane.inside.keys }) c.lane.view_is c.requires.lane c.abandon_quietly.ensures.lane refl
    (Abandon c.args.claim ∷ []) (nor_this (Abandon c.args.claim) [] refl none_stored) c.abandon_quietly.ensures.abandoned.calls)
