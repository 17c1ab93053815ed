use Rattle.std.proofs.Common.{[], ◌∷◌, refl}
use Rattle.ext_model.specs.declared.event.Act.TheVariants.{Abandon}
use Rattle.ext_store_core.proofs.Claimed.{none_stored, nor_this}
use Rattle.ext_store.proofs.Composing.{storing_frame}
use Rattle.ext_store.proofs.store.Store.end_failed_decided.Goals as goal

pub returns-then-not-keeps_faults-clause-frame : goal.returns-then-not-keeps_faults-clause-frame
returns-then-not-keeps_faults-clause-frame g c =
    storing_frame c.args.self.now.id (record { cells = c.lane.inside.cells; known = c.lane.inside.notes; faults = c.lane.inside.faults; keys = c.lane.inside.keys }) c.args.lane.now (record { cells = c.abandon.new.lane; known = c.lane.inside.notes; faults = c.lane.inside.faults; keys = c.lane.inside.keys }) c.lane.view_is c.requires.lane c.abandon.ensures.lane refl
    (Abandon c.args.claim ∷ []) (nor_this (Abandon c.args.claim) [] refl none_stored) c.abandon.ensures.abandoned.calls
