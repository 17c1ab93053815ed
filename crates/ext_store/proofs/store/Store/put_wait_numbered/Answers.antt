use Rattle.std.proofs.Common.{ℕ, refl, sym, subst}
use Rattle.ext_cells.specs.Lanes.{Lane}
use Rattle.ext_store.specs.Stores.{StoreView, StoreLane}
use Rattle.ext_store.specs.LaneCalls.{Puts, with_kept, Frame, stored_by}
use Rattle.ext_store_core.proofs.Events.{put_calls}
use Rattle.ext_store.proofs.Keeping.{handed_back, decided_back}
use Rattle.ext_store.proofs.Frames.{put_frame, stays_inside}
use Rattle.ext_store.proofs.store.Store.put_wait_numbered.Goals as goal

pub returns-clause-answer : goal.returns-clause-answer
returns-clause-answer g c =
    subst (Puts c.args.self.now c.args.context c.args.key c.args.kept c.args.lane.now.cells c.put_wait-stored.new.lane) (sym c.unless_stored.ensures)
    (subst (λ (z : StoreView × Lane × ℕ). Puts z.0 c.args.context c.args.key z.2 z.1 c.put_wait-stored.new.lane (with_kept z.2 c.put_wait-stored.result)) (λ i. (c.self.view_is i, (c.lane.view_is i).cells, c.kept.view_is i)) c.put_wait-stored.ensures.answer)

pub returns-clause-stays : goal.returns-clause-stays
returns-clause-stays g c =
    let before : StoreLane g.row.V.Denot = record { cells = c.lane.inside.cells; known = c.lane.inside.notes; faults = c.lane.inside.faults; keys = c.lane.inside.keys } in
    let after : StoreLane g.row.V.Denot = record { cells = c.put_wait-stored.new.lane; known = c.lane.inside.notes; faults = c.lane.inside.faults; keys = c.lane.inside.keys } in
    stays_inside c.args.self.now.id (stored_by c.args.kept c.unless_stored.result) before c.args.lane.now after c.lane.view_is refl
    (subst (λ r. Frame c.args.self.now.id (stored_by c.args.kept r) c.args.lane.now after) (sym c.unless_stored.ensures)
    (subst (λ k. Frame c.args.self.now.id (stored_by k (with_kept k c.put_wait-stored.result)) c.args.lane.now after) c.kept.view_is
    (put_frame c.args.self.now.id before c.args.lane.now after c.lane.view_is c.requires.lane c.put_wait-stored.ensures.lane refl c.self.inside.shared c.args.context c.args.key c.kept.inside.number (with_kept c.kept.inside.number c.put_wait-stored.result)
    (put_calls c.self.inside.shared c.args.context c.args.key c.lane.inside.cells c.put_wait-stored.new.lane c.kept.inside.number c.put_wait-stored.result c.put_wait-stored.ensures.answer))))

pub returns-clause-handed_back : goal.returns-clause-handed_back
returns-clause-handed_back g c = handed_back c.args.kept c.put_wait-stored.result _ c.unless_stored.ensures

pub returns-clause-decided : goal.returns-clause-decided
returns-clause-decided g c = decided_back c.args.kept c.put_wait-stored.result _ c.unless_stored.ensures c.put_wait-stored.ensures.decided
