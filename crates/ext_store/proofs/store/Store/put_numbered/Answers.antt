use Rattle.std.proofs.Common.{ℕ, refl, sym, subst}
use Rattle.std.specs.Prelude.{Option, Result}
use Rattle.ext_cells.specs.Lanes.{Lane}
use Rattle.ext_store.specs.Stores.{StoreView, StoreLane, cell_in}
use Rattle.ext_store.specs.LaneCalls.{Puts, with_kept, Frame, stored_by}
use Rattle.ext_store_core.proofs.Events.{put_calls}
use Rattle.ext_store.proofs.Keeping.{handed_back}
use Rattle.ext_store.proofs.Frames.{put_frame, stays_inside}
use Rattle.ext_model.specs.declared.event.Act.TheVariants.{Put}
use Rattle.ext_cells.specs.CellCalls.{ComesLast}
use Rattle.ext_store_core.specs.ContextCalls as cells
use Rattle.ext_store_core.specs.declared.fault.Refusal.{Refusal}
use Rattle.ext_store_core.specs.declared.fault.Refusal.TheVariants as refusal
use Rattle.ext_store.proofs.Contended.{back_last}
use Rattle.ext_store.proofs.store.Store.put_numbered.Goals as goal

pub returns-clause-answer : goal.returns-clause-answer
returns-clause-answer g c =
    subst (Puts c.args.self.now c.args.context c.args.key c.args.kept c.args.lane.now.cells c.put-stored.new.lane) (sym c.unless_stored.ensures)
    (subst (λ (z : StoreView × Lane × ℕ). Puts z.0 c.args.context c.args.key z.2 z.1 c.put-stored.new.lane (with_kept z.2 c.put-stored.result)) (λ i. (c.self.view_is i, (c.lane.view_is i).cells, c.kept.view_is i)) c.put-stored.ensures.answer)

pub returns-clause-stays : goal.returns-clause-stays
returns-clause-stays g c =
    let before : StoreLane g.row.V.Denot = record { cells = c.lane.inside.cells; known = c.lane.inside.notes; faults = c.lane.inside.faults; keys = c.lane.inside.keys } in
    let after : StoreLane g.row.V.Denot = record { cells = c.put-stored.new.lane; known = c.lane.inside.notes; faults = c.lane.inside.faults; keys = c.lane.inside.keys } in
    stays_inside c.args.self.now.id (stored_by c.args.kept c.unless_stored.result) before c.args.lane.now after c.lane.view_is refl
    (subst (λ r. Frame c.args.self.now.id (stored_by c.args.kept r) c.args.lane.now after) (sym c.unless_stored.ensures)
    (subst (λ k. Frame c.args.self.now.id (stored_by k (with_kept k c.put-stored.result)) c.args.lane.now after) c.kept.view_is
    (put_frame c.args.self.now.id before c.args.lane.now after c.lane.view_is c.requires.lane c.put-stored.ensures.lane refl c.self.inside.shared c.args.context c.args.key c.kept.inside.number (with_kept c.kept.inside.number c.put-stored.result)
    (put_calls c.self.inside.shared c.args.context c.args.key c.lane.inside.cells c.put-stored.new.lane c.kept.inside.number c.put-stored.result c.put-stored.ensures.answer))))

pub returns-clause-handed_back : goal.returns-clause-handed_back
returns-clause-handed_back g c = handed_back c.args.kept c.put-stored.result _ c.unless_stored.ensures

pub returns-clause-contended : goal.returns-clause-contended
returns-clause-contended g c =
    subst (λ (r : Result (Option ℕ) (ℕ × Refusal)). ComesLast (c.args.kept, refusal.Contended) c.args.self.now.tries c.args.lane.now.cells c.put-stored.new.lane (Put (cell_in c.args.self.now c.args.key c.args.context) c.args.kept) r) (sym c.unless_stored.ensures)
    (subst (λ (z : StoreView × Lane × ℕ). ComesLast (z.2, refusal.Contended) z.0.tries z.1 c.put-stored.new.lane (Put (cell_in z.0 c.args.key c.args.context) z.2) (with_kept z.2 c.put-stored.result)) (λ i. (c.self.view_is i, (c.lane.view_is i).cells, c.kept.view_is i))
    (back_last c.self.inside.shared.tries c.lane.inside.cells c.put-stored.new.lane (Put (cells.cell_in c.self.inside.shared c.args.key c.args.context) c.kept.inside.number) c.kept.inside.number c.put-stored.result c.put-stored.ensures.contended))
