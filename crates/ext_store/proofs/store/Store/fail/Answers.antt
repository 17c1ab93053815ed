use Rattle.std.proofs.Common.{[], ◌∷◌, sym, refl, ap, subst}
use Rattle.ext_model.specs.declared.event.Act.TheVariants.{Fail, Abandon}
use Rattle.ext_model.specs.History.{IsLegal}
use Rattle.ext_model.specs.CallActs.{Calls, IsHeld}
use Rattle.ext_cells.specs.Lanes.{CellsId, Lane}
use Rattle.ext_store.specs.Stores.{StoreLane}
use Rattle.ext_store.proofs.Filling.{kept_held, fails_held, fails_with, unkept}
use Rattle.ext_store_core.proofs.Claimed.{none_stored, nor_this}
use Rattle.ext_store.proofs.Frames.{frame_keeps, frame_lane, frames_compose}
use Rattle.ext_store.proofs.Composing.{storing_frame, fail_frame}
use Rattle.ext_history.proofs.Composed.{seen_goes_on}
use Rattle.ext_store.specs.LaneCalls.{KnowsUnkept}
use Rattle.ext_store.proofs.NewDraws.{knows_until}
use Rattle.ext_history.specs.Histories.{seen_by}
use mathlib.Core.List.{IsPrefix}
use Rattle.ext_store.proofs.Contended.{refused_as}
use Rattle.ext_store.proofs.store.Store.fail.Goals as goal

pub fail-requires-clause-held : goal.fail-requires-clause-held
fail-requires-clause-held g c =
    subst (λ (l : Lane). IsHeld l.view c.args.claim) (sym (ap (λ (l : StoreLane g.row.V.Denot). l.cells) c.lane.view_is))
    (kept_held c.args.self.now c.args.lane.now.cells c.keep_fault.new.lane.cells c.requires.lane.cells c.args.claim c.in-Ok.number (subst (λ (z : CellsId). IsLegal z.limits (seen_by c.keep_fault.new.lane.cells.view)) (frame_lane c.args.self.now.id [] c.args.lane.now c.keep_fault.new.lane c.keep_fault.ensures.frame).cells c.tell_proof.ensures.legal) c.in-Ok.ensures.answer.drawn c.requires.held)

pub abandon-requires-clause-held : goal.abandon-requires-clause-held
abandon-requires-clause-held g c =
    subst (λ (l : Lane). IsHeld l.view c.args.claim) (sym (ap (λ (l : StoreLane g.row.V.Denot). l.cells) c.lane.view_is))
    (fails_held c.args.self.now c.args.lane.now.cells c.keep_fault.new.lane.cells c.requires.lane.cells c.args.claim c.in-Err.unkept.1 (subst (λ (z : CellsId). IsLegal z.limits (seen_by c.keep_fault.new.lane.cells.view)) (frame_lane c.args.self.now.id [] c.args.lane.now c.keep_fault.new.lane c.keep_fault.ensures.frame).cells c.tell_proof-in-Err.ensures.legal) c.in-Err.ensures.answer.fails c.requires.held)

pub returns-in-Ok-clause-events : goal.returns-in-Ok-clause-events
returns-in-Ok-clause-events g c =
    let b = c.keep_fault.new.lane.cells in
    let mine = frame_lane c.args.self.now.id [] c.args.lane.now c.keep_fault.new.lane c.keep_fault.ensures.frame in
    let two : Calls c.args.self.now.id.cells.limits b.view c.fail.new.lane.view (Fail c.args.claim c.in-Ok.number ∷ []) =
    subst (λ (z : CellsId). Calls z.limits b.view c.fail.new.lane.view (Fail c.args.claim c.in-Ok.number ∷ [])) {x = b.cells} mine.cells
    (subst (λ (z : Lane). Calls z.cells.limits z.view c.fail.new.lane.view (Fail c.args.claim c.in-Ok.number ∷ [])) (ap (λ (l : StoreLane g.row.V.Denot). l.cells) c.lane.view_is) c.fail.ensures.failed.calls) in
    fails_with c.args.self.now c.args.lane.now.cells b c.requires.lane.cells c.args.claim c.fail.new.lane c.in-Ok.number c.in-Ok.ensures.answer.drawn two

pub returns-in-Ok-clause-frame : goal.returns-in-Ok-clause-frame
returns-in-Ok-clause-frame g c =
    fail_frame c.args.self.now.id c.args.lane.now (record { cells = c.lane.inside.cells; known = c.lane.inside.notes; faults = c.lane.inside.faults; keys = c.lane.inside.keys }) _ (record { cells = c.fail.new.lane; known = c.lane.inside.notes; faults = c.lane.inside.faults; keys = c.lane.inside.keys }) c.lane.view_is c.keep_fault.ensures.frame c.fail.ensures.lane refl
    c.args.claim c.in-Ok.number c.fail.ensures.failed.calls c.in-Ok.ensures.apart

pub returns-in-Err-clause-events : goal.returns-in-Err-clause-events
returns-in-Err-clause-events g c =
    let b = c.keep_fault.new.lane.cells in
    let mine = frame_lane c.args.self.now.id [] c.args.lane.now c.keep_fault.new.lane c.keep_fault.ensures.frame in
    let two : Calls c.args.self.now.id.cells.limits b.view c.abandon.new.lane.view (Abandon c.args.claim ∷ []) =
    subst (λ (z : CellsId). Calls z.limits b.view c.abandon.new.lane.view (Abandon c.args.claim ∷ [])) {x = b.cells} mine.cells
    (subst (λ (z : Lane). Calls z.cells.limits z.view c.abandon.new.lane.view (Abandon c.args.claim ∷ [])) (ap (λ (l : StoreLane g.row.V.Denot). l.cells) c.lane.view_is) c.abandon.ensures.abandoned.calls) in
    unkept c.args.self.now c.args.lane.now.cells b c.requires.lane.cells c.args.claim c.abandon.new.lane c.in-Err.unkept.1 c.in-Err.ensures.answer.fails (λ e. c.in-Err.ensures.contended (refused_as _ _ _ _ c.in-Err.ensures.answer.handed_back e)) two

pub returns-in-Err-clause-frame : goal.returns-in-Err-clause-frame
returns-in-Err-clause-frame g c =
    let mine = frame_lane c.args.self.now.id [] c.args.lane.now c.keep_fault.new.lane c.keep_fault.ensures.frame in
    frames_compose c.args.self.now.id [] [] c.args.lane.now c.keep_fault.new.lane (record { cells = c.abandon.new.lane; known = c.lane.inside.notes; faults = c.lane.inside.faults; keys = c.lane.inside.keys }) c.keep_fault.ensures.frame
    (storing_frame c.args.self.now.id (record { cells = c.lane.inside.cells; known = c.lane.inside.notes; faults = c.lane.inside.faults; keys = c.lane.inside.keys }) c.keep_fault.new.lane (record { cells = c.abandon.new.lane; known = c.lane.inside.notes; faults = c.lane.inside.faults; keys = c.lane.inside.keys }) c.lane.view_is mine c.abandon.ensures.lane refl
    (Abandon c.args.claim ∷ []) (nor_this (Abandon c.args.claim) [] refl none_stored) c.abandon.ensures.abandoned.calls)

pub returns-in-Ok-clause-lane : goal.returns-in-Ok-clause-lane
returns-in-Ok-clause-lane g c = frame_lane c.args.self.now.id [] c.args.lane.now (record { cells = c.fail.new.lane; known = c.lane.inside.notes; faults = c.lane.inside.faults; keys = c.lane.inside.keys }) (returns-in-Ok-clause-frame g c)

pub returns-in-Ok-clause-kept : goal.returns-in-Ok-clause-kept
returns-in-Ok-clause-kept g c = frame_keeps c.args.self.now.id c.args.lane.now (record { cells = c.fail.new.lane; known = c.lane.inside.notes; faults = c.lane.inside.faults; keys = c.lane.inside.keys }) (returns-in-Ok-clause-frame g c)

pub returns-in-Err-clause-lane : goal.returns-in-Err-clause-lane
returns-in-Err-clause-lane g c = frame_lane c.args.self.now.id [] c.args.lane.now (record { cells = c.abandon.new.lane; known = c.lane.inside.notes; faults = c.lane.inside.faults; keys = c.lane.inside.keys }) (returns-in-Err-clause-frame g c)

pub returns-in-Err-clause-kept : goal.returns-in-Err-clause-kept
returns-in-Err-clause-kept g c = frame_keeps c.args.self.now.id c.args.lane.now (record { cells = c.abandon.new.lane; known = c.lane.inside.notes; faults = c.lane.inside.faults; keys = c.lane.inside.keys }) (returns-in-Err-clause-frame g c)

pub returns-in-Err-clause-faults : goal.returns-in-Err-clause-faults
returns-in-Err-clause-faults g c =
    let unkept = c.in-Err.ensures.answer in
    let on = subst (λ (l : StoreLane g.row.V.Denot). IsPrefix (seen_by l.cells.view) (seen_by c.abandon.new.lane.view)) c.lane.view_is (seen_goes_on c.abandon.ensures.abandoned.calls) in (
      unkept.handed_back,
      subst (λ (l : StoreLane g.row.V.Denot). KnowsUnkept c.args.lane.now.cells.view c.abandon.new.lane.view c.args.lane.now.faults l.faults c.in-Err.unkept.1) (sym c.lane.view_is)
          (knows_until c.args.lane.now.cells.view c.keep_fault.new.lane.cells.view c.abandon.new.lane.view c.args.lane.now.faults c.keep_fault.new.lane.faults c.in-Err.unkept.1 on unkept.faults),
    )
