use Rattle.std.proofs.Common.{◌≡◌, [], sym, refl, ap, ◌∙◌, subst}
use Rattle.std.specs.Prelude.{Ok, Err}
use Rattle.std.specs.Fn.{FnOnceReturnsAt}
use Rattle.ext_history.specs.Histories.{seen_by}
use Rattle.ext_model.specs.History.{IsLegal}
use Rattle.ext_cells.specs.Lanes.{CellsId, Lane}
use Rattle.ext_values.specs.Known.{Learns}
use Rattle.ext_store.specs.Stores.{StoreLane, StoreView, context_cells}
use Rattle.ext_store.specs.declared.computed.Compute.TheVariants.{Unkept}
use Rattle.ext_store.specs.Computing.{ComputesFrom, without_factory}
use Rattle.ext_store.proofs.NewDraws.{frame_on}
use Rattle.ext_store.proofs.Numbered.{uses_later}
use Rattle.ext_store_core.specs.Waiting.{ClaimsAlongAfterWaits}
use Rattle.ext_store.specs.Waiting.{ComputesAlongAfterWaits}
use Rattle.ext_store.proofs.Frames.{frame_keeps, frames_compose, grows}
use Rattle.ext_store.proofs.Composing.{unused_computes, ends_failed, failed_uses, failed_back, failed_apart, failed_faultless, computes, keeps_not}
use Rattle.ext_store.proofs.Waited.{computes_later, waits_frame, waits_held}
use Rattle.ext_store.proofs.Faulting.{along_faultless, handed_faultless}
use Rattle.ext_store.proofs.Uncalled.{unused_apart, unused_back, unused_decided, unused_uses}
use Rattle.ext_store.proofs.store.Store.compute_along_wait_named.Goals as goal

pub run_factory-requires-clause-held : goal.run_factory-requires-clause-held
run_factory-requires-clause-held g c = waits_held c.self.inside.shared c.args.path.now c.args.key c.lane.inside.cells.view c.claim_along_wait.new.lane.view c.in-Ok.claim c.in-Ok.ensures.claim

pub fill_decided-requires-clause-held : goal.fill_decided-requires-clause-held
fill_decided-requires-clause-held g c = waits_held c.self.inside.shared c.args.path.now c.args.key c.lane.inside.cells.view c.claim_along_wait.new.lane.view c.in-Ok.claim c.in-Ok.ensures.claim

pub end_failed_decided-requires-clause-held : goal.end_failed_decided-requires-clause-held
end_failed_decided-requires-clause-held g c = waits_held c.self.inside.shared c.args.path.now c.args.key c.lane.inside.cells.view c.claim_along_wait.new.lane.view c.in-Ok.claim c.in-Ok.ensures.claim

pub returns-in-Err-clause-answer : goal.returns-in-Err-clause-answer
returns-in-Err-clause-answer g c =
    let s = c.args.self.now in
    let lane : c.lane.inside.cells ≡ c.args.lane.now.cells = ap (λ (l : StoreLane g.row.V.Denot). l.cells) c.lane.view_is in
    let a = c.args.lane.now.cells in
    let b = c.claim_along_wait.new.lane in
    let w : ClaimsAlongAfterWaits (context_cells s) c.args.path.now c.args.key a.view b.view (Err c.in-Err.why) =
    subst (λ (z : StoreView × Lane). ClaimsAlongAfterWaits (context_cells z.0) c.args.path.now c.args.key z.1.view b.view (Err c.in-Err.why)) (λ i. (c.self.view_is i, lane i)) c.in-Err.ensures.claim in
    subst (λ r. ComputesAlongAfterWaits s c.args.path.now c.args.key a b (without_factory r)) (sym c.hand_back.ensures)
    (computes_later s c.args.path.now c.args.key a b b.view (Err c.in-Err.why) w _ c.requires.lane.cells (λ context ancestors m. unused_computes g.row.V.Denot s context ancestors c.args.key w.between b.view c.args.factory c.in-Err.why m))

pub returns-in-Err-clause-grows : goal.returns-in-Err-clause-grows
returns-in-Err-clause-grows g c =
    grows c.args.self.now.id c.args.lane.now (record { cells = c.claim_along_wait.new.lane; known = c.lane.inside.notes; faults = c.lane.inside.faults; keys = c.lane.inside.keys })
    (waits_frame c.args.self.now.id (record { cells = c.lane.inside.cells; known = c.lane.inside.notes; faults = c.lane.inside.faults; keys = c.lane.inside.keys }) c.args.lane.now (record { cells = c.claim_along_wait.new.lane; known = c.lane.inside.notes; faults = c.lane.inside.faults; keys = c.lane.inside.keys }) c.lane.view_is c.requires.lane c.claim_along_wait.ensures.lane refl
    c.self.inside.shared (ap (λ (s : StoreView). s.id.cells) c.self.view_is) c.args.path.now c.args.key (Err c.in-Err.why) c.in-Err.ensures.claim)

pub returns-in-Ok-fill_decided-clause-answer : goal.returns-in-Ok-fill_decided-clause-answer
unfolding ComputesFrom
returns-in-Ok-fill_decided-clause-answer g c =
    let s = c.args.self.now in
    let lane : c.lane.inside.cells ≡ c.args.lane.now.cells = ap (λ (l : StoreLane g.row.V.Denot). l.cells) c.lane.view_is in
    let a = c.args.lane.now.cells in
    let b = c.claim_along_wait.new.lane in
    let w : ClaimsAlongAfterWaits (context_cells s) c.args.path.now c.args.key a.view b.view (Ok c.in-Ok.claim) =
    subst (λ (z : StoreView × Lane). ClaimsAlongAfterWaits (context_cells z.0) c.args.path.now c.args.key z.1.view b.view (Ok c.in-Ok.claim)) (λ i. (c.self.view_is i, lane i)) c.in-Ok.ensures.claim in
    computes_later s c.args.path.now c.args.key a c.fill_decided.new.lane.cells b.view (Ok c.in-Ok.claim) w _ c.requires.lane.cells
    (λ context ancestors m. computes s context ancestors c.args.key c.in-Ok.claim w.between b.view c.fill_decided.new.lane.cells.view m c.in-Ok-fill_decided.number c.in-Ok-fill_decided.ensures.events)

pub returns-in-Err-fill_decided-clause-answer : goal.returns-in-Err-fill_decided-clause-answer
unfolding ComputesFrom
returns-in-Err-fill_decided-clause-answer g c =
    let s = c.args.self.now in
    let lane : c.lane.inside.cells ≡ c.args.lane.now.cells = ap (λ (l : StoreLane g.row.V.Denot). l.cells) c.lane.view_is in
    let a = c.args.lane.now.cells in
    let b = c.claim_along_wait.new.lane in
    let w : ClaimsAlongAfterWaits (context_cells s) c.args.path.now c.args.key a.view b.view (Ok c.in-Ok.claim) =
    subst (λ (z : StoreView × Lane). ClaimsAlongAfterWaits (context_cells z.0) c.args.path.now c.args.key z.1.view b.view (Ok c.in-Ok.claim)) (λ i. (c.self.view_is i, lane i)) c.in-Ok.ensures.claim in
    computes_later s c.args.path.now c.args.key a c.fill_decided.new.lane.cells b.view (Ok c.in-Ok.claim) w _ c.requires.lane.cells
    (λ context ancestors m. keeps_not s context ancestors c.args.key c.in-Ok.claim w.between b.view c.fill_decided.new.lane.cells.view m c.in-Err-fill_decided.cause c.in-Err-fill_decided.ensures.events)

pub returns-in-Ok-fill_decided-clause-grows : goal.returns-in-Ok-fill_decided-clause-grows
returns-in-Ok-fill_decided-clause-grows g c =
    let s = c.args.self.now in
    let inside : StoreLane g.row.V.Denot = record { cells = c.lane.inside.cells; known = c.lane.inside.notes; faults = c.lane.inside.faults; keys = c.lane.inside.keys } in
    let claimed : StoreLane g.row.V.Denot = record { cells = c.claim_along_wait.new.lane; known = c.lane.inside.notes; faults = c.lane.inside.faults; keys = c.lane.inside.keys } in
    grows s.id c.args.lane.now c.fill_decided.new.lane
    (frames_compose s.id [] [] c.args.lane.now claimed c.fill_decided.new.lane (waits_frame s.id inside c.args.lane.now claimed c.lane.view_is c.requires.lane c.claim_along_wait.ensures.lane refl c.self.inside.shared (ap (λ (s : StoreView). s.id.cells) c.self.view_is) c.args.path.now c.args.key (Ok c.in-Ok.claim) c.in-Ok.ensures.claim) c.fill_decided.ensures.frame)

pub returns-in-Err-fill_decided-clause-grows : goal.returns-in-Err-fill_decided-clause-grows
returns-in-Err-fill_decided-clause-grows g c =
    let s = c.args.self.now in
    let inside : StoreLane g.row.V.Denot = record { cells = c.lane.inside.cells; known = c.lane.inside.notes; faults = c.lane.inside.faults; keys = c.lane.inside.keys } in
    let claimed : StoreLane g.row.V.Denot = record { cells = c.claim_along_wait.new.lane; known = c.lane.inside.notes; faults = c.lane.inside.faults; keys = c.lane.inside.keys } in
    grows s.id c.args.lane.now c.fill_decided.new.lane
    (frames_compose s.id [] [] c.args.lane.now claimed c.fill_decided.new.lane (waits_frame s.id inside c.args.lane.now claimed c.lane.view_is c.requires.lane c.claim_along_wait.ensures.lane refl c.self.inside.shared (ap (λ (s : StoreView). s.id.cells) c.self.view_is) c.args.path.now c.args.key (Ok c.in-Ok.claim) c.in-Ok.ensures.claim) c.fill_decided.ensures.frame)

pub returns-in-Ok-fill_decided-clause-apart : goal.returns-in-Ok-fill_decided-clause-apart
returns-in-Ok-fill_decided-clause-apart g c m kept =
    let s = c.args.self.now in
    let inside : StoreLane g.row.V.Denot = record { cells = c.lane.inside.cells; known = c.lane.inside.notes; faults = c.lane.inside.faults; keys = c.lane.inside.keys } in
    let claimed : StoreLane g.row.V.Denot = record { cells = c.claim_along_wait.new.lane; known = c.lane.inside.notes; faults = c.lane.inside.faults; keys = c.lane.inside.keys } in
    c.in-Ok-fill_decided.ensures.apart m
    (frame_keeps s.id c.args.lane.now claimed
    (waits_frame s.id inside c.args.lane.now claimed c.lane.view_is c.requires.lane c.claim_along_wait.ensures.lane refl c.self.inside.shared (ap (λ (s : StoreView). s.id.cells) c.self.view_is) c.args.path.now c.args.key (Ok c.in-Ok.claim) c.in-Ok.ensures.claim) m kept)

-- what the factory answered it answered for the key of the number

pub returns-in-Ok-fill_decided-clause-factory : goal.returns-in-Ok-fill_decided-clause-factory
returns-in-Ok-fill_decided-clause-factory g c =
    let learnt = subst (λ (l : StoreLane g.row.V.Denot). Learns l.known c.fill_decided.new.lane.known c.in-Ok-fill_decided.number c.in-Ok-run_factory.value) c.lane.view_is c.in-Ok-fill_decided.ensures.known in
    (c.in-Ok-run_factory.value, c.in-Ok-run_factory.ensures, learnt, c.fill_decided.ensures.faults ∙ ap (λ (l : StoreLane g.row.V.Denot). l.faults) c.lane.view_is)

pub returns-in-Err-fill_decided-clause-factory : goal.returns-in-Err-fill_decided-clause-factory
returns-in-Err-fill_decided-clause-factory g c =
    let kept = c.in-Err-fill_decided.ensures.known in
    let returned = subst (λ value. FnOnceReturnsAt g.F.FnOnce c.args.factory c.args.name.now (Ok value)) (sym kept.0) c.in-Ok-run_factory.ensures in
    let s = c.args.self.now in
    let inside : StoreLane g.row.V.Denot = record { cells = c.lane.inside.cells; known = c.lane.inside.notes; faults = c.lane.inside.faults; keys = c.lane.inside.keys } in
    let claimed : StoreLane g.row.V.Denot = record { cells = c.claim_along_wait.new.lane; known = c.lane.inside.notes; faults = c.lane.inside.faults; keys = c.lane.inside.keys } in
    let framed = (waits_frame s.id inside c.args.lane.now claimed c.lane.view_is c.requires.lane c.claim_along_wait.ensures.lane refl c.self.inside.shared (ap (λ (s : StoreView). s.id.cells) c.self.view_is) c.args.path.now c.args.key (Ok c.in-Ok.claim) c.in-Ok.ensures.claim) in
    uses_later (λ answer. FnOnceReturnsAt g.F.FnOnce c.args.factory c.args.name.now answer) c.args.lane.now claimed c.fill_decided.new.lane (frame_on s.id [] c.args.lane.now claimed framed)
    (ap (λ (l : StoreLane g.row.V.Denot). l.known) c.lane.view_is) (ap (λ (l : StoreLane g.row.V.Denot). l.faults) c.lane.view_is) (Unkept c.in-Err-fill_decided.value c.in-Err-fill_decided.cause) (returned, kept.1, c.fill_decided.ensures.faults)

-- ---- what the frames say, and what comes of a factory that is not called

pub returns-in-Ok-fill_decided-clause-handed_back : goal.returns-in-Ok-fill_decided-clause-handed_back
returns-in-Ok-fill_decided-clause-handed_back g c = tt

pub returns-in-Ok-fill_decided-clause-decided : goal.returns-in-Ok-fill_decided-clause-decided
returns-in-Ok-fill_decided-clause-decided g c = tt

pub returns-in-Err-fill_decided-clause-handed_back : goal.returns-in-Err-fill_decided-clause-handed_back
returns-in-Err-fill_decided-clause-handed_back g c = tt

pub returns-in-Err-fill_decided-clause-apart : goal.returns-in-Err-fill_decided-clause-apart
returns-in-Err-fill_decided-clause-apart g c = tt

pub returns-in-Err-fill_decided-clause-decided : goal.returns-in-Err-fill_decided-clause-decided
returns-in-Err-fill_decided-clause-decided g c = c.in-Err-fill_decided.ensures.decided

pub returns-in-Err-clause-handed_back : goal.returns-in-Err-clause-handed_back
returns-in-Err-clause-handed_back g c = unused_back c.args.factory c.in-Err.why c.hand_back.result c.hand_back.ensures

pub returns-in-Err-clause-apart : goal.returns-in-Err-clause-apart
returns-in-Err-clause-apart g c = unused_apart c.args.factory c.in-Err.why c.hand_back.result c.hand_back.ensures _

pub returns-in-Err-clause-factory : goal.returns-in-Err-clause-factory
returns-in-Err-clause-factory g c = unused_uses c.args.factory c.in-Err.why c.hand_back.result c.hand_back.ensures (λ answer. FnOnceReturnsAt g.F.FnOnce c.args.factory c.args.name.now answer) c.args.lane.now (record { cells = c.claim_along_wait.new.lane; known = c.lane.inside.notes; faults = c.lane.inside.faults; keys = c.lane.inside.keys }) (ap (λ (l : StoreLane g.row.V.Denot). l.known) c.lane.view_is) (ap (λ (l : StoreLane g.row.V.Denot). l.faults) c.lane.view_is)

pub returns-in-Err-clause-decided : goal.returns-in-Err-clause-decided
returns-in-Err-clause-decided g c = unused_decided c.args.factory c.in-Err.why c.hand_back.result c.hand_back.ensures c.in-Err.ensures.decided

-- ---- where the factory failed

pub returns-in-Err-run_factory-clause-answer : goal.returns-in-Err-run_factory-clause-answer
returns-in-Err-run_factory-clause-answer g c =
    let s = c.args.self.now in
    let lane : c.lane.inside.cells ≡ c.args.lane.now.cells = ap (λ (l : StoreLane g.row.V.Denot). l.cells) c.lane.view_is in
    let a = c.args.lane.now.cells in
    let b = c.claim_along_wait.new.lane in
    let claimed : StoreLane g.row.V.Denot = (record { cells = c.claim_along_wait.new.lane; known = c.lane.inside.notes; faults = c.lane.inside.faults; keys = c.lane.inside.keys }) in
    let w : ClaimsAlongAfterWaits (context_cells s) c.args.path.now c.args.key a.view b.view (Ok c.in-Ok.claim) =
    subst (λ (z : StoreView × Lane). ClaimsAlongAfterWaits (context_cells z.0) c.args.path.now c.args.key z.1.view b.view (Ok c.in-Ok.claim)) (λ i. (c.self.view_is i, lane i)) c.in-Ok.ensures.claim in
    computes_later s c.args.path.now c.args.key a c.end_failed_decided.new.lane.cells b.view (Ok c.in-Ok.claim) w _ c.requires.lane.cells
    (λ context ancestors m. ends_failed s c.in-Err-run_factory.fault c.in-Ok.claim claimed c.end_failed_decided.new.lane context ancestors c.args.key w.between m (without_factory c.end_failed_decided.result) c.end_failed_decided.ensures.ends)

pub returns-in-Err-run_factory-clause-grows : goal.returns-in-Err-run_factory-clause-grows
returns-in-Err-run_factory-clause-grows g c =
    let s = c.args.self.now in
    let inside : StoreLane g.row.V.Denot = record { cells = c.lane.inside.cells; known = c.lane.inside.notes; faults = c.lane.inside.faults; keys = c.lane.inside.keys } in
    let claimed : StoreLane g.row.V.Denot = (record { cells = c.claim_along_wait.new.lane; known = c.lane.inside.notes; faults = c.lane.inside.faults; keys = c.lane.inside.keys }) in
    grows s.id c.args.lane.now c.end_failed_decided.new.lane
    (frames_compose s.id [] [] c.args.lane.now claimed c.end_failed_decided.new.lane (waits_frame s.id inside c.args.lane.now claimed c.lane.view_is c.requires.lane c.claim_along_wait.ensures.lane refl c.self.inside.shared (ap (λ (s : StoreView). s.id.cells) c.self.view_is) c.args.path.now c.args.key (Ok c.in-Ok.claim) c.in-Ok.ensures.claim) c.end_failed_decided.ensures.frame)

pub returns-in-Err-run_factory-clause-factory : goal.returns-in-Err-run_factory-clause-factory
returns-in-Err-run_factory-clause-factory g c =
    let s = c.args.self.now in
    let claimed : StoreLane g.row.V.Denot = (record { cells = c.claim_along_wait.new.lane; known = c.lane.inside.notes; faults = c.lane.inside.faults; keys = c.lane.inside.keys }) in
    let used = failed_uses s c.in-Err-run_factory.fault c.in-Ok.claim claimed c.end_failed_decided.new.lane (λ answer. FnOnceReturnsAt g.F.FnOnce c.args.factory c.args.name.now answer) c.in-Err-run_factory.ensures (without_factory c.end_failed_decided.result) c.end_failed_decided.ensures.ends in
    let inside : StoreLane g.row.V.Denot = record { cells = c.lane.inside.cells; known = c.lane.inside.notes; faults = c.lane.inside.faults; keys = c.lane.inside.keys } in
    let framed = (waits_frame s.id inside c.args.lane.now claimed c.lane.view_is c.requires.lane c.claim_along_wait.ensures.lane refl c.self.inside.shared (ap (λ (s : StoreView). s.id.cells) c.self.view_is) c.args.path.now c.args.key (Ok c.in-Ok.claim) c.in-Ok.ensures.claim) in
    uses_later (λ answer. FnOnceReturnsAt g.F.FnOnce c.args.factory c.args.name.now answer) c.args.lane.now claimed c.end_failed_decided.new.lane (frame_on s.id [] c.args.lane.now claimed framed)
    (ap (λ (l : StoreLane g.row.V.Denot). l.known) c.lane.view_is) (ap (λ (l : StoreLane g.row.V.Denot). l.faults) c.lane.view_is) (without_factory c.end_failed_decided.result) used

pub returns-in-Err-run_factory-clause-handed_back : goal.returns-in-Err-run_factory-clause-handed_back
returns-in-Err-run_factory-clause-handed_back g c = failed_back c.args.self.now c.in-Err-run_factory.fault c.in-Ok.claim (record { cells = c.claim_along_wait.new.lane; known = c.lane.inside.notes; faults = c.lane.inside.faults; keys = c.lane.inside.keys }) c.end_failed_decided.new.lane c.args.factory c.end_failed_decided.result c.end_failed_decided.ensures.ends

pub returns-in-Err-run_factory-clause-apart : goal.returns-in-Err-run_factory-clause-apart
returns-in-Err-run_factory-clause-apart g c = failed_apart c.args.self.now c.in-Err-run_factory.fault c.in-Ok.claim (record { cells = c.claim_along_wait.new.lane; known = c.lane.inside.notes; faults = c.lane.inside.faults; keys = c.lane.inside.keys }) c.end_failed_decided.new.lane _ c.end_failed_decided.result c.end_failed_decided.ensures.ends

pub returns-in-Err-run_factory-clause-no_faults : goal.returns-in-Err-run_factory-clause-no_faults
returns-in-Err-run_factory-clause-no_faults g c off = failed_faultless c.args.self.now c.in-Err-run_factory.fault c.in-Ok.claim (record { cells = c.claim_along_wait.new.lane; known = c.lane.inside.notes; faults = c.lane.inside.faults; keys = c.lane.inside.keys }) c.end_failed_decided.new.lane off c.end_failed_decided.result c.end_failed_decided.ensures.ends

pub returns-in-Err-clause-no_faults : goal.returns-in-Err-clause-no_faults
returns-in-Err-clause-no_faults g c off =
    let s = c.args.self.now in
    let lane : c.lane.inside.cells ≡ c.args.lane.now.cells = ap (λ (l : StoreLane g.row.V.Denot). l.cells) c.lane.view_is in
    let a = c.args.lane.now.cells in
    let b = c.claim_along_wait.new.lane in
    let w : ClaimsAlongAfterWaits (context_cells s) c.args.path.now c.args.key a.view b.view (Err c.in-Err.why) =
    subst (λ (z : StoreView × Lane). ClaimsAlongAfterWaits (context_cells z.0) c.args.path.now c.args.key z.1.view b.view (Err c.in-Err.why)) (λ i. (c.self.view_is i, lane i)) c.in-Err.ensures.claim in
    handed_faultless c.args.factory c.in-Err.why c.hand_back.result c.hand_back.ensures
    (along_faultless s c.args.path.now c.args.key w.between b.view (Err c.in-Err.why)
    (subst (λ (z : CellsId). IsLegal z.limits (seen_by c.claim_along_wait.new.lane.view)) (c.claim_along_wait.ensures.lane ∙ (ap (λ (l : StoreLane g.row.V.Denot). l.cells.cells) c.lane.view_is ∙ c.requires.lane.cells)) c.tell_proof-in-Err.ensures.legal) w.then_is off)

pub returns-in-Err-run_factory-clause-decided : goal.returns-in-Err-run_factory-clause-decided
returns-in-Err-run_factory-clause-decided g c = c.end_failed_decided.ensures.decided
