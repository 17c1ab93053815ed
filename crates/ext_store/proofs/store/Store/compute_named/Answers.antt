use Rattle.std.proofs.Common.{[], sym, ◌∙◌, subst}
use Rattle.std.specs.Prelude.{Ok, Err}
use Rattle.std.specs.Fn.{FnOnceReturnsAt}
use Rattle.ext_values.specs.Known.{Learns}
use Rattle.ext_store.specs.declared.computed.Compute.TheVariants.{Unkept}
use Rattle.ext_store.proofs.NewDraws.{frame_on}
use Rattle.ext_store.specs.Computing.{ClaimsMissing, ComputesFrom, Computes, without_factory}
use Rattle.ext_store.proofs.Frames.{frames_compose, grows}
use Rattle.ext_store.proofs.Composing.{unused_computes, for_path, ends_failed, failed_uses, failed_back, failed_apart, failed_faultless, computes, keeps_not}
use Rattle.ext_store.proofs.Faulting.{handed_faultless}
use Rattle.ext_store.proofs.Numbered.{uses_later}
use Rattle.ext_store.proofs.Uncalled.{unused_apart, unused_back, unused_uses}
use Rattle.ext_store.proofs.store.Store.compute_named.Goals as goal

pub returns-in-Err-clause-answer : goal.returns-in-Err-clause-answer
returns-in-Err-clause-answer g c =
    let s = c.args.self.now in
    let a = c.args.lane.now.cells in
    let b = c.begin_numbered.new.lane.cells in
    let m : ClaimsMissing s c.args.context c.args.key a.view b.view (Err c.in-Err.why) = c.in-Err.ensures.answer in
    subst (λ r. Computes s c.args.context c.args.key a b (without_factory r)) (sym c.hand_back.ensures)
    (for_path s c.args.context m.0 c.args.key a b _ c.requires.lane.cells m.1 (unused_computes g.row.V.Denot s c.args.context m.0 c.args.key a.view b.view c.args.factory c.in-Err.why m.2))

pub returns-in-Err-clause-grows : goal.returns-in-Err-clause-grows
returns-in-Err-clause-grows g c = grows c.args.self.now.id c.args.lane.now c.begin_numbered.new.lane c.begin_numbered.ensures.stays.frame

pub returns-in-Err-clause-handed_back : goal.returns-in-Err-clause-handed_back
returns-in-Err-clause-handed_back g c = unused_back c.args.factory c.in-Err.why c.hand_back.result c.hand_back.ensures

pub returns-in-Err-clause-apart : goal.returns-in-Err-clause-apart
returns-in-Err-clause-apart g c = unused_apart c.args.factory c.in-Err.why c.hand_back.result c.hand_back.ensures _

pub returns-in-Err-clause-factory : goal.returns-in-Err-clause-factory
returns-in-Err-clause-factory g c =
    unused_uses c.args.factory c.in-Err.why c.hand_back.result c.hand_back.ensures (λ answer. FnOnceReturnsAt g.F.FnOnce c.args.factory c.args.name.now answer) c.args.lane.now c.begin_numbered.new.lane c.begin_numbered.ensures.stays.known c.begin_numbered.ensures.stays.faults

pub returns-in-Err-clause-no_faults : goal.returns-in-Err-clause-no_faults
returns-in-Err-clause-no_faults g c off = handed_faultless c.args.factory c.in-Err.why c.hand_back.result c.hand_back.ensures (c.in-Err.ensures.no_faults off)

-- ---- where the factory answered a value

pub returns-in-Ok-fill-clause-answer : goal.returns-in-Ok-fill-clause-answer
unfolding ComputesFrom
returns-in-Ok-fill-clause-answer g c =
    let s = c.args.self.now in
    let a = c.args.lane.now.cells in
    let b = c.begin_numbered.new.lane.cells in
    let m : ClaimsMissing s c.args.context c.args.key a.view b.view (Ok c.in-Ok.claim) = c.in-Ok.ensures.answer in
    for_path s c.args.context m.0 c.args.key a c.fill.new.lane.cells _ c.requires.lane.cells m.1
    (computes s c.args.context m.0 c.args.key c.in-Ok.claim a.view b.view c.fill.new.lane.cells.view m.2 c.in-Ok-fill.number c.in-Ok-fill.ensures.events)

pub returns-in-Err-fill-clause-answer : goal.returns-in-Err-fill-clause-answer
unfolding ComputesFrom
returns-in-Err-fill-clause-answer g c =
    let s = c.args.self.now in
    let a = c.args.lane.now.cells in
    let b = c.begin_numbered.new.lane.cells in
    let m : ClaimsMissing s c.args.context c.args.key a.view b.view (Ok c.in-Ok.claim) = c.in-Ok.ensures.answer in
    for_path s c.args.context m.0 c.args.key a c.fill.new.lane.cells _ c.requires.lane.cells m.1
    (keeps_not s c.args.context m.0 c.args.key c.in-Ok.claim a.view b.view c.fill.new.lane.cells.view m.2 c.in-Err-fill.cause c.in-Err-fill.ensures.events)

pub returns-in-Ok-fill-clause-grows : goal.returns-in-Ok-fill-clause-grows
returns-in-Ok-fill-clause-grows g c = grows c.args.self.now.id c.args.lane.now c.fill.new.lane (frames_compose c.args.self.now.id [] [] c.args.lane.now c.begin_numbered.new.lane c.fill.new.lane c.begin_numbered.ensures.stays.frame c.fill.ensures.frame)

pub returns-in-Err-fill-clause-grows : goal.returns-in-Err-fill-clause-grows
returns-in-Err-fill-clause-grows g c = grows c.args.self.now.id c.args.lane.now c.fill.new.lane (frames_compose c.args.self.now.id [] [] c.args.lane.now c.begin_numbered.new.lane c.fill.new.lane c.begin_numbered.ensures.stays.frame c.fill.ensures.frame)

pub returns-in-Ok-fill-clause-apart : goal.returns-in-Ok-fill-clause-apart
returns-in-Ok-fill-clause-apart g c m kept = c.in-Ok-fill.ensures.apart m (c.begin_numbered.ensures.stays.kept m kept)

pub returns-in-Err-fill-clause-apart : goal.returns-in-Err-fill-clause-apart
returns-in-Err-fill-clause-apart g c = tt

pub returns-in-Ok-fill-clause-handed_back : goal.returns-in-Ok-fill-clause-handed_back
returns-in-Ok-fill-clause-handed_back g c = tt

pub returns-in-Err-fill-clause-handed_back : goal.returns-in-Err-fill-clause-handed_back
returns-in-Err-fill-clause-handed_back g c = tt

-- what the factory answered it answered for the key of the number
pub returns-in-Ok-fill-clause-factory : goal.returns-in-Ok-fill-clause-factory
returns-in-Ok-fill-clause-factory g c =
    let learnt = subst (λ l. Learns l c.fill.new.lane.known c.in-Ok-fill.number c.in-Ok-run_factory.value) c.begin_numbered.ensures.stays.known c.in-Ok-fill.ensures.known in
    (c.in-Ok-run_factory.value, c.in-Ok-run_factory.ensures, learnt, c.fill.ensures.faults ∙ c.begin_numbered.ensures.stays.faults)

pub returns-in-Err-fill-clause-factory : goal.returns-in-Err-fill-clause-factory
returns-in-Err-fill-clause-factory g c =
    let kept = c.in-Err-fill.ensures.known in
    let returned = subst (λ value. FnOnceReturnsAt g.F.FnOnce c.args.factory c.args.name.now (Ok value)) (sym kept.0) c.in-Ok-run_factory.ensures in
    uses_later (λ answer. FnOnceReturnsAt g.F.FnOnce c.args.factory c.args.name.now answer) c.args.lane.now c.begin_numbered.new.lane c.fill.new.lane (frame_on c.args.self.now.id [] c.args.lane.now c.begin_numbered.new.lane c.begin_numbered.ensures.stays.frame) c.begin_numbered.ensures.stays.known c.begin_numbered.ensures.stays.faults (Unkept c.in-Err-fill.value c.in-Err-fill.cause)
    (returned, kept.1, c.fill.ensures.faults)

-- ---- where the factory failed

pub returns-in-Err-run_factory-clause-answer : goal.returns-in-Err-run_factory-clause-answer
returns-in-Err-run_factory-clause-answer g c =
    let s = c.args.self.now in
    let a = c.args.lane.now.cells in
    let b = c.begin_numbered.new.lane in
    let m : ClaimsMissing s c.args.context c.args.key a.view b.cells.view (Ok c.in-Ok.claim) = c.in-Ok.ensures.answer in
    for_path s c.args.context m.0 c.args.key a c.end_failed.new.lane.cells _ c.requires.lane.cells m.1
    (ends_failed s c.in-Err-run_factory.fault c.in-Ok.claim b c.end_failed.new.lane c.args.context m.0 c.args.key a.view m.2 (without_factory c.end_failed.result) c.end_failed.ensures.ends)

pub returns-in-Err-run_factory-clause-grows : goal.returns-in-Err-run_factory-clause-grows
returns-in-Err-run_factory-clause-grows g c = grows c.args.self.now.id c.args.lane.now c.end_failed.new.lane (frames_compose c.args.self.now.id [] [] c.args.lane.now c.begin_numbered.new.lane c.end_failed.new.lane c.begin_numbered.ensures.stays.frame c.end_failed.ensures.frame)

pub returns-in-Err-run_factory-clause-factory : goal.returns-in-Err-run_factory-clause-factory
returns-in-Err-run_factory-clause-factory g c =
    uses_later (λ answer. FnOnceReturnsAt g.F.FnOnce c.args.factory c.args.name.now answer) c.args.lane.now c.begin_numbered.new.lane c.end_failed.new.lane (frame_on c.args.self.now.id [] c.args.lane.now c.begin_numbered.new.lane c.begin_numbered.ensures.stays.frame) c.begin_numbered.ensures.stays.known c.begin_numbered.ensures.stays.faults (without_factory c.end_failed.result)
    (failed_uses c.args.self.now c.in-Err-run_factory.fault c.in-Ok.claim c.begin_numbered.new.lane c.end_failed.new.lane (λ answer. FnOnceReturnsAt g.F.FnOnce c.args.factory c.args.name.now answer) c.in-Err-run_factory.ensures (without_factory c.end_failed.result) c.end_failed.ensures.ends)

pub returns-in-Err-run_factory-clause-handed_back : goal.returns-in-Err-run_factory-clause-handed_back
returns-in-Err-run_factory-clause-handed_back g c = failed_back c.args.self.now c.in-Err-run_factory.fault c.in-Ok.claim c.begin_numbered.new.lane c.end_failed.new.lane c.args.factory c.end_failed.result c.end_failed.ensures.ends

pub returns-in-Err-run_factory-clause-apart : goal.returns-in-Err-run_factory-clause-apart
returns-in-Err-run_factory-clause-apart g c = failed_apart c.args.self.now c.in-Err-run_factory.fault c.in-Ok.claim c.begin_numbered.new.lane c.end_failed.new.lane _ c.end_failed.result c.end_failed.ensures.ends

pub returns-in-Err-run_factory-clause-no_faults : goal.returns-in-Err-run_factory-clause-no_faults
returns-in-Err-run_factory-clause-no_faults g c off = failed_faultless c.args.self.now c.in-Err-run_factory.fault c.in-Ok.claim c.begin_numbered.new.lane c.end_failed.new.lane off c.end_failed.result c.end_failed.ensures.ends
