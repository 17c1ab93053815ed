use Rattle.std.proofs.Common.{◌≡◌, refl, []}
use Rattle.std.specs.Fn.{FnOnceReturnsAt}
use Rattle.ext_store.specs.Waiting.{ComputesAfterWaits}
use Rattle.ext_store.specs.Computing.{without_factory}
use Rattle.ext_store.specs.declared.computed.Compute.TheVariants.{Refused}
use Rattle.ext_store.proofs.Frames.{grows, grows_then}
use Rattle.ext_store.proofs.Numbered.{apart_later, of_number, of_refusal, uses_later, placed_still}
use Rattle.ext_store.proofs.NewDraws.{frame_on}
use Rattle.ext_store.proofs.store.Store.compute_wait.Goals as goal

pub returns-in-Ok-clause-answer : goal.returns-in-Ok-clause-answer
returns-in-Ok-clause-answer g c =
    of_number c.args.lane.now c.number.new.lane c.compute_wait_named.new.lane c.number.ensures.still c.args.self.now.id [] c.args.key.now c.in-Ok.number (λ why. c.compute_wait_named.result ≡ Refused why c.args.factory)
    (λ l n. ComputesAfterWaits c.args.self.now c.args.context n l c.compute_wait_named.new.lane.cells (without_factory c.compute_wait_named.result)) c.in-Ok.ensures.number c.compute_wait_named.ensures.grows.frame c.compute_wait_named.ensures.answer

pub returns-in-Ok-clause-grows : goal.returns-in-Ok-clause-grows
returns-in-Ok-clause-grows g c = grows_then c.args.self.now.id c.args.lane.now c.number.new.lane c.compute_wait_named.new.lane c.number.ensures.stays c.compute_wait_named.ensures.grows

pub returns-in-Ok-clause-apart : goal.returns-in-Ok-clause-apart
returns-in-Ok-clause-apart g c = apart_later c.args.lane.now c.number.new.lane c.compute_wait_named.new.lane c.number.ensures.still c.compute_wait_named.result c.number.ensures.stays.kept c.compute_wait_named.ensures.apart

pub returns-in-Err-clause-answer : goal.returns-in-Err-clause-answer
returns-in-Err-clause-answer g c =
    of_refusal c.args.lane.now c.number.new.lane c.args.key.now c.in-Err.refusal c.in-Err.ensures.refused (λ why. Refused c.in-Err.refusal c.args.factory ≡ Refused why c.args.factory)
    (λ n. ComputesAfterWaits c.args.self.now c.args.context n c.args.lane.now.cells c.number.new.lane.cells (without_factory (Refused c.in-Err.refusal c.args.factory))) refl

pub returns-in-Err-clause-grows : goal.returns-in-Err-clause-grows
returns-in-Err-clause-grows g c = grows c.args.self.now.id c.args.lane.now c.number.new.lane c.number.ensures.stays.frame

pub returns-in-Ok-clause-factory : goal.returns-in-Ok-clause-factory
returns-in-Ok-clause-factory g c =
    uses_later (λ answer. FnOnceReturnsAt g.F.FnOnce c.args.factory c.args.key.now answer) c.args.lane.now c.number.new.lane c.compute_wait_named.new.lane (frame_on c.args.self.now.id [] c.args.lane.now c.number.new.lane c.number.ensures.stays.frame) c.number.ensures.stays.known c.number.ensures.stays.faults (without_factory c.compute_wait_named.result) c.compute_wait_named.ensures.factory

pub returns-in-Ok-clause-placed : goal.returns-in-Ok-clause-placed
returns-in-Ok-clause-placed g c = placed_still c.args.key.now c.args.lane.now.keys c.number.new.lane.keys c.compute_wait_named.new.lane.keys c.number.ensures.placed c.compute_wait_named.ensures.keys

pub returns-in-Err-clause-placed : goal.returns-in-Err-clause-placed
returns-in-Err-clause-placed g c = c.number.ensures.placed
