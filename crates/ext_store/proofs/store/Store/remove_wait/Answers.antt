use Rattle.std.proofs.Common.{◌≡◌, refl, []}
use Rattle.std.specs.Prelude.{Err}
use Rattle.ext_store.specs.LaneCalls.{Removes}
use Rattle.ext_store.proofs.Frames.{stays_then}
use Rattle.ext_store.proofs.Numbered.{of_number, of_refusal, refused_decided, placed_still}
use Rattle.ext_store.proofs.store.Store.remove_wait.Goals as goal

pub returns-in-Ok-clause-answer : goal.returns-in-Ok-clause-answer
returns-in-Ok-clause-answer g c =
    of_number c.args.lane.now c.number.new.lane c.remove_wait_numbered.new.lane c.number.ensures.still c.args.self.now.id [] c.args.key.now c.in-Ok.key (λ why. c.remove_wait_numbered.result ≡ Err why) (λ l n. Removes c.args.self.now c.args.context n l c.remove_wait_numbered.new.lane.cells c.remove_wait_numbered.result)
    c.in-Ok.ensures.number c.remove_wait_numbered.ensures.stays.frame c.remove_wait_numbered.ensures.answer

pub returns-in-Ok-clause-stays : goal.returns-in-Ok-clause-stays
returns-in-Ok-clause-stays g c = stays_then c.args.self.now.id [] c.args.lane.now c.number.new.lane c.remove_wait_numbered.new.lane c.number.ensures.stays c.remove_wait_numbered.ensures.stays

pub returns-in-Err-clause-stays : goal.returns-in-Err-clause-stays
returns-in-Err-clause-stays g c = c.number.ensures.stays

pub returns-in-Err-clause-answer : goal.returns-in-Err-clause-answer
returns-in-Err-clause-answer g c =
    of_refusal c.args.lane.now c.number.new.lane c.args.key.now c.in-Err.why c.in-Err.ensures.refused (λ why. Err c.in-Err.why ≡ Err why) (λ n. Removes c.args.self.now c.args.context n c.args.lane.now.cells c.number.new.lane.cells (Err c.in-Err.why)) refl

pub returns-in-Ok-clause-decided : goal.returns-in-Ok-clause-decided
returns-in-Ok-clause-decided g c = c.remove_wait_numbered.ensures.decided

pub returns-in-Err-clause-decided : goal.returns-in-Err-clause-decided
returns-in-Err-clause-decided g c = refused_decided c.args.lane.now c.number.new.lane c.args.key.now c.in-Err.why c.in-Err.ensures.refused

pub returns-in-Ok-clause-placed : goal.returns-in-Ok-clause-placed
returns-in-Ok-clause-placed g c = placed_still c.args.key.now c.args.lane.now.keys c.number.new.lane.keys c.remove_wait_numbered.new.lane.keys c.number.ensures.placed c.remove_wait_numbered.ensures.keys

pub returns-in-Err-clause-placed : goal.returns-in-Err-clause-placed
returns-in-Err-clause-placed g c = c.number.ensures.placed
