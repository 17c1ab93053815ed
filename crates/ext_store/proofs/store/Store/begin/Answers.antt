use Rattle.std.proofs.Common.{◌≡◌, [], refl}
use Rattle.std.specs.Prelude.{Err}
use Rattle.ext_store_core.specs.declared.claim.Unused.TheVariants as unused
use Rattle.ext_store.specs.Computing.{ClaimsMissing}
use Rattle.ext_store.proofs.Frames.{stays_then}
use Rattle.ext_store.proofs.Numbered.{of_number, of_refusal, placed_still}
use Rattle.ext_store.proofs.store.Store.begin.Goals as goal

pub returns-in-Ok-clause-answer : goal.returns-in-Ok-clause-answer
returns-in-Ok-clause-answer g c =
    of_number c.args.lane.now c.number.new.lane c.begin_numbered.new.lane c.number.ensures.still c.args.self.now.id [] c.args.key.now c.in-Ok.number (λ why. c.begin_numbered.result ≡ Err (unused.Refused why))
    (λ l n. ClaimsMissing c.args.self.now c.args.context n l.view c.begin_numbered.new.lane.cells.view c.begin_numbered.result) c.in-Ok.ensures.number c.begin_numbered.ensures.stays.frame c.begin_numbered.ensures.answer

pub returns-in-Ok-clause-stays : goal.returns-in-Ok-clause-stays
returns-in-Ok-clause-stays g c = stays_then c.args.self.now.id [] c.args.lane.now c.number.new.lane c.begin_numbered.new.lane c.number.ensures.stays c.begin_numbered.ensures.stays

pub returns-in-Err-clause-answer : goal.returns-in-Err-clause-answer
returns-in-Err-clause-answer g c =
    of_refusal c.args.lane.now c.number.new.lane c.args.key.now c.in-Err.why c.in-Err.ensures.refused (λ why. Err (unused.Refused c.in-Err.why) ≡ Err (unused.Refused why))
    (λ n. ClaimsMissing c.args.self.now c.args.context n c.args.lane.now.cells.view c.number.new.lane.cells.view (Err (unused.Refused c.in-Err.why))) refl

pub returns-in-Err-clause-stays : goal.returns-in-Err-clause-stays
returns-in-Err-clause-stays g c = c.number.ensures.stays

pub returns-in-Ok-clause-placed : goal.returns-in-Ok-clause-placed
returns-in-Ok-clause-placed g c = placed_still c.args.key.now c.args.lane.now.keys c.number.new.lane.keys c.begin_numbered.new.lane.keys c.number.ensures.placed c.begin_numbered.ensures.keys

pub returns-in-Err-clause-placed : goal.returns-in-Err-clause-placed
returns-in-Err-clause-placed g c = c.number.ensures.placed
