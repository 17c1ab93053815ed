use Rattle.std.proofs.Common.{◌≡◌, ◌+◌, refl}
use Rattle.std.specs.Prelude.{Err}
use Rattle.ext_store.specs.LaneCalls.{Puts, stored_by}
use Rattle.ext_store.proofs.Frames.{stays_then}
use Rattle.ext_store.proofs.Numbered.{of_number, of_refusal, refused_steps, steps_later, placed_still}
use Rattle.ext_model.specs.declared.event.Act.TheVariants.{Put}
use Rattle.ext_cells.specs.CellCalls.{ComesLast}
use Rattle.ext_store_core.specs.declared.fault.Refusal.TheVariants as refusal
use Rattle.ext_store.specs.Stores.{cell_in}
use Rattle.ext_store.proofs.store.Store.put.Goals as goal

pub returns-in-Ok-clause-answer : goal.returns-in-Ok-clause-answer
returns-in-Ok-clause-answer g c =
    of_number c.args.lane.now c.number.new.lane c.put_numbered.new.lane c.number.ensures.still c.args.self.now.id (stored_by c.args.kept c.put_numbered.result) c.args.key.now c.in-Ok.key (λ why. c.put_numbered.result ≡ Err (c.args.kept, why)) (λ l n. Puts c.args.self.now c.args.context n c.args.kept l c.put_numbered.new.lane.cells c.put_numbered.result)
    c.in-Ok.ensures.number c.put_numbered.ensures.stays.frame c.put_numbered.ensures.answer

pub returns-in-Ok-clause-stays : goal.returns-in-Ok-clause-stays
returns-in-Ok-clause-stays g c = stays_then c.args.self.now.id (stored_by c.args.kept c.put_numbered.result) c.args.lane.now c.number.new.lane c.put_numbered.new.lane c.number.ensures.stays c.put_numbered.ensures.stays

pub returns-in-Err-clause-stays : goal.returns-in-Err-clause-stays
returns-in-Err-clause-stays g c = c.number.ensures.stays

pub put_numbered-requires-clause-kept : goal.put_numbered-requires-clause-kept
put_numbered-requires-clause-kept g c = c.number.ensures.stays.kept c.args.kept c.requires.kept

pub returns-in-Ok-clause-handed_back : goal.returns-in-Ok-clause-handed_back
returns-in-Ok-clause-handed_back g c = c.put_numbered.ensures.handed_back

pub returns-in-Err-clause-handed_back : goal.returns-in-Err-clause-handed_back
returns-in-Err-clause-handed_back g c = refl

pub returns-in-Err-clause-answer : goal.returns-in-Err-clause-answer
returns-in-Err-clause-answer g c =
    of_refusal c.args.lane.now c.number.new.lane c.args.key.now c.in-Err.why c.in-Err.ensures.refused (λ why. Err (c.args.kept, c.in-Err.why) ≡ Err (c.args.kept, why)) (λ n. Puts c.args.self.now c.args.context n c.args.kept c.args.lane.now.cells c.number.new.lane.cells (Err (c.args.kept, c.in-Err.why))) refl

pub returns-in-Ok-clause-steps : goal.returns-in-Ok-clause-steps
returns-in-Ok-clause-steps g c = steps_later c.args.lane.now c.number.new.lane c.put_numbered.new.lane c.number.ensures.still (c.args.self.now.tries + 1) c.put_numbered.ensures.steps

pub returns-in-Err-clause-steps : goal.returns-in-Err-clause-steps
returns-in-Err-clause-steps g c = refused_steps c.args.lane.now c.number.new.lane c.args.key.now c.in-Err.why c.in-Err.ensures.refused (c.args.self.now.tries + 1)

pub returns-in-Ok-clause-contended : goal.returns-in-Ok-clause-contended
returns-in-Ok-clause-contended g c =
    of_number c.args.lane.now c.number.new.lane c.put_numbered.new.lane c.number.ensures.still c.args.self.now.id (stored_by c.args.kept c.put_numbered.result) c.args.key.now c.in-Ok.key (λ why. c.put_numbered.result ≡ Err (c.args.kept, why))
    (λ l n. ComesLast (c.args.kept, refusal.Contended) c.args.self.now.tries l c.put_numbered.new.lane.cells (Put (cell_in c.args.self.now n c.args.context) c.args.kept) c.put_numbered.result)
    c.in-Ok.ensures.number c.put_numbered.ensures.stays.frame c.put_numbered.ensures.contended

pub returns-in-Err-clause-contended : goal.returns-in-Err-clause-contended
returns-in-Err-clause-contended g c =
    of_refusal c.args.lane.now c.number.new.lane c.args.key.now c.in-Err.why c.in-Err.ensures.refused (λ why. Err (c.args.kept, c.in-Err.why) ≡ Err (c.args.kept, why))
    (λ n. ComesLast (c.args.kept, refusal.Contended) c.args.self.now.tries c.args.lane.now.cells c.number.new.lane.cells (Put (cell_in c.args.self.now n c.args.context) c.args.kept) (Err (c.args.kept, c.in-Err.why))) refl

pub returns-in-Ok-clause-placed : goal.returns-in-Ok-clause-placed
returns-in-Ok-clause-placed g c = placed_still c.args.key.now c.args.lane.now.keys c.number.new.lane.keys c.put_numbered.new.lane.keys c.number.ensures.placed c.put_numbered.ensures.keys

pub returns-in-Err-clause-placed : goal.returns-in-Err-clause-placed
returns-in-Err-clause-placed g c = c.number.ensures.placed
