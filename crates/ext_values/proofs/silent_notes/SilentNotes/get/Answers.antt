use Rattle.std.proofs.Common.{rules}
use Rattle.std.proofs.lemmas.Option.{IfSome_then}
use Rattle.ext_values.specs.Slots.{IsNumber}
use Rattle.ext_values.proofs.Learning.{learns, slots_stay}
use Rattle.ext_values.proofs.silent_notes.SilentNotes.get.Goals as goal

pub returns-clause-found : goal.returns-clause-found
returns-clause-found g c =
    let within : IsNumber c.args.values.now c.args.number = search rules in
    IfSome_then c.get.result c.get.ensures.found
    (λ x known. learns c.self.inside.entries.items c.args.self.now c.args.values.now c.self.view_is c.requires c.args.number c.index_mut.result.now c.get.new.self c.index_mut.ensures.value c.get.ensures.slot x.now within known)

pub returns-clause-of : goal.returns-clause-of
returns-clause-of g c = slots_stay c.self.inside.entries.items c.args.self.now c.args.values.now c.self.view_is c.requires c.args.number c.index_mut.result.now c.get.new.self c.index_mut.ensures.value c.get.ensures.slot
