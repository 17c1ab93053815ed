use Rattle.std.proofs.Common.{◌∙◌, ◌-◌, true, ap, set, sym, subst}
use Rattle.ext_values.specs.Known.{AreNotesOf, LearnsOne}
use Rattle.ext_values.proofs.Flags.{one_more_known}
use Rattle.ext_values.proofs.Learning.{learns_either}
use Rattle.ext_values.proofs.notes.Notes.place.Goals as goal

pub invariant_of-self : goal.invariant_of-self
invariant_of-self g c =
    let of : AreNotesOf c.args.values.now c.self.inside.notes = subst (λ l. AreNotesOf c.args.values.now l) (sym c.self.view_is) c.requires.of in
    let one : LearnsOne c.self.inside.notes c.place-placed.new.self c.args.number = learns_either c.place-placed.result c.args.value.value c.place-placed.ensures.placed c.place-placed.ensures.taken in
    c.set.ensures
    ∙ ap (λ l. set l (c.args.number - 1) true) c.self.invariant
    ∙ one_more_known c.self.inside.notes c.place-placed.new.self c.args.values.now c.args.number one.0 of c.requires.number one.1
