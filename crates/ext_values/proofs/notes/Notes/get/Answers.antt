use Rattle.std.proofs.Common.{◌∙◌, ◌-◌, true, ap, set, sym, subst}
use Rattle.ext_values.specs.Known.{AreNotesOf}
use Rattle.ext_values.proofs.Flags.{one_more_known}
use Rattle.ext_values.proofs.notes.Notes.get.Goals as goal

pub invariant_of-self-2 : goal.invariant_of-self-2
invariant_of-self-2 g c =
    let of : AreNotesOf c.args.values.now c.self.inside.notes = subst (λ l. AreNotesOf c.args.values.now l) (sym c.self.view_is) c.requires in
    c.set.ensures
    ∙ ap (λ l. set l (c.args.number - 1) true) c.self.invariant
    ∙ one_more_known c.self.inside.notes c.get.new.self c.args.values.now c.args.number c.in_ok-value.value.now of c.in_ok-value.ensures.within c.in_ok-value.ensures.found
