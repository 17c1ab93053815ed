use Rattle.std.proofs.Common.{◌≡◌, ◌∙◌, subst, sym}
use Rattle.std.specs.Prelude.{Ok}
use Rattle.ext_tree.specs.Keys.{IsKeyNumber}
use Rattle.ext_tree.proofs.KeyPlacing.{answered_again, keeps_all}
use Rattle.ext_tree.proofs.key_places.KeyPlaces.number.Goals as goal

pub returns-in-Some-clause-again : goal.returns-in-Some-clause-again
returns-in-Some-clause-again c = λ number was.
    let before = subst (λ l. IsKeyNumber l c.args.key.now number) (sym (c.as_mut_slice-entries.ensures.value ∙ c.notes.view_is)) was in
    answered_again c.as_mut_slice-entries.result.now c.as_mut_slice-entries.result.now c.args.key.now number (keeps_all c.as_mut_slice-entries.result.now) before (Ok c.in-Some.number) c.in-Some.ensures.number tt
