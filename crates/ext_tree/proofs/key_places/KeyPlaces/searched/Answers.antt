use Rattle.std.proofs.Common.{arith, ◌≡◌, ◌∙◌, IfErr, length, subst, sym}
use Rattle.ext_tree.specs.Keys.{IsKeyFault, IsKeyNumber}
use Rattle.ext_tree.proofs.KeyPlacing.{answered_again, lent_back, same_length}
use Rattle.ext_tree.proofs.key_places.KeyPlaces.searched.Goals as goal

pub returns-clause-again : goal.returns-clause-again
returns-clause-again c = λ number was.
    let before = subst (λ l. IsKeyNumber l c.args.key.now number) (sym (c.as_mut_slice.ensures.value ∙ c.notes.view_is)) was in
    answered_again c.as_mut_slice.result.now c.number_of.new.entries c.args.key.now number c.number_of.ensures.kept before c.number_of.result c.number_of.ensures.number c.number_of.ensures.refused

pub returns-clause-refused : goal.returns-clause-refused
returns-clause-refused c =
    let after = c.number_of.new.entries in
    let long : length after ≡ c.notes.inside.entries.len = omega (arith, same_length c.as_mut_slice.result.now after c.number_of.ensures.kept.places, c.as_mut_slice.ensures.len) in
    subst (λ l. IfErr c.number_of.result (IsKeyFault l c.args.key.now)) (sym (lent_back c.notes.inside.entries.len c.notes.inside.entries.items after long)) c.number_of.ensures.refused
