use Rattle.std.proofs.Common.{◌∙◌, ◌≡◌, arith, length, subst, sym}
use Rattle.ext_tree.specs.Keys.{KeepsKeys, OneKey}
use Rattle.ext_tree.specs.InnerIndexing.{AreNotes}
use Rattle.ext_tree.proofs.KeyAgreeing.{agree_everywhere}
use Rattle.ext_tree.proofs.KeyIndexing.{notes_stay}
use Rattle.ext_tree.proofs.KeyPlacing.{lent_back, one_number, same_length}
use Rattle.ext_tree.proofs.key_places.KeyPlaces.agree.Goals as goal

pub invariant_of-others : goal.invariant_of-others
invariant_of-others c =
    let before = c.others.inside.entries.items in
    let after = c.agree_all.new.others in
    let long : length after ≡ c.others.inside.entries.len = omega (arith, same_length c.as_mut_slice-2.result.now after c.agree_all.ensures.kept.places, c.as_mut_slice-2.ensures.len) in
    let keeps : KeepsKeys before after = subst (λ l. KeepsKeys l after) c.as_mut_slice-2.ensures.value c.agree_all.ensures.kept in
    subst (λ l. AreNotes l c.others.inside.index.hints.items c.others.inside.index.next) (sym (lent_back c.others.inside.entries.len before after long)) (notes_stay before after c.others.inside.index.hints.items c.others.inside.index.next keeps c.others.invariant)

pub returns-clause-key : goal.returns-clause-key
returns-clause-key c =
    subst (λ l. OneKey l c.args.others.now) (c.as_mut_slice.ensures.value ∙ c.notes.view_is)
    (subst (λ l. OneKey c.as_mut_slice.result.now l) (c.as_mut_slice-2.ensures.value ∙ c.others.view_is) (agree_everywhere c.as_mut_slice.result.now c.as_mut_slice-2.result.now c.agree_all.ensures.agree))

pub returns-clause-number : goal.returns-clause-number
returns-clause-number c = one_number c.args.notes.now c.args.others.now (returns-clause-key c)
