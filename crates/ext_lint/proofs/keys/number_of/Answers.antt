use Rattle.std.proofs.Common.{◌≡◌, ◌∙◌, Some, None, ap, inl, inr, refl, sym}
use Rattle.std.specs.Option.{unwrap_or}
use Rattle.std.proofs.lemmas.Bool.{cases_Bool}
use Rattle.ext_plan.specs.StoreKeys.{is_there, number_of_key}
use Rattle.ext_plan.proofs.KeyLists.{has_key_number, not_contained}
use Rattle.ext_lint.proofs.Numbers.{number_past}
use Rattle.ext_lint.proofs.keys.number_of.Goals as goal

pub returns-in-Some : goal.returns-in-Some
returns-in-Some c =
    let directory = c.args.directory.now in
    let key = c.args.key.now in
    elim (cases_Bool (is_there directory key)) [
      | inl there ↦ ap (λ r. unwrap_or r 0) (sym c.in-Some.is ∙ c.number_of.ensures.found (number_of_key directory key) (has_key_number directory key there))
      | inr missing ↦ absurd (let none = c.number_of.ensures.absent.1 (not_contained directory key missing) in let both : Some c.in-Some.number ≡ None = sym c.in-Some.is ∙ none in cc)
    ]

pub returns-in-None : goal.returns-in-None
returns-in-None c =
    let directory = c.args.directory.now in
    let key = c.args.key.now in
    elim (cases_Bool (is_there directory key)) [
      | inl there ↦ absurd (let some = c.number_of.ensures.found (number_of_key directory key) (has_key_number directory key there) in let both : None ≡ Some (number_of_key directory key) = sym c.in-None.is ∙ some in cc)
      | inr missing ↦ c.len.ensures.count ∙ sym (number_past directory key missing)
    ]
