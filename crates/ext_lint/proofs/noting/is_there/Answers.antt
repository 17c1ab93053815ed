use Rattle.std.proofs.Common.{◌∙◌, ap, inl, inr, is_some, sym}
use Rattle.std.proofs.lemmas.Bool.{cases_Bool}
use Rattle.ext_plan.specs.StoreKeys.{is_there, number_of_key}
use Rattle.ext_plan.proofs.KeyLists.{has_key_number, not_contained}
use Rattle.ext_lint.proofs.noting.is_there.Goals as goal

pub returns : goal.returns
returns c =
    let directory = c.args.directory.now in
    let key = c.args.key.now in
    elim (cases_Bool (is_there directory key)) [
      | inl there ↦ c.is_some.ensures ∙ ap is_some (c.number_of.ensures.found (number_of_key directory key) (has_key_number directory key there)) ∙ sym there
      | inr missing ↦ c.is_some.ensures ∙ ap is_some (c.number_of.ensures.absent.1 (not_contained directory key missing)) ∙ sym missing
    ]
