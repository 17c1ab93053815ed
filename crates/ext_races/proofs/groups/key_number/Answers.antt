use Rattle.std.proofs.Common.{◌≡◌, ◌∙◌, ap, sym, subst, arith}
use Rattle.std.specs.Option.{unwrap_or}
use Rattle.ext_tree.specs.Keys.{HasNumber}
use Rattle.ext_plan.specs.Plans.{step_key_view}
use Rattle.ext_plan.specs.StepCalls.{keys_in}
use Rattle.ext_plan.specs.StoreKeys.{key_of_step, number_of_key}
use Rattle.ext_plan.proofs.KeyLists.{has_key_number, key_number_within}
use Rattle.ext_races.proofs.groups.key_number.Goals as goal

pub returns : goal.returns
returns c =
    let directory = c.args.directory.now in
    let key = key_of_step (keys_in c.args.keys.now) (step_key_view c.args.key.now) in
    let index = number_of_key directory key in
    let found = c.number_of.ensures.found index (subst (λ k. HasNumber directory k index) (sym (c.key.ensures ∙ c.in_ok-called.ensures.key)) (has_key_number directory key c.requires)) in
    let number : c.unwrap_or.result ≡ index = c.unwrap_or.ensures ∙ ap (λ r. unwrap_or r 0) found in
    let within = key_number_within directory key c.requires in
    record { number = number; few = omega (arith, number, within) }
