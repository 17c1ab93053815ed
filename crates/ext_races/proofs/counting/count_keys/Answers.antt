use Rattle.std.proofs.Common.{◌∙◌, [], ap, arith, length, map, Err}
use Rattle.ext_plan.specs.Plans.{keys_view, plan_view}
use Rattle.ext_plan.specs.StepCalls.{keys_in}
use Rattle.ext_races.specs.InnerMade.{made_view, made_views}
use Rattle.ext_races.specs.InnerNaming.{keys_listed}
use Rattle.ext_races.proofs.After.{keys_same}
use Rattle.ext_races.proofs.Finds.{named_is}
use Rattle.ext_races.proofs.counting.count_keys.Goals as goal

pub returns-in-Ok-clause-count : goal.returns-in-Ok-clause-count
returns-in-Ok-clause-count c =
    let plan = plan_view c.args.plan.now in
    let made = c.in_ok-made.made.items in
    let declared = keys_in c.of-keys.result in
    let keys = c.of-keys.ensures ∙ ap keys_view c.as_slice.ensures.value in
    let listed = c.in-Ok.ensures.keys ∙ ap (λ xs. keys_listed declared (map made_view xs)) c.as_slice-3.ensures.value ∙ keys_same declared [] [] made in
    c.len.ensures.count ∙ ap length (named_is plan (made_views [] made) c.in_ok-made.ensures declared _ keys listed)

pub returns-in-Err-TooMany-clause-many : goal.returns-in-Err-TooMany-clause-many
returns-in-Err-TooMany-clause-many c = λ is.
    let plan = plan_view c.args.plan.now in
    let made = c.in_ok-made.made.items in
    let declared = keys_in c.of-keys.result in
    let keys = c.of-keys.ensures ∙ ap keys_view c.as_slice.ensures.value in
    let listed = ap (λ xs. keys_listed declared (map made_view xs)) c.as_slice-3.ensures.value ∙ keys_same declared [] [] made in
    let full = c.in-Err-TooMany.ensures.full (ap Err c.in-Err-TooMany.field-0-is) in
    let long = ap length (named_is plan (made_views [] made) c.in_ok-made.ensures declared _ keys listed) in
    omega (arith, full, long)
