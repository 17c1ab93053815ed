use Rattle.ext_tree.specs.declared.fault.TreeFault.TheVariants.{TooMany}
use Rattle.std.proofs.Common.{Err, ◌≡◌, ◌+◌, ◌<◌, ◌∙◌, ap, arith, drop, length, map}
use Rattle.std.proofs.lemmas.Result.{err_from_is_err_and}
use Rattle.ext_plan.specs.StepCalls.{keys_in}
use Rattle.ext_plan.proofs.Lists.{map-drop}
use Rattle.ext_races.specs.InnerNaming.{keys_listed}
use Rattle.ext_races.specs.InnerMade.{made_view}
use Rattle.ext_races.specs.Touches.{key_of_made, keys_of_steps, with_key_of}
use Rattle.ext_races.proofs.Named.{length_kept}
use Rattle.ext_races.proofs.naming.keys_named.Goals as goal

pub returns-in_err-name-clause-full : goal.returns-in_err-name-clause-full
returns-in_err-name-clause-full c =
    let p = err_from_is_err_and c.from_residual.result c.from_residual.ensures.1 in
    rw (p.1, p.2) (λ h.
    let declared = keys_in c.args.keys.now in
    let made = c.args.made.now in
    let i = c.loop-step.step-index in
    let more = map-drop made_view made i c.step-item.result (omega arith) c.step-item.is in
    let rest = map made_view (drop (i + 1) made) in
    let one = with_key_of c.loop-step.directory (key_of_made declared (made_view c.step-item.result)) in
    let all : keys_listed declared (map made_view made) ≡ keys_of_steps declared one rest = c.loop-step.invariant.rest ∙ ap (keys_of_steps declared c.loop-step.directory) more in
    let long = ap length all in
    let kept = length_kept declared one rest in
    let is : c.in_err-name.field-0.0 ≡ TooMany = cc in
    let full : c.args.most < length one = c.in_err-name.ensures.full (ap Err is) in
    omega (arith, long, kept, full))
