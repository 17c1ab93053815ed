use Rattle.ext_tree.specs.declared.fault.TreeFault.TheVariants.{TooMany}
use Rattle.std.proofs.Common.{Err, [], ◌≡◌, ◌+◌, ◌<◌, ◌∙◌, ap, arith, drop, length, map}
use Rattle.std.proofs.lemmas.Result.{err_from_is_err_and}
use Rattle.ext_plan.specs.StepCalls.{keys_in}
use Rattle.ext_plan.proofs.Lists.{map-drop}
use Rattle.ext_races.specs.Touches.{key_of_made, with_key_of}
use Rattle.ext_races.proofs.Named.{length_kept}
use Rattle.ext_lint.specs.NodeSteps.{node_step_view}
use Rattle.ext_lint.specs.Said.{alone, keys_with}
use Rattle.ext_lint.proofs.keys.keys_of.Goals as goal

pub returns-in_err-name-clause-full : goal.returns-in_err-name-clause-full
returns-in_err-name-clause-full c =
    let p = err_from_is_err_and c.from_residual.result c.from_residual.ensures.1 in
    rw (p.1, p.2) (λ h.
    let declared = keys_in c.args.keys.now in
    let node_steps = c.args.node_steps.now in
    let i = c.loop-node_step.node_step-index in
    let more = map-drop node_step_view node_steps i c.node_step-item.result (omega arith) c.node_step-item.is in
    let rest = map node_step_view (drop (i + 1) node_steps) in
    let one = with_key_of c.loop-node_step.directory (key_of_made declared (alone (node_step_view c.node_step-item.result))) in
    let all : keys_with declared [] (map node_step_view node_steps) ≡ keys_with declared one rest = c.loop-node_step.invariant.rest ∙ ap (keys_with declared c.loop-node_step.directory) more in
    let long = ap length all in
    let kept = length_kept declared one (map alone rest) in
    let is : c.in_err-name.field-0.0 ≡ TooMany = cc in
    let full : 1024 < length one = c.in_err-name.ensures.full (ap Err is) in
    omega (arith, long, kept, full))
