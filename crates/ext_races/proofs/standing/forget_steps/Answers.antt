use Rattle.std.proofs.Common.{◌≡◌, Bool, arith, map, subst, take}
use Rattle.std.proofs.lemmas.List.{take_all}
use Rattle.ext_tree.specs.Keys.{KeyValue}
use Rattle.ext_plan.specs.Plans.{step_view}
use Rattle.ext_plan.specs.StepCalls.{keys_in}
use Rattle.ext_races.specs.Acts.{act_of}
use Rattle.ext_races.specs.InnerStanding.{AreWithout, removed_by}
use Rattle.ext_races.specs.Touches.{removes_key}
use Rattle.ext_races.proofs.Removed.{forgot, steps_more, without_more, without_none}
use Rattle.ext_races.proofs.standing.forget_steps.Goals as goal

pub loop-step-init : goal.loop-step-init
loop-step-init c = without_none c.args.directory.now c.args.computes.now.items

pub loop-step-preserved : goal.loop-step-preserved
loop-step-preserved c =
    let declared = keys_in c.args.keys.now in
    let directory = c.args.directory.now in
    let i = c.loop-step.step-index in
    let steps = c.args.steps.now in
    let one : KeyValue → Bool = λ k. removes_key declared k (act_of (step_view c.step-item.result)) in
    without_more directory (removed_by declared (map step_view (take i steps))) one _ c.args.computes.now.items c.loop-step.computes.items c.forget_key.new.computes.items
    (steps_more declared directory steps i c.step-item.result (omega arith) c.step-item.is) c.loop-step.invariant
    (forgot declared directory (act_of (step_view c.step-item.result)) c.in_ok-key.key c.loop-step.computes.items c.forget_key.new.computes.items c.in_ok-key.ensures c.forget_key.ensures)

pub returns : goal.returns
returns c =
    let past = c.loop-step-test.false in
    let whole : take c.loop-step.step-index c.args.steps.now ≡ c.args.steps.now = take_all c.loop-step.step-index c.args.steps.now past in
    subst (λ steps. AreWithout c.args.directory.now (removed_by (keys_in c.args.keys.now) (map step_view steps)) c.args.computes.now.items c.loop-step.computes.items) whole c.loop-step.invariant
