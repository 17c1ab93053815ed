use Rattle.std.proofs.Common.{◌≡◌, arith, map, subst, take}
use Rattle.std.specs.List.{flat_map}
use Rattle.std.proofs.lemmas.List.{take_all}
use Rattle.ext_plan.specs.Plans.{plan_view, step_view}
use Rattle.ext_plan.specs.PlanCalls.{steps_of_call}
use Rattle.ext_plan.specs.StepCalls.{keys_in}
use Rattle.ext_races.specs.InnerStanding.{AreWithout, removed_by}
use Rattle.ext_races.proofs.Removed.{calls_more, without_more, without_none}
use Rattle.ext_races.proofs.standing.forget_calls.Goals as goal

pub loop-call-init : goal.loop-call-init
loop-call-init c = without_none c.args.directory.now c.args.computes.now.items

pub loop-call-preserved : goal.loop-call-preserved
loop-call-preserved c =
    let declared = keys_in c.args.keys.now in
    let directory = c.args.directory.now in
    let plan = plan_view c.args.plan.now in
    let at = c.loop-call.call-index in
    let calls = c.args.calls.now in
    let steps = map step_view c.steps_of.result.now in
    without_more directory (removed_by declared (flat_map (steps_of_call plan) (take at calls))) (removed_by declared steps) _ c.args.computes.now.items c.loop-call.computes.items c.forget_steps.new.computes.items
    (calls_more declared directory plan calls at _ steps (omega arith) c.steps_of.ensures) c.loop-call.invariant c.in_ok-forget_steps.ensures

pub returns : goal.returns
returns c =
    let past = c.loop-call-test.false in
    let whole : take c.loop-call.call-index c.args.calls.now ≡ c.args.calls.now = take_all c.loop-call.call-index c.args.calls.now past in
    subst (λ calls. AreWithout c.args.directory.now (removed_by (keys_in c.args.keys.now) (flat_map (steps_of_call (plan_view c.args.plan.now)) calls)) c.args.computes.now.items c.loop-call.computes.items) whole c.loop-call.invariant
