use Rattle.std.proofs.Common.{◌≡◌, arith, map, subst, take}
use Rattle.std.specs.List.{flat_map}
use Rattle.std.proofs.lemmas.List.{take_all}
use Rattle.ext_plan.specs.Plans.{plan_view, step_view}
use Rattle.ext_plan.specs.PlanCalls.{steps_of_call}
use Rattle.ext_plan.specs.StepCalls.{keys_in}
use Rattle.ext_races.specs.Acts.{act_of}
use Rattle.ext_races.specs.InnerStanding.{AreFirst}
use Rattle.ext_races.proofs.Computes.{calls_more}
use Rattle.ext_races.proofs.standing.note_calls.Goals as goal

pub loop-call-init : goal.loop-call-init
loop-call-init c = record { first = λ are. are }

pub loop-call-preserved : goal.loop-call-preserved
loop-call-preserved c = record {
  first = λ are.
      let plan = plan_view c.args.plan.now in
      let calls = c.args.calls.now in
      let at = c.loop-call.call-index in
      let more = c.in_ok-note_steps.ensures (map act_of (flat_map (steps_of_call plan) (take at calls))) (c.loop-call.invariant.first are) in
      subst (λ acts. AreFirst (keys_in c.args.keys.now) c.args.directory.now c.args.put c.args.path.now acts c.note_steps.new.computes.items)
      (calls_more plan calls at _ (map step_view c.steps_of-steps.result.now) (omega arith) c.steps_of-steps.ensures) more;
}

pub returns : goal.returns
returns c = λ are.
    let past = c.loop-call-test.false in
    let whole : take c.loop-call.call-index c.args.calls.now ≡ c.args.calls.now = take_all c.loop-call.call-index c.args.calls.now past in
    subst (λ calls. AreFirst (keys_in c.args.keys.now) c.args.directory.now c.args.put c.args.path.now (map act_of (flat_map (steps_of_call (plan_view c.args.plan.now)) calls)) c.loop-call.computes.items) whole (c.loop-call.invariant.first are)
