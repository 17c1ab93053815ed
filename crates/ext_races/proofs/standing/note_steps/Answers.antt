use Rattle.std.proofs.Common.{◌≡◌, ◌++◌, append-nil, arith, map, subst, sym, take}
use Rattle.std.proofs.lemmas.List.{take_all}
use Rattle.ext_plan.specs.Plans.{step_view}
use Rattle.ext_plan.specs.StepCalls.{keys_in}
use Rattle.ext_races.specs.Acts.{act_of}
use Rattle.ext_races.specs.InnerStanding.{AreFirst}
use Rattle.ext_races.proofs.Above.{acts_more}
use Rattle.ext_races.proofs.standing.note_steps.Goals as goal

pub loop-step-init : goal.loop-step-init
loop-step-init c = record {
  first = λ before are. subst (λ acts. AreFirst (keys_in c.args.keys.now) c.args.directory.now c.args.put c.args.path.now acts c.args.computes.now.items) (sym (append-nil before)) are;
}

pub loop-step-preserved : goal.loop-step-preserved
loop-step-preserved c = record {
  first = λ before are.
      let i = c.loop-step.step-index in
      let steps = c.args.steps.now in
      let more = c.in_ok-note_step.ensures (before ++ map act_of (map step_view (take i steps))) (c.loop-step.invariant.first before are) in
      subst (λ acts. AreFirst (keys_in c.args.keys.now) c.args.directory.now c.args.put c.args.path.now acts c.note_step.new.computes.items) (acts_more before steps i c.step-item.result (omega arith) c.step-item.is) more;
}

pub returns : goal.returns
returns c = λ before are.
    let past = c.loop-step-test.false in
    let whole : take c.loop-step.step-index c.args.steps.now ≡ c.args.steps.now = take_all c.loop-step.step-index c.args.steps.now past in
    subst (λ steps. AreFirst (keys_in c.args.keys.now) c.args.directory.now c.args.put c.args.path.now (before ++ map act_of (map step_view steps)) c.loop-step.computes.items) whole (c.loop-step.invariant.first before are)
