use Rattle.std.proofs.Common.{◌+◌, List, drop, map, refl, ap, sym, subst, arith}
use Rattle.std.proofs.lemmas.List.{drop_all}
use Rattle.ext_plan.specs.Plans.{StepText, step_view}
use Rattle.ext_plan.proofs.Lists.{map-drop}
use Rattle.ext_plan_parallel.specs.InnerKeys.{plan_keys}
use Rattle.ext_plan_parallel.proofs.StepLists.{IsLeft, nothing_made, one_more, stops, all_made}
use Rattle.ext_plan_parallel.proofs.Framed.{no_call_framed, then_framed}
use Rattle.ext_plan_parallel.proofs.steps.store_steps.StoreSteps.run.Goals as goal

pub loop-step-init : goal.loop-step-init
loop-step-init g c = record {
  left = nothing_made c.args.store.now (plan_keys c.args.self.now) c.args.path.now (map step_view c.args.steps.now) c.args.lane.now;
  computed = omega arith;
  found = omega arith;
  passed = refl;
  lane = c.requires.lane;
  frame = no_call_framed c.args.store.now c.args.lane.now c.requires.lane;
}

pub returns-then-not-is_successful-clause-steps : goal.returns-then-not-is_successful-clause-steps
returns-then-not-is_successful-clause-steps g c =
    let steps = c.args.steps.now in
    let more = map-drop step_view steps c.loop-step.step-index c.step-item.result (omega arith) c.step-item.is in
    stops c.args.store.now (plan_keys c.args.self.now) c.args.path.now (map step_view steps) (step_view c.step-item.result) (map step_view (drop (c.loop-step.step-index + 1) steps))
    c.args.lane.now c.loop-step.lane c.run_step-outcome.new.lane c.loop-step.computed c.loop-step.found c.run_step-outcome.result _
    (subst (λ (left : List StepText). IsLeft c.args.store.now (plan_keys c.args.self.now) c.args.path.now (map step_view steps) left c.args.lane.now c.loop-step.lane c.loop-step.computed c.loop-step.found) more c.loop-step.invariant.left)
    c.run_step-outcome.ensures.step c.run_step-outcome.ensures.frame c.run_step-outcome.ensures.placed (sym c.if-not-is_successful.ensures) (record { verdict_is = refl; computed_are = refl; found_are = refl })

pub loop-step-preserved : goal.loop-step-preserved
loop-step-preserved g c =
    let steps = c.args.steps.now in
    let more = map-drop step_view steps c.loop-step.step-index c.step-item.result (omega arith) c.step-item.is in
    record {
      left = one_more c.args.store.now (plan_keys c.args.self.now) c.args.path.now (map step_view steps) (step_view c.step-item.result) (map step_view (drop (c.loop-step.step-index + 1) steps))
          c.args.lane.now c.loop-step.lane c.run_step-outcome.new.lane c.loop-step.computed c.loop-step.found c.run_step-outcome.result
          (subst (λ (left : List StepText). IsLeft c.args.store.now (plan_keys c.args.self.now) c.args.path.now (map step_view steps) left c.args.lane.now c.loop-step.lane c.loop-step.computed c.loop-step.found) more c.loop-step.invariant.left)
          c.run_step-outcome.ensures.step c.run_step-outcome.ensures.frame c.run_step-outcome.ensures.placed (sym c.if-not-is_successful.ensures);
      computed = omega (arith, c.loop-step.invariant.computed, c.run_step-outcome.ensures.computed);
      found = omega (arith, c.loop-step.invariant.found, c.run_step-outcome.ensures.found);
      passed = omega (arith, c.loop-step.invariant.passed);
      lane = c.run_step-outcome.ensures.lane;
      frame = then_framed c.args.store.now c.args.lane.now c.loop-step.lane c.run_step-outcome.new.lane c.loop-step.invariant.frame c.run_step-outcome.ensures.frame;
    }

pub returns : goal.returns
returns g c =
    let steps = c.args.steps.now in
    let none = drop_all c.loop-step.step-index steps (omega (arith, c.loop-step-test.false)) in
    record {
      steps = all_made c.args.store.now (plan_keys c.args.self.now) c.args.path.now (map step_view steps) c.args.lane.now c.loop-step.lane c.loop-step.computed c.loop-step.found
          (subst (λ (left : List StepText). IsLeft c.args.store.now (plan_keys c.args.self.now) c.args.path.now (map step_view steps) left c.args.lane.now c.loop-step.lane c.loop-step.computed c.loop-step.found) (ap (map step_view) none) c.loop-step.invariant.left);
      lane = c.loop-step.invariant.lane;
      frame = c.loop-step.invariant.frame;
    }

pub returns-then-not-is_successful-clause-frame : goal.returns-then-not-is_successful-clause-frame
returns-then-not-is_successful-clause-frame g c =
    then_framed c.args.store.now c.args.lane.now c.loop-step.lane c.run_step-outcome.new.lane c.loop-step.invariant.frame c.run_step-outcome.ensures.frame
