use Rattle.std.proofs.Common.{◌∙◌, ◌+◌, drop, map, refl, ap, sym, arith}
use Rattle.std.proofs.lemmas.List.{drop_all}
use Rattle.ext_plan.specs.Plans.{step_view}
use Rattle.ext_lifecycle.specs.Lifecycle.{ending_of}
use Rattle.ext_lifecycle.proofs.OtherFaults.{is_successful-to}
use Rattle.ext_lifecycle.specs.FaultTexts.{fault_text}
use Rattle.ext_plan.proofs.Lists.{map-drop}
use Rattle.ext_plan_plain.specs.StepRuns.{steps_run}
use Rattle.ext_plan_plain.specs.ValueStates.{with_memory}
use Rattle.ext_plan_plain.specs.InnerSteps.{state_view, step_end}
use Rattle.ext_plan_plain.proofs.Memories.{first_found, first_found-nothing, next_step-is}
use Rattle.ext_plan_plain.proofs.Spared.{passes}
use Rattle.ext_plan_plain.proofs.Stepping.{after_steps, no_steps, steps-go, steps-stop, steps-end}
use Rattle.ext_plan_plain.proofs.value_store.ValueStore.run_steps.Goals as goal
use Rattle.ext_plan.specs.StepCalls.{keys_in}

pub loop-step-init : goal.loop-step-init
loop-step-init c = record { rest = λ later. (later, sym (no_steps (steps_run (keys_in c.args.keys.now) c.args.path.now (map step_view c.args.steps.now) (with_memory later (state_view c.args.self.now)))), λ none. none); computed = omega arith; found = omega arith; passed = refl }

pub returns-then-not-is_successful-clause-end : goal.returns-then-not-is_successful-clause-end
returns-then-not-is_successful-clause-end c = λ later.
    let keys = keys_in c.args.keys.now in
    let path = c.args.path.now in
    let steps = c.args.steps.now in
    let made = c.make_step-made.ensures.end in
    let here = first_found made.0 later in
    let s = with_memory here (state_view c.loop-step.self) in
    let more = map-drop step_view steps c.loop-step.step-index c.step-item.result (omega arith) c.step-item.is in
    let first = step_end (with_memory later (state_view c.make_step-made.new.self)) c.make_step-made.result.outcome in
    let is = next_step-is keys path (step_view c.step-item.result) made.0 later (state_view c.loop-step.self) (state_view c.make_step-made.new.self) c.make_step-made.result.outcome made.1 in
    let stop = steps-stop keys path (step_view c.step-item.result) (map step_view (drop (c.loop-step.step-index + 1) steps)) s first is (is_successful-to fault_text (ending_of c.make_step-made.result.outcome.verdict) ∙ sym c.if-not-is_successful.ensures) in
    let before = c.loop-step.invariant.rest here in (
      before.0,
      sym (before.1 ∙ ap (after_steps c.loop-step.computed c.loop-step.found) (ap (λ ss. steps_run keys path ss s) more ∙ stop)),
      λ unlacked none. before.2 (first_found-nothing made.0 later (made.2 unlacked) none),
    )

pub loop-step-preserved : goal.loop-step-preserved
loop-step-preserved c =
    let keys = keys_in c.args.keys.now in
    let path = c.args.path.now in
    let steps = c.args.steps.now in
    let made = c.make_step-made.ensures.end in
    let more = map-drop step_view steps c.loop-step.step-index c.step-item.result (omega arith) c.step-item.is in
    record {
      rest = λ later.
          let here = first_found made.0 later in
          let s = with_memory here (state_view c.loop-step.self) in
          let first = step_end (with_memory later (state_view c.make_step-made.new.self)) c.make_step-made.result.outcome in
          let is = next_step-is keys path (step_view c.step-item.result) made.0 later (state_view c.loop-step.self) (state_view c.make_step-made.new.self) c.make_step-made.result.outcome made.1 in
          let go = steps-go keys path (step_view c.step-item.result) (map step_view (drop (c.loop-step.step-index + 1) steps)) s first c.loop-step.computed c.loop-step.found is (is_successful-to fault_text (ending_of c.make_step-made.result.outcome.verdict) ∙ sym c.if-not-is_successful.ensures) in
          let before = c.loop-step.invariant.rest here in (
            before.0,
            before.1 ∙ ap (λ ss. after_steps c.loop-step.computed c.loop-step.found (steps_run keys path ss s)) more ∙ go,
            λ none. before.2 (first_found-nothing made.0 later (made.2 (c.make_step-made.ensures.told (passes (ending_of c.make_step-made.result.outcome.verdict) (sym c.if-not-is_successful.ensures)))) none),
          );
      computed = omega (arith, c.loop-step.invariant.computed, c.make_step-made.ensures.few.computed);
      found = omega (arith, c.loop-step.invariant.found, c.make_step-made.ensures.few.found);
      passed = omega (arith, c.loop-step.invariant.passed);
    }

pub returns-clause-end : goal.returns-clause-end
returns-clause-end c = λ later.
    let keys = keys_in c.args.keys.now in
    let s = with_memory later (state_view c.loop-step.self) in
    let rest = drop_all c.loop-step.step-index c.args.steps.now (omega (arith, c.loop-step-test.false)) in
    let before = c.loop-step.invariant.rest later in (
      before.0,
      sym (before.1 ∙ ap (λ ss. after_steps c.loop-step.computed c.loop-step.found (steps_run keys c.args.path.now (map step_view ss) s)) rest
          ∙ steps-end keys c.args.path.now s c.loop-step.computed c.loop-step.found),
      λ unlacked none. before.2 none,
    )
