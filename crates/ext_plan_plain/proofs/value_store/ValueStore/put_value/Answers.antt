use Rattle.std.proofs.Common.{◌∙◌, ap, refl}
use Rattle.ext_model.specs.declared.event.Act.TheVariants.{Put}
use Rattle.ext_plan_plain.specs.ValueStates.{after_act, why_refused}
use Rattle.ext_plan_plain.specs.StepRuns.{put_in}
use Rattle.ext_plan_plain.specs.InnerSteps.{place_of_call, state_view}
use Rattle.ext_plan_plain.proofs.Lacks.{act-says}
use Rattle.ext_plan_plain.proofs.value_store.ValueStore.put_value.Goals as goal
use Rattle.ext_plan.specs.StepCalls.{call_view}

pub returns-clause-end : goal.returns-clause-end
returns-clause-end c =
    let call = call_view c.args.call.now in
    let old = state_view c.args.self.now in
    let place = place_of_call c.args.call.now c.args.key in
    let number = c.args.number in
    let why = c.in_ok-why.ensures.why ∙ ap (λ at. why_refused (Put (at, c.args.key) number) old) c.at.ensures ∙ ap (λ n. why_refused (Put place n) old) c.requires in
    let state = c.in_ok-why.ensures.state ∙ ap (λ at. after_act (Put (at, c.args.key) number) old) c.at.ensures ∙ ap (λ n. after_act (Put place n) old) c.requires in
    act-says (λ m. put_in m call.name call.label place old) c.say_unless_refused.result call.name call.label (Put place old.store.drawn) old (state_view c.put.new.self) c.in_ok-why.why
    c.say_unless_refused.ensures why state refl refl
