use Rattle.std.proofs.Common.{◌∙◌, ap, refl}
use Rattle.ext_model.specs.declared.event.Act.TheVariants.{Remove}
use Rattle.ext_plan_plain.specs.ValueStates.{after_act, why_refused}
use Rattle.ext_plan_plain.specs.StepRuns.{remove_numbered}
use Rattle.ext_plan_plain.specs.InnerSteps.{place_of_call, state_view}
use Rattle.ext_plan_plain.proofs.Lacks.{act-says}
use Rattle.ext_plan_plain.proofs.value_store.ValueStore.remove_value.Goals as goal
use Rattle.ext_plan.specs.StepCalls.{call_view}

pub returns : goal.returns
returns c =
    let call = call_view c.args.call.now in
    let old = state_view c.args.self.now in
    let act = Remove (place_of_call c.args.call.now c.args.key) in
    let why = c.remove-why.ensures.why ∙ ap (λ at. why_refused (Remove (at, c.args.key)) old) c.at.ensures in
    let state = c.remove-why.ensures.state ∙ ap (λ at. after_act (Remove (at, c.args.key)) old) c.at.ensures in
    act-says (λ m. remove_numbered m call.name call.label call.path c.args.key old) c.say_unless_refused.result call.name call.label act old (state_view c.remove-why.new.self) c.remove-why.result c.say_unless_refused.ensures why state refl refl
