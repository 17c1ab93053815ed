use Rattle.std.proofs.Common.{◌∙◌, [], ◌∷◌, ◌++◌, ap, append_assoc}
use Rattle.std.specs.List.{flat_map}
use Rattle.ext_lifecycle.specs.declared.call.Call.{Call}
use Rattle.ext_lifecycle.specs.Callbacks.{test_call}
use Rattle.ext_plan.specs.Plans.{plan_view}
use Rattle.ext_plan.specs.PlanCalls.{steps_of_call}
use Rattle.ext_races.specs.InnerMade.{made_views}
use Rattle.ext_races.specs.MadeSteps.{calls_after, calls_before, made_after, made_in_turn}
use Rattle.ext_races.proofs.made.push_node.Goals as goal

pub returns : goal.returns
returns c =
    let plan = plan_view c.args.plan.now in
    let node = c.args.node in
    let old = made_views [] c.args.made.now.items in
    let each = λ (call : Call). made_after node [] (steps_of_call plan call) in
    let turn = made_in_turn plan node [] (calls_before plan node ++ test_call node ∷ []) in
    let first = c.in_ok-push_in_turn.ensures ∙ ap (λ calls. old ++ made_in_turn plan node [] calls) (c.as_slice.ensures.value ∙ c.in_ok-calls.ensures.calls) in
    c.in_ok-push_each.ensures ∙ ap (λ calls. made_views [] c.push_in_turn.new.made.items ++ flat_map each calls) (c.as_slice-2.ensures.value ∙ c.in_ok-calls.ensures.afters)
    ∙ ap (λ ms. ms ++ flat_map each (calls_after plan node)) first ∙ append_assoc old turn (flat_map each (calls_after plan node))
