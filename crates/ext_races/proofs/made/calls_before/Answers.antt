use Rattle.std.proofs.Common.{◌≡◌, ◌∙◌, IfOk, ap, subst}
use Rattle.ext_lifecycle.specs.Callbacks.{befores_of}
use Rattle.ext_plan.specs.Plans.{plan_view}
use Rattle.ext_plan.specs.PlanCalls.{registered}
use Rattle.ext_races.specs.MadeSteps.{path_of, plan_path}
use Rattle.ext_races.proofs.made.calls_before.Goals as goal

pub returns : goal.returns
returns c =
    let plan = plan_view c.args.plan.now in
    let path : c.path_in.result.now ≡ plan_path plan c.args.node = c.path_in.ensures.path (rw c.tree.ensures c.requires.node) ∙ ap (λ ids. path_of ids c.args.node) c.tree.ensures in
    let calls = ap (λ p. befores_of (registered plan) c.is_test.result c.args.node p) path ∙ ap (λ t. befores_of (registered plan) t c.args.node (plan_path plan c.args.node)) c.is_test.ensures in
    subst (λ xs. IfOk c.befores_of.result (λ v. v.items ≡ xs)) calls c.befores_of.ensures.calls
