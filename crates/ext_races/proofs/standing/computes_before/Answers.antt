use Rattle.std.proofs.Common.{◌≡◌, ◌∙◌, ap, length, map, subst, sym}
use Rattle.std.specs.List.{flat_map}
use Rattle.std.proofs.lemmas.Bool.{eqb-true}
use Rattle.ext_tree.specs.Trees.{children_of}
use Rattle.ext_plan.specs.Plans.{plan_view}
use Rattle.ext_plan.specs.PlanCalls.{steps_of_call}
use Rattle.ext_plan.specs.StepCalls.{keys_in}
use Rattle.ext_races.specs.Acts.{act_of}
use Rattle.ext_races.specs.InnerStanding.{AreFirst, AreWithout, removed_by}
use Rattle.ext_races.specs.MadeSteps.{calls_before, path_of, plan_path}
use Rattle.ext_races.proofs.Above.{first_none}
use Rattle.ext_races.proofs.Computes.{none_there}
use Rattle.ext_races.proofs.Removed.{left_is}
use Rattle.ext_races.proofs.standing.computes_before.Goals as goal

pub returns-then-is_empty : goal.returns-then-is_empty
returns-then-is_empty c = λ some.
    let none = eqb-true (length c.children.result.now) 0 (sym c.is_empty.ensures ∙ c.if-is_empty.true) in
    none_there _ (ap length (sym (c.children.ensures ∙ ap (λ ids. children_of ids c.args.node) c.tree-tree.ensures)) ∙ none) some

pub returns : goal.returns
returns c = λ some.
    let plan = plan_view c.args.plan.now in
    let declared = keys_in c.args.keys.now in
    let directory = c.args.directory.now in
    let node = c.args.node in
    let path : c.path_in-path.result.now ≡ plan_path plan node = c.path_in-path.ensures.path (rw c.tree-tree.ensures c.requires.node) ∙ ap (λ ids. path_of ids node) c.tree-tree.ensures in
    let calls = c.as_slice.ensures.value ∙ c.in_ok-calls.ensures in
    let again = c.as_slice-2.ensures.value ∙ c.in_ok-calls.ensures in
    let noted = c.note_calls.new.computes.items in
    let left = c.forget_calls.new.computes.items in
    let all = c.in_ok-note_calls.ensures (first_none declared directory c.args.put c.path_in-path.result.now c.new-computes.result.items c.new-computes.ensures.items) in
    let first : AreFirst declared directory c.args.put (plan_path plan node) (map act_of (flat_map (steps_of_call plan) (calls_before plan node))) noted =
    subst (λ p. AreFirst declared directory c.args.put p (map act_of (flat_map (steps_of_call plan) (calls_before plan node))) noted) path
    (subst (λ cs. AreFirst declared directory c.args.put c.path_in-path.result.now (map act_of (flat_map (steps_of_call plan) cs)) noted) calls all) in
    let without = subst (λ cs. AreWithout directory (removed_by declared (flat_map (steps_of_call plan) cs)) noted left) again c.in_ok-forget_calls.ensures in
    left_is declared directory c.args.put (plan_path plan node) (flat_map (steps_of_call plan) (calls_before plan node)) noted left first without
