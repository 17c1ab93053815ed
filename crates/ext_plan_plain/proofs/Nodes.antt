-- The nodes of a plain run: their paths, their children and their ends.
use Rattle.std.proofs.Common.{◌≡◌, ◌≢◌, ℕ, zero, suc, ◌-◌, ◌<◌, Bool, get_or, map, List, [], ◌∷◌, length, Option, is_some, Contains, refl, ap, sym, subst, ◌∙◌, arith}
use Rattle.std.specs.Prelude.{option_map, if◌then◌else◌}
use Rattle.std.proofs.lemmas.List.Elements.{Contains-get_or}
use Rattle.ext_tree.specs.Trees.{Id, IsPathOf, IsParentOf, IsWalk, children_of}
use Rattle.ext_tree.proofs.TreeLaws.{parents_list_children}
use Rattle.ext_plan.specs.Plans.{PlanText}
use Rattle.ext_model.specs.declared.look.Fault.{Fault}
use Rattle.ext_lifecycle.specs.declared.node_result.NodeResult.{NodeResult}
use Rattle.ext_lifecycle.specs.declared.outcome.Outcome.{Outcome}
use Rattle.ext_lifecycle.specs.FaultTexts.{NodeOutcome, fault_text, result_view}
use Rattle.ext_lifecycle.specs.Lifecycle.{computed_in, endings_of, found_in}
use Rattle.ext_lifecycle.specs.Results.{result_of, as_result, map_fault}
use Rattle.ext_lifecycle.proofs.OtherFaults.{result_of-told}
use Rattle.ext_plan.specs.StepCalls.{start_of}
use Rattle.ext_plan_plain.specs.ContextEnds.{seal_keys, faults_of_closes}
use Rattle.ext_plan_plain.specs.InnerSteps.{calls_end}
use Rattle.ext_plan.specs.PlanCalls.{test_of}
use Rattle.ext_plan_plain.specs.NodeCalls.{CallsEnd}
use Rattle.ext_plan_plain.specs.PlainRun.{RunState, container_run, outcome_of, with_result, node_end, node_run, test_node_run}
use Rattle.ext_plan_plain.specs.ValueStates.{ValueState}

-- ---- levels

pub node_run-zero : (plan : PlanText) (path : List ℕ) (run : RunState) → node_run plan 0 path run ≡ run
unfolding node_run
node_run-zero plan path run = refl

pub node_run-suc : (plan : PlanText) (levels : ℕ) (path : List ℕ) (run : RunState)
    → node_run plan (suc levels) path run ≡ (if is_some (test_of plan (start_of path)) then test_node_run plan (start_of path) path run else container_run plan (node_run plan levels) (start_of path) path run)
unfolding node_run
node_run-suc plan levels path run = refl

pub node_run-more : (plan : PlanText) (levels : ℕ) (path : List ℕ) (run : RunState) (at : ℕ) (is_test : Bool) → levels ≢ 0 → start_of path ≡ at → is_some (test_of plan at) ≡ is_test
    → node_run plan levels path run ≡ (if is_test then test_node_run plan at path run else container_run plan (node_run plan (levels - 1)) at path run)
node_run-more plan zero path run at is_test some start is = absurd (some refl)
node_run-more plan (suc levels) path run at is_test some start is =
    let one : suc levels - 1 ≡ levels = omega arith in
    node_run-suc plan levels path run
    ∙ ap (λ a. if is_some (test_of plan a) then test_node_run plan a path run else container_run plan (node_run plan levels) a path run) start
    ∙ ap (λ b. if b then test_node_run plan at path run else container_run plan (node_run plan levels) at path run) is
    ∙ ap (λ n. if is_test then test_node_run plan at path run else container_run plan (node_run plan n) at path run) (sym one)

-- ---- paths and children

pub start_is : (ids : List Id) (at : ℕ) (path : List ℕ) → IsPathOf ids at path → start_of path ≡ at
start_is ids at [] is = absurd is
start_is ids at (first ∷ walk) is = is.0

-- the path of a child
pub child_path : (ids : List Id) (at child : ℕ) (path : List ℕ) → IsPathOf ids at path → IsParentOf ids at child → IsPathOf ids child (child ∷ path)
child_path ids at child [] is parent = absurd is
child_path ids at child (first ∷ walk) is parent =
    (refl, (subst (λ p. IsParentOf ids p child) (sym is.0) parent, subst (λ p. IsWalk ids p walk) (sym is.0) is.1))

pub child_is : (ids : List Id) (at : ℕ) (children : List ℕ) (k d : ℕ) → at < length ids → children ≡ children_of ids at → k < length children → IsParentOf ids at (get_or children k d)
child_is ids at children k d within is less = (parents_list_children ids at within).child (get_or children k d) (subst (λ cs. Contains cs (get_or children k d)) is (Contains-get_or children k d less))

-- ---- the end of a node

-- the result of a node whose calls and closes came to this
pub outcome_is : (at : ℕ) (is_test : Bool) (s : ValueState) (closed : List (Option (List ℕ))) (outcomes : List Outcome) (faults : List (Option Fault)) (r : NodeResult)
    → as_result r ≡ result_of at is_test (endings_of outcomes) (computed_in outcomes) (found_in outcomes) faults → map (option_map fault_text) faults ≡ closed → result_view r ≡ outcome_of at is_test (calls_end s outcomes) closed
outcome_is at is_test s closed outcomes faults r is closes =
    ap (map_fault fault_text) is
    ∙ sym (result_of-told at is_test (endings_of outcomes) (computed_in outcomes) (found_in outcomes) faults)
    ∙ ap (outcome_of at is_test (calls_end s outcomes)) closes

pub end_is : (at : ℕ) (is_test : Bool) (end : CallsEnd) (results : List NodeOutcome) (sealed : ValueState) (closed : List (Option (List ℕ))) (o : NodeOutcome)
    → sealed ≡ seal_keys end.state.places at end.state → closed ≡ faults_of_closes end.state.places at sealed → o ≡ outcome_of at is_test end closed
    → (let run : RunState = record { state = sealed; results = with_result o results } in run ≡ node_end at is_test end results)
end_is at is_test end results sealed closed o is told shown =
    ap (λ o. record { state = sealed; results = with_result o results }) (shown ∙ ap (outcome_of at is_test end) told)
    ∙ ap (λ s. record { state = s; results = with_result (outcome_of at is_test end (faults_of_closes end.state.places at s)) results }) is
