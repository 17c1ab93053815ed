-- A plain run keeps one result for each node, in the order of the plan.
use Rattle.std.proofs.Common.{◌≡◌, ℕ, zero, suc, ◌+◌, ◌<◌, ◌≤◌, Bool, true, false, List, [], ◌∷◌, length, map, Option, is_some, refl, ap, sym, subst, ◌∙◌, arith, zero-add}
use Rattle.std.specs.Prelude.{fold, slice_get, slice_set, IfSome, if◌then◌else◌}
use Rattle.std.specs.List.{All, AllByRecursion, range_with_len}
use Rattle.std.proofs.lemmas.List.{map-set}
use Rattle.ext_tree.specs.Trees.{children_of}
use Rattle.ext_plan.specs.Plans.{NodeText, PlanText}
use Rattle.ext_plan.specs.ReadPlans.{ids_of_nodes}
use Rattle.ext_lifecycle.specs.declared.node_result.NodeResult.{NodeResult}
use Rattle.ext_lifecycle.specs.Endings.{all_successful}
use Rattle.ext_lifecycle.specs.FaultTexts.{NodeOutcome, result_view}
use Rattle.ext_lifecycle.specs.Modes.{in_run_order}
use Rattle.ext_plan.specs.StepCalls.{start_of}
use Rattle.ext_plan_plain.specs.ContextEnds.{seal_keys, faults_of_closes}
use Rattle.ext_plan.specs.PlanCalls.{test_in, test_of, concurrent_of}
use Rattle.ext_plan_plain.specs.NodeCalls.{CallsEnd, befores_run}
use Rattle.ext_plan_plain.specs.PlainRun.{RunState, body_run, container_run, node_run, outcome_of, plain_run_by, run_opening, skipped_from, test_node_run, ArePlain}
use Rattle.ext_plan_plain.specs.ValueStates.{Memory}
use Rattle.ext_plan_plain.proofs.Ends.{body_end, container_end, test_end}

-- ---- what holds of the results, and still holds when a node's result is put in its place, holds after each node

-- each result that a node may end with is put in its place
abbrev pub IsKept : PlanText → (List NodeOutcome → Type 0) → Type 0
IsKept plan P = (at : ℕ) (end : CallsEnd) (closed : List (Option (List ℕ))) (results : List NodeOutcome) → P results → P (slice_set results at (outcome_of at (is_some (test_of plan at)) end closed))

fold-kept : (P : List NodeOutcome → Type 0) (path_run : List ℕ → RunState → RunState) → ((path : List ℕ) (run : RunState) → P run.results → P (path_run path run).results)
    → (above children : List ℕ) (run : RunState) → P run.results → P (fold (λ r child. path_run (child ∷ above) r) run children).results
fold-kept P path_run each above [] run h = h
fold-kept P path_run each above (child ∷ more) run h = fold-kept P path_run each above more (path_run (child ∷ above) run) (each (child ∷ above) run h)

body-kept : (plan : PlanText) (P : List NodeOutcome → Type 0) (path_run : List ℕ → RunState → RunState) → ((path : List ℕ) (run : RunState) → P run.results → P (path_run path run).results)
    → (go : Bool) (path : List ℕ) (run : RunState) → P run.results → P (body_run plan path_run go path run).results
body-kept plan P path_run each true path run h = fold-kept P path_run each path (in_run_order (concurrent_of plan) (children_of (ids_of_nodes plan.nodes) (start_of path))) run h
body-kept plan P path_run each false path run h = h

node-by-kept : (plan : PlanText) (P : List NodeOutcome → Type 0) → IsKept plan P → (path_run : List ℕ → RunState → RunState) → ((path : List ℕ) (run : RunState) → P run.results → P (path_run path run).results)
    → (at : ℕ) (is_test : Bool) → is_some (test_of plan at) ≡ is_test → (path : List ℕ) (run : RunState) → P run.results
    → P (if is_test then test_node_run plan at path run else container_run plan path_run at path run).results
node-by-kept plan P kept path_run each at true is path run h =
    let end = test_end plan at path run in
    let closed = faults_of_closes end.state.places at (seal_keys end.state.places at end.state) in
    subst (λ b. P (slice_set run.results at (outcome_of at b end closed))) is (kept at end closed run.results h)
node-by-kept plan P kept path_run each at false is path run h =
    let end = container_end plan path_run at path run in
    let body = body_end plan path_run at path run in
    let closed = faults_of_closes end.state.places at (seal_keys end.state.places at end.state) in
    subst (λ b. P (slice_set body.results at (outcome_of at b end closed))) is
    (kept at end closed body.results (body-kept plan P path_run each (all_successful (befores_run plan false at path run.state).calls) path (record { state = (befores_run plan false at path run.state).state; results = run.results }) h))

pub node-kept : (plan : PlanText) (P : List NodeOutcome → Type 0) → IsKept plan P → (levels : ℕ) (path : List ℕ) (run : RunState) → P run.results → P (node_run plan levels path run).results
unfolding node_run
node-kept plan P kept zero path run h = h
node-kept plan P kept (suc levels) path run h = node-by-kept plan P kept (node_run plan levels) (node-kept plan P kept levels) (start_of path) (is_some (test_of plan (start_of path))) refl path run h

-- ---- one result for each node, in order

set_again : {A : Type 0} (xs : List A) (i : ℕ) (x : A) → IfSome (slice_get xs i) (λ y. y ≡ x) → slice_set xs i x ≡ xs
set_again [] i x h = refl
set_again (y ∷ xs) zero x h = ap (λ z. z ∷ xs) (sym h)
set_again (y ∷ xs) (suc i) x h = ap (λ zs. y ∷ zs) (set_again xs i x h)

-- what is read of a result is kept, where the new result reads as the one in its place
read-kept : {A : Type 0} (f : NodeOutcome → A) (xs : List A) (at : ℕ) (outcome : NodeOutcome) (results : List NodeOutcome)
    → map f results ≡ xs → IfSome (slice_get xs at) (λ y. y ≡ f outcome) → map f (slice_set results at outcome) ≡ xs
read-kept f xs at outcome results is same = rw map-set (ap (λ ys. slice_set ys at (f outcome)) is ∙ set_again xs at (f outcome) same)

number_at : (from count at : ℕ) → IfSome (slice_get (range_with_len from count) at) (λ n. n ≡ from + at)
number_at from zero at = tt
number_at from (suc count) zero = omega arith
number_at from (suc count) (suc at) =
    let there : (from + 1) + at ≡ from + suc at = omega arith in
    subst (λ k. IfSome (slice_get (range_with_len (from + 1) count) at) (λ n. n ≡ k)) there (number_at (from + 1) count at)

test_of_node : (nodes : List NodeText) (at : ℕ) → IfSome (slice_get (map (λ n. is_some n.test) nodes) at) (λ b. b ≡ is_some (test_in (slice_get nodes at)))
test_of_node [] at = tt
test_of_node (node ∷ nodes) zero = refl
test_of_node (node ∷ nodes) (suc at) = test_of_node nodes at

skipped-nodes : (at : ℕ) (nodes : List NodeText) → map (λ r. r.node) (skipped_from at nodes) ≡ range_with_len at (length nodes)
skipped-nodes at [] = refl
skipped-nodes at (node ∷ more) = ap (λ numbers. at ∷ numbers) (skipped-nodes (at + 1) more)

skipped-tests : (at : ℕ) (nodes : List NodeText) → map (λ r. r.is_test) (skipped_from at nodes) ≡ map (λ n. is_some n.test) nodes
skipped-tests at [] = refl
skipped-tests at (node ∷ more) = ap (λ tests. is_some node.test ∷ tests) (skipped-tests (at + 1) more)

pub result_of_each_node : (memory : List Memory) (plan : PlanText) → map (λ r. r.node) (plain_run_by memory plan) ≡ range_with_len 0 (length plan.nodes)
result_of_each_node memory plan =
    node-kept plan (λ results. map (λ r. r.node) results ≡ range_with_len 0 (length plan.nodes))
    (λ at end closed results is. read-kept (λ r. r.node) _ at (outcome_of at (is_some (test_of plan at)) end closed) results is (subst (λ k. IfSome (slice_get (range_with_len 0 (length plan.nodes)) at) (λ n. n ≡ k)) (zero-add at) (number_at 0 (length plan.nodes) at)))
    (length plan.nodes) (0 ∷ []) (run_opening memory plan) (skipped-nodes 0 plan.nodes)

pub tests_of_plan : (memory : List Memory) (plan : PlanText) → map (λ r. r.is_test) (plain_run_by memory plan) ≡ map (λ n. is_some n.test) plan.nodes
tests_of_plan memory plan =
    node-kept plan (λ results. map (λ r. r.is_test) results ≡ map (λ n. is_some n.test) plan.nodes)
    (λ at end closed results is. read-kept (λ r. r.is_test) _ at (outcome_of at (is_some (test_of plan at)) end closed) results is (test_of_node plan.nodes at))
    (length plan.nodes) (0 ∷ []) (run_opening memory plan) (skipped-tests 0 plan.nodes)

-- ---- results in memory

numbers_below : (from count bound : ℕ) → from + count ≤ bound → AllByRecursion (λ n. n < bound) (range_with_len from count)
numbers_below from zero bound h = tt
numbers_below from (suc count) bound h = (omega (arith, h), numbers_below (from + 1) count bound (omega (arith, h)))

all-results : (count : ℕ) (results : List NodeResult) → AllByRecursion (λ n. n < count) (map (λ r. r.node) (map result_view results)) → All (λ r. r.node < count) results
all-results count [] h k d within = absurd (omega (arith, within))
all-results count (r ∷ results) h zero d within = h.0
all-results count (r ∷ results) h (suc k) d within = all-results count results h.1 k d (omega (arith, within))

-- what the report of a plain run needs
pub results_within : (plan : PlanText) (results : List NodeResult) (lacked : Bool) → ArePlain plan (map result_view results) lacked → All (λ r. r.node < length plan.nodes) results
results_within plan results lacked are =
    let numbers : map (λ r. r.node) (map result_view results) ≡ range_with_len 0 (length plan.nodes) = ap (map (λ r. r.node)) are.exact ∙ result_of_each_node are.memory plan in
    all-results (length plan.nodes) results (subst (AllByRecursion (λ n. n < length plan.nodes)) (sym numbers) (numbers_below 0 (length plan.nodes) (length plan.nodes) (omega arith)))
