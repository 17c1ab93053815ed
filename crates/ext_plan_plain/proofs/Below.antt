-- Below a node that has not run no node has run: while a plain run goes on, the parent of each node that has run has run, or its own run has begun and not ended.
use Rattle.std.proofs.Common.{◌≢◌, ◌<◌, ℕ, zero, suc, ◌+◌, Bool, true, false, not, List, [], ◌∷◌, ◌++◌, length, get_or, is_some, refl, sym, subst, arith, ⊎_elim, inl, inr, ◌⊎◌}
use Rattle.std.specs.Prelude.{cond, filter, fold, slice_set, IfSome, if◌then◌else◌}
use Rattle.std.specs.List.{AllByRecursion}
use Rattle.std.proofs.lemmas.Bool.{cases_eq}
use Rattle.std.proofs.lemmas.List.{length-map}
use Rattle.ext_tree.specs.Trees.{Id, IsParentOf, children_of}
use Rattle.ext_tree.proofs.TreeFacts.{child_not_root, one_parent}
use Rattle.ext_plan.specs.Plans.{NodeText, PlanText}
use Rattle.ext_plan.specs.ReadPlans.{ids_of_nodes, NodesAreTree}
use Rattle.ext_lifecycle.specs.declared.status.Status.TheVariants as statuses
use Rattle.ext_lifecycle.specs.Endings.{all_successful}
use Rattle.ext_lifecycle.specs.FaultTexts.{NodeOutcome}
use Rattle.ext_lifecycle.specs.Modes.{in_run_order}
use Rattle.ext_plan_plain.specs.ContextEnds.{seal_keys, faults_of_closes}
use Rattle.ext_plan_plain.specs.PlainRunLaws.{HasRun}
use Rattle.ext_plan.specs.PlanCalls.{test_of, concurrent_of}
use Rattle.ext_plan_plain.specs.NodeCalls.{befores_run}
use Rattle.ext_plan_plain.specs.PlainRun.{RunState, body_run, container_run, node_run, outcome_of, plain_run_by, run_opening, skipped_from, test_node_run}
use Rattle.ext_plan_plain.specs.ValueStates.{Memory}
use Rattle.ext_plan_plain.proofs.Ends.{body_end, container_end, test_end}
use Rattle.ext_plan_plain.proofs.Nodes.{child_is}
use Rattle.ext_plan_plain.proofs.Reached.{Stands, outcome-ran, set-elsewhere, set-here, set-kept}

-- the parent of each node that has run has run, or it stands on this path
pub record AreAbove (ids : List Id) (path : List ℕ) (results : List NodeOutcome) : Type 0 where
  pub each : (parent child : ℕ) → IsParentOf ids parent child → HasRun child results → HasRun parent results ⊎ Stands parent path

-- the parent of the node stands on this path
pub record IsUnder (ids : List Id) (path : List ℕ) (at : ℕ) : Type 0 where
  pub parent : (p : ℕ) → IsParentOf ids p at → Stands p path

set-above : (ids : List Id) (at : ℕ) (above : List ℕ) (results : List NodeOutcome) (x : NodeOutcome) → x.status ≢ statuses.Skipped → IsUnder ids above at → AreAbove ids (at ∷ above) results → AreAbove ids above (slice_set results at x)
set-above ids at above results x ran under old = record {
  each = λ parent child is has.
      ⊎_elim
      (λ same. inr (under.parent parent (subst (IsParentOf ids parent) same is)))
      (λ differ.
      let before : HasRun child results = subst (λ o. IfSome o (λ r. r.status ≢ statuses.Skipped)) (set-elsewhere results at child x differ) has in
      ⊎_elim (λ ran_parent. inl (set-kept results at parent x ran ran_parent))
      (λ stands. ⊎_elim (λ here. inl (subst (λ k. HasRun k (slice_set results at x)) (sym here) (set-here results at x ran))) (λ more. inr more) stands)
      (old.each parent child is before))
      (cases_eq child at);
}

widen : (ids : List Id) (at : ℕ) (above : List ℕ) (results : List NodeOutcome) → AreAbove ids above results → AreAbove ids (at ∷ above) results
widen ids at above results old = record { each = λ parent child is has. ⊎_elim (λ ran. inl ran) (λ stands. inr (inr stands)) (old.each parent child is has) }

-- ---- the children of a node are its children

all-from : (P : ℕ → Type 0) (xs : List ℕ) → ((k : ℕ) → k < length xs → P (get_or xs k 0)) → AllByRecursion P xs
all-from P [] each = tt
all-from P (x ∷ xs) each = (each 0 (omega arith), all-from P xs (λ k within. each (suc k) (omega (arith, within))))

all-cond : (P : ℕ → Type 0) (b : Bool) (x : ℕ) (xs : List ℕ) → P x → AllByRecursion P xs → AllByRecursion P (cond b (x ∷ xs) xs)
all-cond P true x xs p all = (p, all)
all-cond P false x xs p all = all

pub all-filter : (P : ℕ → Type 0) (test : ℕ → Bool) (xs : List ℕ) → AllByRecursion P xs → AllByRecursion P (filter test xs)
all-filter P test [] all = tt
all-filter P test (x ∷ xs) all = all-cond P (test x) x (filter test xs) all.0 (all-filter P test xs all.1)

all-append : (P : ℕ → Type 0) (xs ys : List ℕ) → AllByRecursion P xs → AllByRecursion P ys → AllByRecursion P (xs ++ ys)
all-append P [] ys p q = q
all-append P (x ∷ xs) ys p q = (p.0, all-append P xs ys p.1 q)

pub parents-all : (ids : List Id) (at : ℕ) → at < length ids → AllByRecursion (IsParentOf ids at) (children_of ids at)
parents-all ids at within = all-from (IsParentOf ids at) (children_of ids at) (λ k less. child_is ids at (children_of ids at) k 0 within refl less)

pub children-all : (ids : List Id) (test : ℕ → Bool) (at : ℕ) → at < length ids → AllByRecursion (IsParentOf ids at) (in_run_order test (children_of ids at))
children-all ids test at within =
    let all = parents-all ids at within in
    all-append (IsParentOf ids at) (filter test (children_of ids at)) (filter (λ x. not (test x)) (children_of ids at)) (all-filter (IsParentOf ids at) test (children_of ids at) all) (all-filter (IsParentOf ids at) (λ x. not (test x)) (children_of ids at) all)

-- ---- each node

fold-above : (ids : List Id) (path : List ℕ) (P : ℕ → Type 0) (each : RunState → ℕ → RunState) → ((run : RunState) (child : ℕ) → P child → AreAbove ids path run.results → AreAbove ids path (each run child).results)
    → (children : List ℕ) (run : RunState) → AllByRecursion P children → AreAbove ids path run.results → AreAbove ids path (fold each run children).results
fold-above ids path P each kept [] run all h = h
fold-above ids path P each kept (child ∷ more) run all h = fold-above ids path P each kept more (each run child) all.1 (kept run child all.0 h)

module _ (plan : PlanText) (tree : NodesAreTree plan) where
  body-above : (path_run : List ℕ → RunState → RunState) (at : ℕ) (above : List ℕ) → ((child : ℕ) (run : RunState) → IsParentOf (ids_of_nodes plan.nodes) at child → AreAbove (ids_of_nodes plan.nodes) (at ∷ above) run.results → AreAbove (ids_of_nodes plan.nodes) (at ∷ above) (path_run (child ∷ at ∷ above) run).results)
      → (go : Bool) (run : RunState) → at < length (ids_of_nodes plan.nodes) → AreAbove (ids_of_nodes plan.nodes) (at ∷ above) run.results → AreAbove (ids_of_nodes plan.nodes) (at ∷ above) (body_run plan path_run go (at ∷ above) run).results
  body-above path_run at above each true run within h =
      let ids = ids_of_nodes plan.nodes in
      fold-above ids (at ∷ above) (IsParentOf ids at) (λ r child. path_run (child ∷ at ∷ above) r) (λ r child is old. each child r is old) (in_run_order (concurrent_of plan) (children_of ids at)) run (children-all ids (concurrent_of plan) at within) h
  body-above path_run at above each false run within h = h

  either-above : (ids : List Id) (path : List ℕ) (b : Bool) (x y : RunState) → AreAbove ids path x.results → AreAbove ids path y.results → AreAbove ids path (if b then x else y).results
  either-above ids path true x y p q = p
  either-above ids path false x y p q = q

  node-above : (levels at : ℕ) (above : List ℕ) (run : RunState) → at < length (ids_of_nodes plan.nodes) → IsUnder (ids_of_nodes plan.nodes) above at → AreAbove (ids_of_nodes plan.nodes) above run.results
      → AreAbove (ids_of_nodes plan.nodes) above (node_run plan levels (at ∷ above) run).results
  unfolding node_run
  node-above zero at above run within under h = h
  node-above (suc levels) at above run within under h =
      let ids = ids_of_nodes plan.nodes in
      let path = at ∷ above in
      let wide = widen ids at above run.results h in
      let tested = test_end plan at path run in
      let contained = container_end plan (node_run plan levels) at path run in
      let before = befores_run plan false at path run.state in
      let x = outcome_of at true tested (faults_of_closes tested.state.places at (seal_keys tested.state.places at tested.state)) in
      let y = outcome_of at false contained (faults_of_closes contained.state.places at (seal_keys contained.state.places at contained.state)) in
      let below : (child : ℕ) (run : RunState) → IsParentOf ids at child → AreAbove ids path run.results → AreAbove ids path (node_run plan levels (child ∷ path) run).results =
      λ child r is old. node-above levels child path r is.child_within (record { parent = λ p other. inl (one_parent ids tree p at child other is) }) old in
      let body = body-above (node_run plan levels) at above below (all_successful before.calls) (record { state = before.state; results = run.results }) within wide in
      either-above ids above (is_some (test_of plan at)) (test_node_run plan at path run) (container_run plan (node_run plan levels) at path run)
      (set-above ids at above run.results x (outcome-ran at true tested (faults_of_closes tested.state.places at (seal_keys tested.state.places at tested.state))) under wide)
      (set-above ids at above (body_end plan (node_run plan levels) at path run).results y (outcome-ran at false contained (faults_of_closes contained.state.places at (seal_keys contained.state.places at contained.state))) under body)

-- ---- the whole run

pub not_yet : (nodes : List NodeText) (from k : ℕ) → k < length nodes → HasRun k (skipped_from from nodes) → ⊥
not_yet [] from k within has = absurd (omega (arith, within))
not_yet (node ∷ nodes) from zero within has = has refl
not_yet (node ∷ nodes) from (suc k) within has = not_yet nodes (from + 1) k (omega (arith, within)) has

pub runs_below : (memory : List Memory) (plan : PlanText) → NodesAreTree plan → (parent child : ℕ) → IsParentOf (ids_of_nodes plan.nodes) parent child → HasRun child (plain_run_by memory plan)
    → HasRun parent (plain_run_by memory plan)
runs_below memory plan tree parent child is has =
    let ids = ids_of_nodes plan.nodes in
    let opening : AreAbove ids [] (run_opening memory plan).results = record { each = λ p c parented ran. absurd (not_yet plan.nodes 0 c (subst (λ n. c < n) (length-map plan.nodes (λ n. n.id)) parented.child_within) ran) } in
    let root : IsUnder ids [] 0 = record { parent = λ p parented. absurd (let some = child_not_root ids tree p 0 parented in omega (arith, some)) } in
    let all = node-above plan tree (length plan.nodes) 0 [] (run_opening memory plan) tree.first.some root opening in
    ⊎_elim (λ x. x) (λ none. absurd none) (all.each parent child is has)
