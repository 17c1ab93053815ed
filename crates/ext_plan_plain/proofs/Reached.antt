-- Which nodes a plain run reaches: each node of a plan whose nodes are a tree, whose tests have no children and whose containers have no before-callbacks; and of
-- a container whose before-callbacks ended in some way all children or no other node.
use Rattle.std.proofs.Common.{◌≡◌, ◌≢◌, ◌<◌, ◌≤◌, ◌+◌, ℕ, zero, suc, Bool, true, false, List, [], ◌∷◌, ◌++◌, length, map, get_or, Option, Some, None, is_some, refl, ap, sym, subst, ◌∙◌, arith, add-one, ⊎_elim, inl, inr, ◌⊎◌}
use Rattle.std.specs.Prelude.{cond, filter, fold, not, slice_get, slice_set, IfSome, if◌then◌else◌}
use Rattle.std.specs.List.{All, HoldsAt, range_with_len}
use Rattle.std.proofs.lemmas.List.{length-map}
use Rattle.ext_tree.specs.Trees.{Id, IsTree, IsParentOf, children_of}
use Rattle.ext_tree.proofs.TreeFacts.{parent_first}
use Rattle.ext_tree.proofs.TreeLaws.{parents_list_children}
use Rattle.ext_plan.specs.Plans.{StepText, NodeText, PlanText}
use Rattle.ext_plan.specs.ReadPlans.{ids_of_nodes, NodesAreTree, TestsHaveNoChildren}
use Rattle.ext_lifecycle.specs.declared.call.Call.{Call}
use Rattle.ext_lifecycle.specs.declared.call.Kind.TheVariants as kinds
use Rattle.ext_lifecycle.specs.declared.status.Status.TheVariants as statuses
use Rattle.ext_lifecycle.specs.Endings.{all_successful, first_abort, first_fault, total_by, unsuccessful}
use Rattle.ext_lifecycle.specs.FaultTexts.{NodeOutcome}
use Rattle.ext_lifecycle.specs.Modes.{in_run_order}
use Rattle.ext_lifecycle.specs.Results.{close_ending}
use Rattle.ext_plan.specs.StepCalls.{start_of}
use Rattle.ext_plan_plain.specs.ContextEnds.{seal_keys, faults_of_closes}
use Rattle.ext_plan_plain.specs.PlainRunLaws.{HasNoBeforeAlls, HasRun, goes_on}
use Rattle.ext_plan.specs.PlanCalls.{callbacks_in, test_in, test_of, concurrent_of}
use Rattle.ext_plan_plain.specs.NodeCalls.{CallsEnd, befores_run, call_run, make_befores, no_calls}
use Rattle.ext_plan_plain.specs.PlainRun.{RunState, body_run, container_run, node_run, outcome_of, plain_run_by, run_opening, test_node_run}
use Rattle.ext_plan_plain.specs.ValueStates.{Memory}
use Rattle.ext_plan_plain.proofs.Ends.{body_end, container_end, test_end}
use Rattle.ext_plan_plain.proofs.Nodes.{node_run-suc}
use Rattle.ext_plan_plain.proofs.Sound.{node-kept, tests_of_plan}

-- ---- the result of a node that ran

total-ran : (fault abort : Option (List ℕ)) (count : ℕ) → (total_by fault abort count).status ≢ statuses.Skipped
total-ran (Some fault) abort count = λ is. absurd cc
total-ran None (Some abort) count = λ is. absurd cc
total-ran None None count = λ is. absurd cc

pub outcome-ran : (at : ℕ) (is_test : Bool) (end : CallsEnd) (closed : List (Option (List ℕ))) → (outcome_of at is_test end closed).status ≢ statuses.Skipped
outcome-ran at is_test end closed =
    let all = end.calls ++ map close_ending closed in
    total-ran (first_fault all) (first_abort all) (unsuccessful all)

pub set-here : (results : List NodeOutcome) (at : ℕ) (x : NodeOutcome) → x.status ≢ statuses.Skipped → HasRun at (slice_set results at x)
set-here [] at x ran = tt
set-here (y ∷ ys) zero x ran = ran
set-here (y ∷ ys) (suc at) x ran = set-here ys at x ran

pub set-kept : (results : List NodeOutcome) (at k : ℕ) (x : NodeOutcome) → x.status ≢ statuses.Skipped → HasRun k results → HasRun k (slice_set results at x)
set-kept [] at k x ran h = h
set-kept (y ∷ ys) zero zero x ran h = ran
set-kept (y ∷ ys) zero (suc k) x ran h = h
set-kept (y ∷ ys) (suc at) zero x ran h = h
set-kept (y ∷ ys) (suc at) (suc k) x ran h = set-kept ys at k x ran h

pub set-elsewhere : (results : List NodeOutcome) (at other : ℕ) (x : NodeOutcome) → other ≢ at → slice_get (slice_set results at x) other ≡ slice_get results other
set-elsewhere [] at other x differ = refl
set-elsewhere (y ∷ ys) zero zero x differ = absurd (differ refl)
set-elsewhere (y ∷ ys) zero (suc other) x differ = refl
set-elsewhere (y ∷ ys) (suc at) zero x differ = refl
set-elsewhere (y ∷ ys) (suc at) (suc other) x differ = set-elsewhere ys at other x (λ same. differ (ap suc same))

read-run : (results : List NodeOutcome) (k : ℕ) (d : NodeOutcome) → k < length results → HasRun k results → (get_or results k d).status ≢ statuses.Skipped
read-run [] k d within h = absurd (omega (arith, within))
read-run (y ∷ ys) zero d within h = h
read-run (y ∷ ys) (suc k) d within h = read-run ys k d (omega (arith, within)) h

-- ---- each node is so many levels below the root

abbrev pub IsBelow : List Id → ℕ → ℕ → ℕ → Type 0
IsBelow ids zero at k = at ≡ k
IsBelow ids (suc levels) at k = (child : ℕ) × IsParentOf ids at child × IsBelow ids levels child k

below-child : (ids : List Id) (levels at parent k : ℕ) → IsBelow ids levels at parent → IsParentOf ids parent k → IsBelow ids (suc levels) at k
below-child ids zero at parent k same is = (k, subst (λ p. IsParentOf ids p k) (sym same) is, refl)
below-child ids (suc levels) at parent k below is = (below.0, below.1, below-child ids levels below.0 parent k below.2 is)

below_root : (ids : List Id) → IsTree ids → (bound k : ℕ) → k < bound → k < length ids → (levels : ℕ) × IsBelow ids levels 0 k
below_root ids tree zero k less within = absurd (omega (arith, less))
below_root ids tree (suc bound) zero less within = (0, refl)
below_root ids tree (suc bound) (suc k) less within =
    let before = (tree.later.each (suc k) (omega arith) within).parent in
    let earlier : before.0 < suc k = before.1 in
    let parent : IsParentOf ids before.0 (suc k) = record { parent_within = omega (arith, earlier, within); child_within = within; ids_are = before.2 } in
    let above = below_root ids tree bound before.0 (omega (arith, earlier, less)) (omega (arith, earlier, within)) in
    (suc above.0, below-child ids above.0 0 before.0 (suc k) above.1 parent)

-- ---- children, one after another

-- a number stands in a list
abbrev pub Stands : ℕ → List ℕ → Type 0
Stands x [] = ⊥
Stands x (y ∷ ys) = (x ≡ y) ⊎ Stands x ys

pub stands-at : (xs : List ℕ) (i x : ℕ) → i < length xs → get_or xs i x ≡ x → Stands x xs
stands-at [] i x within at = absurd (omega (arith, within))
stands-at (y ∷ ys) zero x within at = inl (sym at)
stands-at (y ∷ ys) (suc i) x within at = inr (stands-at ys i x (omega (arith, within)) at)

pub stands-first : (xs ys : List ℕ) (x : ℕ) → Stands x xs → Stands x (xs ++ ys)
stands-first [] ys x h = absurd h
stands-first (z ∷ xs) ys x h = ⊎_elim (λ same. inl same) (λ more. inr (stands-first xs ys x more)) h

pub stands-second : (xs ys : List ℕ) (x : ℕ) → Stands x ys → Stands x (xs ++ ys)
stands-second [] ys x h = h
stands-second (z ∷ xs) ys x h = inr (stands-second xs ys x h)

stands-cond : (b : Bool) (y x : ℕ) (ys : List ℕ) → Stands x ys → Stands x (cond b (y ∷ ys) ys)
stands-cond true y x ys h = inr h
stands-cond false y x ys h = h

stands-filter : (test : ℕ → Bool) (xs : List ℕ) (x : ℕ) → test x ≡ true → Stands x xs → Stands x (filter test xs)
stands-filter test [] x passes h = absurd h
stands-filter test (y ∷ ys) x passes h =
    ⊎_elim
    (λ same. subst (λ b. Stands x (cond b (y ∷ filter test ys) (filter test ys))) (sym (ap test (sym same) ∙ passes)) (inl same))
    (λ more. stands-cond (test y) y x (filter test ys) (stands-filter test ys x passes more)) h

pub either-part : (b : Bool) (test : ℕ → Bool) (xs : List ℕ) (x : ℕ) → test x ≡ b → Stands x xs → Stands x (in_run_order test xs)
either-part true test xs x is h = stands-first (filter test xs) (filter (λ y. not (test y)) xs) x (stands-filter test xs x is h)
either-part false test xs x is h = stands-second (filter test xs) (filter (λ y. not (test y)) xs) x (stands-filter (λ y. not (test y)) xs x (ap not is) h)

pub fold-stays : (P : RunState → Type 0) (each : RunState → ℕ → RunState) → ((run : RunState) (child : ℕ) → P run → P (each run child)) → (children : List ℕ) (run : RunState) → P run → P (fold each run children)
fold-stays P each kept [] run h = h
fold-stays P each kept (child ∷ more) run h = fold-stays P each kept more (each run child) (kept run child h)

fold-reaches : (P : RunState → Type 0) (each : RunState → ℕ → RunState) → ((run : RunState) (child : ℕ) → P run → P (each run child)) → (children : List ℕ) (child : ℕ) (run : RunState)
    → Stands child children → ((run : RunState) → P (each run child)) → P (fold each run children)
fold-reaches P each kept [] child run there here = absurd there
fold-reaches P each kept (first ∷ more) child run there here =
    ⊎_elim (λ same. fold-stays P each kept more (each run first) (subst (λ c. P (each run c)) same (here run))) (λ later. fold-reaches P each kept more child (each run first) later here) there

-- ---- a test has no children

by_test : (test : Option (List StepText)) (steps : List StepText) (P : Type 0) → test ≡ Some steps → IfSome test (λ _. P) → P
by_test None steps P is h = absurd cc
by_test (Some others) steps P is h = h

at_test : (nodes : List NodeText) (at : ℕ) (steps : List StepText) (P : Type 0) → test_in (slice_get nodes at) ≡ Some steps → HoldsAt (λ node. IfSome node.test (λ _. P)) nodes at → P
at_test [] at steps P is h = absurd cc
at_test (node ∷ nodes) zero steps P is h = by_test node.test steps P is (h node)
at_test (node ∷ nodes) (suc at) steps P is h = at_test nodes at steps P is (λ d. h d)

-- a node with a child is no test
pub no_test : (plan : PlanText) (at child : ℕ) (test : Option (List StepText)) → TestsHaveNoChildren plan → IsParentOf (ids_of_nodes plan.nodes) at child → test_of plan at ≡ test → is_some test ≡ false
no_test plan at child None childless parent is = refl
no_test plan at child (Some steps) childless parent is =
    let ids = ids_of_nodes plan.nodes in
    let listed = (parents_list_children ids at parent.parent_within).listed child parent in
    let within : at < length plan.nodes = subst (λ n. at < n) (length-map plan.nodes (λ n. n.id)) parent.parent_within in
    let none : children_of ids at ≡ [] = at_test plan.nodes at steps (children_of ids at ≡ []) is (childless at within) in
    absurd (subst (Stands child) none (stands-at (children_of ids at) listed.0 child listed.1 listed.2))

-- ---- a container whose before-callbacks were all successful

module _ (plan : PlanText) where
  pub stays : (k levels : ℕ) (path : List ℕ) (run : RunState) → HasRun k run.results → HasRun k (node_run plan levels path run).results
  stays k = node-kept plan (HasRun k) (λ at end closed results h. set-kept results at k (outcome_of at (is_some (test_of plan at)) end closed) (outcome-ran at (is_some (test_of plan at)) end closed) h)

  -- what each run of a child reaches, the body of its parent reaches
  body-reaches : (levels at child k : ℕ) (above : List ℕ) (run : RunState) → IsParentOf (ids_of_nodes plan.nodes) at child
      → ((r : RunState) → HasRun k (node_run plan levels (child ∷ at ∷ above) r).results) → HasRun k (body_run plan (node_run plan levels) true (at ∷ above) run).results
  body-reaches levels at child k above run parent each =
      let children = children_of (ids_of_nodes plan.nodes) at in
      let listed = (parents_list_children (ids_of_nodes plan.nodes) at parent.parent_within).listed child parent in
      let there = either-part (concurrent_of plan child) (concurrent_of plan) children child refl (stands-at children listed.0 child listed.1 listed.2) in
      fold-reaches (λ r. HasRun k r.results) (λ r c. node_run plan levels (c ∷ at ∷ above) r) (λ r c h. stays k levels (c ∷ at ∷ above) r h) (in_run_order (concurrent_of plan) children) child run there each

  -- and what the body of a container reaches, the container reaches
  pub container-ran : (levels at k : ℕ) (above : List ℕ) (run : RunState) → is_some (test_of plan at) ≡ false → goes_on plan (at ∷ above) run ≡ true
      → HasRun k (body_run plan (node_run plan levels) true (at ∷ above) (record { state = (befores_run plan false at (at ∷ above) run.state).state; results = run.results })).results
      → HasRun k (node_run plan (suc levels) (at ∷ above) run).results
  container-ran levels at k above run container go reached =
      let path = at ∷ above in
      let before = befores_run plan false at path run.state in
      let opened : RunState = record { state = before.state; results = run.results } in
      let end = container_end plan (node_run plan levels) at path run in
      let closed = faults_of_closes end.state.places at (seal_keys end.state.places at end.state) in
      let body : HasRun k (body_end plan (node_run plan levels) at path run).results = subst (λ b. HasRun k (body_run plan (node_run plan levels) b path opened).results) (sym go) reached in
      let ran : HasRun k (container_run plan (node_run plan levels) at path run).results = set-kept (body_end plan (node_run plan levels) at path run).results at k (outcome_of at false end closed) (outcome-ran at false end closed) body in
      subst (λ (r : RunState). HasRun k r.results) (sym (node_run-suc plan levels path run ∙ ap (λ b. if b then test_node_run plan at path run else container_run plan (node_run plan levels) at path run) container)) ran

  container-reaches : (levels at child k : ℕ) (above : List ℕ) (run : RunState) → is_some (test_of plan at) ≡ false → IsParentOf (ids_of_nodes plan.nodes) at child → goes_on plan (at ∷ above) run ≡ true
      → ((r : RunState) → HasRun k (node_run plan levels (child ∷ at ∷ above) r).results) → HasRun k (node_run plan (suc levels) (at ∷ above) run).results
  container-reaches levels at child k above run container parent go each =
      container-ran levels at k above run container go (body-reaches levels at child k above (record { state = (befores_run plan false at (at ∷ above) run.state).state; results = run.results }) parent each)

-- ---- a node itself

either-ran : (k : ℕ) (b : Bool) (x y : RunState) → HasRun k x.results → HasRun k y.results → HasRun k (if b then x else y).results
either-ran k true x y p q = p
either-ran k false x y p q = q

pub node-ran : (plan : PlanText) (levels : ℕ) (path : List ℕ) (run : RunState) → HasRun (start_of path) (node_run plan (suc levels) path run).results
node-ran plan levels path run =
    let at = start_of path in
    let tested = test_end plan at path run in
    let contained = container_end plan (node_run plan levels) at path run in
    subst (λ (r : RunState). HasRun at r.results) (sym (node_run-suc plan levels path run))
    (either-ran at (is_some (test_of plan at)) (test_node_run plan at path run) (container_run plan (node_run plan levels) at path run)
    (set-here run.results at (outcome_of at true tested (faults_of_closes tested.state.places at (seal_keys tested.state.places at tested.state))) (outcome-ran at true tested (faults_of_closes tested.state.places at (seal_keys tested.state.places at tested.state))))
    (set-here (body_end plan (node_run plan levels) at path run).results at (outcome_of at false contained (faults_of_closes contained.state.places at (seal_keys contained.state.places at contained.state))) (outcome-ran at false contained (faults_of_closes contained.state.places at (seal_keys contained.state.places at contained.state)))))

pub runs_node : (plan : PlanText) (levels : ℕ) (path : List ℕ) (run : RunState) → HasRun (start_of path) (node_run plan (levels + 1) path run).results
runs_node plan levels path run = subst (λ n. HasRun (start_of path) (node_run plan n path run).results) (sym (add-one levels)) (node-ran plan levels path run)

pub runs_body : (plan : PlanText) (levels at child : ℕ) (above : List ℕ) (run : RunState) → TestsHaveNoChildren plan → IsParentOf (ids_of_nodes plan.nodes) at child → goes_on plan (at ∷ above) run ≡ true
    → HasRun child (node_run plan (levels + 2) (at ∷ above) run).results
runs_body plan levels at child above run childless parent go =
    let two : suc (suc levels) ≡ levels + 2 = omega arith in
    subst (λ n. HasRun child (node_run plan n (at ∷ above) run).results) two
    (container-reaches plan (suc levels) at child child above run (no_test plan at child (test_of plan at) childless parent refl) parent go (λ r. node-ran plan levels (child ∷ at ∷ above) r))

-- ---- a container whose before-callbacks were not all successful

pub skips_body : (plan : PlanText) (levels other : ℕ) (path : List ℕ) (run : RunState) → is_some (test_of plan (start_of path)) ≡ false → goes_on plan path run ≡ false → other ≢ start_of path
    → slice_get (node_run plan (levels + 1) path run).results other ≡ slice_get run.results other
skips_body plan levels other path run container stop differ =
    let at = start_of path in
    let before = befores_run plan false at path run.state in
    let opened : RunState = record { state = before.state; results = run.results } in
    let end = container_end plan (node_run plan levels) at path run in
    let whole : node_run plan (levels + 1) path run ≡ container_run plan (node_run plan levels) at path run =
    ap (λ n. node_run plan n path run) (add-one levels) ∙ node_run-suc plan levels path run ∙ ap (λ b. if b then test_node_run plan at path run else container_run plan (node_run plan levels) at path run) container in
    let body : (body_end plan (node_run plan levels) at path run).results ≡ run.results = ap (λ b. (body_run plan (node_run plan levels) b path opened).results) stop in
    ap (λ (r : RunState). slice_get r.results other) whole
    ∙ set-elsewhere (body_end plan (node_run plan levels) at path run).results at other (outcome_of at false end (faults_of_closes end.state.places at (seal_keys end.state.places at end.state))) differ
    ∙ ap (λ rs. slice_get rs other) body

-- ---- without callbacks before all children

no_before_alls : (nodes : List NodeText) (at : ℕ) → All (λ node. node.before_all ≡ []) nodes → callbacks_in kinds.BeforeAll (slice_get nodes at) ≡ []
no_before_alls [] at none = refl
no_before_alls (node ∷ nodes) zero none = none 0 node (omega arith)
no_before_alls (node ∷ nodes) (suc at) none = no_before_alls nodes at (λ k d within. none (suc k) d (omega (arith, within)))

always_on : (plan : PlanText) (path : List ℕ) (run : RunState) → HasNoBeforeAlls plan → goes_on plan path run ≡ true
always_on plan path run none =
    let at = start_of path in
    let callback : ℕ → Call = λ i. record { kind = kinds.BeforeAll; from = at; index = i } in
    ap (λ callbacks. all_successful (make_befores (call_run plan path) (map callback (range_with_len 0 (length callbacks))) (no_calls run.state)).calls) (no_before_alls plan.nodes at none)

module _ (plan : PlanText) (tree : NodesAreTree plan) (childless : TestsHaveNoChildren plan) (none : HasNoBeforeAlls plan) where
  reaches : (levels below at k : ℕ) (above : List ℕ) (run : RunState) → length (ids_of_nodes plan.nodes) ≤ levels + at → at < length (ids_of_nodes plan.nodes) → IsBelow (ids_of_nodes plan.nodes) below at k
      → HasRun k (node_run plan levels (at ∷ above) run).results
  reaches zero below at k above run deep within is = absurd (omega (arith, deep, within))
  reaches (suc levels) zero at k above run deep within is = subst (λ j. HasRun j (node_run plan (suc levels) (at ∷ above) run).results) is (node-ran plan levels (at ∷ above) run)
  reaches (suc levels) (suc below) at k above run deep within is =
      let later : at < is.0 = parent_first (ids_of_nodes plan.nodes) tree at is.0 is.1 in
      container-reaches plan levels at is.0 k above run (no_test plan at is.0 (test_of plan at) childless is.1 refl) is.1 (always_on plan (at ∷ above) run none)
      (λ r. reaches levels below is.0 k (at ∷ above) r (omega (arith, deep, later)) is.1.child_within is.2)

pub each_node_runs : (memory : List Memory) (plan : PlanText) → NodesAreTree plan → TestsHaveNoChildren plan → HasNoBeforeAlls plan → All (λ r. r.status ≢ statuses.Skipped) (plain_run_by memory plan)
each_node_runs memory plan tree childless none = λ k d within.
    let ids = ids_of_nodes plan.nodes in
    let nodes : length ids ≡ length plan.nodes = length-map plan.nodes (λ n. n.id) in
    let results : length (plain_run_by memory plan) ≡ length plan.nodes = sym (length-map (plain_run_by memory plan) (λ r. r.is_test)) ∙ ap length (tests_of_plan memory plan) ∙ length-map plan.nodes (λ n. is_some n.test) in
    let inside : k < length ids = omega (arith, nodes, results, within) in
    let is = below_root ids tree (suc k) k (omega arith) inside in
    read-run (plain_run_by memory plan) k d within (reaches plan tree childless none (length plan.nodes) is.0 0 k [] (run_opening memory plan) (omega (arith, nodes)) tree.first.some is.1)
