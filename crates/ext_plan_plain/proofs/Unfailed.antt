-- Where no node failed no step lacked memory, so that the run is the one whose steps all find enough.
use Rattle.std.proofs.Common.{◌≡◌, ◌≢◌, ◌<◌, ℕ, zero, suc, Bool, true, false, List, [], ◌∷◌, ◌++◌, length, map, get_or, Option, Some, None, is_some, refl, ap, sym, subst, ◌∙◌, arith, append_assoc, ⊎_elim}
use Rattle.std.specs.Prelude.{fold, slice_get, slice_set, IsSomeAnd, if◌then◌else◌}
use Rattle.std.specs.List.{AllByRecursion, list_any}
use Rattle.std.proofs.lemmas.List.{length-map}
use Rattle.ext_tree.specs.Trees.{Id, IsTree, IsParentOf, IsPathOf, IsWalk, children_of}
use Rattle.ext_lifecycle.specs.declared.call.Call.{Call}
use Rattle.ext_lifecycle.specs.declared.status.Status.TheVariants as statuses
use Rattle.ext_lifecycle.specs.Callbacks.{afters_of, befores_of, test_call}
use Rattle.ext_model.specs.Closed.{or_else}
use Rattle.ext_lifecycle.specs.Endings.{all_successful, fault_in, first_abort, first_fault, successful, aborted, failed, total_by, unsuccessful}
use Rattle.ext_lifecycle.specs.FaultTexts.{NodeOutcome, VerdictText}
use Rattle.ext_lifecycle.specs.Modes.{in_run_order}
use Rattle.ext_lifecycle.specs.Results.{close_ending}
use Rattle.ext_plan.specs.Plans.{KeyText, PlanText, StepText}
use Rattle.ext_plan.specs.PlanCalls.{concurrent_of, registered, steps_of_call, test_of}
use Rattle.ext_plan.specs.ReadPlans.{ids_of_nodes, NodesAreTree}
use Rattle.ext_plan_plain.specs.ValueStates.{Memory, ValueState, enough, found_later, next_found, with_memory}
use Rattle.ext_plan_plain.specs.StepRuns.{StepEnd, and_then, next_step, no_memory, step_by, step_run, steps_run, unless_ended}
use Rattle.ext_plan_plain.specs.NodeCalls.{CallsEnd, and_call, befores_run, call_run, make, make_all, make_befores, make_if_successful, no_calls, test_run}
use Rattle.ext_plan_plain.specs.ContextEnds.{seal_keys, faults_of_closes}
use Rattle.ext_plan_plain.specs.InnerSteps.{AllBelow, NodeSpared}
use Rattle.ext_plan_plain.specs.PlainRun.{HasNoFailed, RunState, body_run, container_run, may_lack_memory, node_end, node_run, outcome_of, plain_run, plain_run_by, run_opening, test_node_run}
use Rattle.ext_plan_plain.proofs.Below.{children-all}
use Rattle.ext_plan_plain.proofs.Elsewhere.{longer, one-path, set-at, siblings-keep}
use Rattle.ext_plan_plain.proofs.Ends.{body_end, container_end, test_end}
use Rattle.ext_plan_plain.proofs.Lacking.{does_or_lacks}
use Rattle.ext_plan_plain.proofs.Memories.{end_with, seal_keys-with, step_by-with}
use Rattle.ext_plan_plain.proofs.Reached.{set-elsewhere}
use Rattle.ext_plan_plain.proofs.Skipping.{Distinct, distinct-below, distinct-ordered, walk_within}
use Rattle.ext_plan_plain.proofs.Sound.{tests_of_plan}
use Rattle.ext_plan_plain.proofs.Spared.{some-spared}

-- ---- faults of calls

or_none : (first second : Option (List ℕ)) → or_else first second ≡ None → (first ≡ None) × (second ≡ None)
or_none None second is = (refl, is)
or_none (Some fault) second is = absurd cc

none-append : (xs ys : List VerdictText) → first_fault (xs ++ ys) ≡ None → (first_fault xs ≡ None) × (first_fault ys ≡ None)
none-append [] ys is = (refl, is)
none-append (x ∷ xs) ys is =
    let both = or_none (fault_in x) (first_fault (xs ++ ys)) is in
    let rest = none-append xs ys both.1 in
    (ap (λ f. or_else f (first_fault xs)) both.0 ∙ rest.0, rest.1)

none-last : (v : VerdictText) → first_fault (v ∷ []) ≡ None → fault_in v ≡ None
none-last v is = (or_none (fault_in v) None is).0

total-unfailed : (fault abort : Option (List ℕ)) (count : ℕ) → (total_by fault abort count).status ≢ statuses.Failed → fault ≡ None
total-unfailed (Some fault) abort count h = absurd (h refl)
total-unfailed None (Some abort) count h = refl
total-unfailed None None count h = refl

outcome-unfailed : (at : ℕ) (is_test : Bool) (end : CallsEnd) (closed : List (Option (List ℕ))) → (outcome_of at is_test end closed).status ≢ statuses.Failed → first_fault end.calls ≡ None
outcome-unfailed at is_test end closed h =
    let all = end.calls ++ map close_ending closed in
    (none-append end.calls (map close_ending closed) (total-unfailed (first_fault all) (first_abort all) (unsuccessful all) h)).0

-- ---- steps

step-enough : (keys : List KeyText) (found : Memory) (path : List ℕ) (step : StepText) (s : ValueState) → fault_in (step_by keys found path step s).verdict ≡ None → step_by keys found path step s ≡ step_run keys path step s
step-enough keys found path step s none =
    ⊎_elim (λ same. same) (λ lacks. absurd (let bad : fault_in no_memory ≡ None = sym (ap fault_in lacks) ∙ none in cc)) (does_or_lacks keys found path step s)

next-forgets : (keys : List KeyText) (path : List ℕ) (step : StepText) (s : ValueState) → fault_in (next_step keys path step s).verdict ≡ None → end_with [] (next_step keys path step s) ≡ next_step keys path step (with_memory [] s)
next-forgets keys path step s none =
    let later = with_memory (found_later s.memory) s in
    ap (end_with []) (step-enough keys (next_found s.memory) path step later none) ∙ step_by-with [] keys enough path step later

unless-forgets : (v : VerdictText) (first clean : StepEnd) (go_on : ValueState → StepEnd) → first.verdict ≡ v → (fault_in v ≡ None → end_with [] first ≡ clean)
    → ((s : ValueState) → fault_in (go_on s).verdict ≡ None → end_with [] (go_on s) ≡ go_on (with_memory [] s))
    → fault_in (unless_ended v first go_on).verdict ≡ None → end_with [] (unless_ended v first go_on) ≡ unless_ended clean.verdict clean go_on
unless-forgets successful first clean go_on is cleans each none =
    ap (and_then (end_with [] first)) (each first.state none)
    ∙ ap (λ v. unless_ended v (end_with [] first) go_on) (sym is)
    ∙ ap (λ (c : StepEnd). unless_ended c.verdict c go_on) (cleans refl)
unless-forgets (aborted text) first clean go_on is cleans each none =
    let same = cleans refl in
    same ∙ sym (ap (λ w. unless_ended w clean go_on) (ap (λ (c : StepEnd). c.verdict) (sym same) ∙ is))
unless-forgets (failed text) first clean go_on is cleans each none = absurd (let bad : Some text ≡ None = sym (ap fault_in is) ∙ none in cc)

steps-forget : (keys : List KeyText) (path : List ℕ) (steps : List StepText) (s : ValueState) → fault_in (steps_run keys path steps s).verdict ≡ None → end_with [] (steps_run keys path steps s) ≡ steps_run keys path steps (with_memory [] s)
unfolding steps_run
steps-forget keys path [] s none = refl
steps-forget keys path (step ∷ more) s none =
    let first = next_step keys path step s in
    unless-forgets first.verdict first (next_step keys path step (with_memory [] s)) (steps_run keys path more) refl (next-forgets keys path step s) (steps-forget keys path more) none

-- ---- calls

abbrev forgotten : CallsEnd → CallsEnd
forgotten end = record { state = with_memory [] end.state; calls = end.calls; computed = end.computed; found = end.found }

abbrev run_forgotten : RunState → RunState
run_forgotten run = record { state = with_memory [] run.state; results = run.results }

module _ (plan : PlanText) (path : List ℕ) where
  abbrev does : Call → ValueState → StepEnd
  does = call_run plan path

  call-forgets : (call : Call) (s : ValueState) → fault_in (does call s).verdict ≡ None → end_with [] (does call s) ≡ does call (with_memory [] s)
  call-forgets call s none = steps-forget plan.keys path (steps_of_call plan call) s none

  make-earlier : (before : CallsEnd) (call : Call) → first_fault (make does before call).calls ≡ None → first_fault before.calls ≡ None
  make-earlier before call none = (none-append before.calls ((does call before.state).verdict ∷ []) none).0

  make-forgets : (before : CallsEnd) (call : Call) → first_fault (make does before call).calls ≡ None → forgotten (make does before call) ≡ make does (forgotten before) call
  make-forgets before call none =
      let last = none-last (does call before.state).verdict (none-append before.calls ((does call before.state).verdict ∷ []) none).1 in
      ap (and_call (forgotten before)) (call-forgets call before.state last)

  all-earlier : (calls : List Call) (before : CallsEnd) → first_fault (make_all does calls before).calls ≡ None → first_fault before.calls ≡ None
  all-earlier [] before none = none
  all-earlier (call ∷ calls) before none = make-earlier before call (all-earlier calls (make does before call) none)

  all-forgets : (calls : List Call) (before : CallsEnd) → first_fault (make_all does calls before).calls ≡ None → forgotten (make_all does calls before) ≡ make_all does calls (forgotten before)
  all-forgets [] before none = refl
  all-forgets (call ∷ calls) before none =
      all-forgets calls (make does before call) none ∙ ap (make_all does calls) (make-forgets before call (all-earlier calls (make does before call) none))

  if-earlier : (go : Bool) (before : CallsEnd) (call : Call) → first_fault (if go then make does before call else before).calls ≡ None → first_fault before.calls ≡ None
  if-earlier true before call none = make-earlier before call none
  if-earlier false before call none = none

  if-forgets : (go : Bool) (before : CallsEnd) (call : Call) → first_fault (if go then make does before call else before).calls ≡ None
      → forgotten (if go then make does before call else before) ≡ (if go then make does (forgotten before) call else forgotten before)
  if-forgets true before call none = make-forgets before call none
  if-forgets false before call none = refl

  befores-earlier : (calls : List Call) (before : CallsEnd) → first_fault (make_befores does calls before).calls ≡ None → first_fault before.calls ≡ None
  befores-earlier [] before none = none
  befores-earlier (call ∷ calls) before none = if-earlier (all_successful before.calls) before call (befores-earlier calls (make_if_successful does before call) none)

  befores-forget : (calls : List Call) (before : CallsEnd) → first_fault (make_befores does calls before).calls ≡ None → forgotten (make_befores does calls before) ≡ make_befores does calls (forgotten before)
  befores-forget [] before none = refl
  befores-forget (call ∷ calls) before none =
      let next = make_if_successful does before call in
      befores-forget calls next none ∙ ap (make_befores does calls) (if-forgets (all_successful before.calls) before call (befores-earlier calls next none))

  test-forgets : (at : ℕ) (run : RunState) → first_fault (test_end plan at path run).calls ≡ None → forgotten (test_end plan at path run) ≡ test_end plan at path (run_forgotten run)
  test-forgets at run none =
      let firsts = befores_of (registered plan) true at path in
      let lasts = afters_of (registered plan) true at path in
      let before = befores_run plan true at path run.state in
      let body = test_run plan at path before in
      let body_none = all-earlier lasts body none in
      let before_none = if-earlier (all_successful before.calls) before (test_call at) body_none in
      all-forgets lasts body none
      ∙ ap (make_all does lasts) (if-forgets (all_successful before.calls) before (test_call at) body_none ∙ ap (λ e. make_if_successful does e (test_call at)) (befores-forget firsts (no_calls run.state) before_none))

-- ---- the end of a node

end-forgets : (at : ℕ) (is_test : Bool) (end : CallsEnd) (results : List NodeOutcome) → run_forgotten (node_end at is_test end results) ≡ node_end at is_test (forgotten end) results
end-forgets at is_test end results =
    ap (λ s. record { state = s; results = slice_set results at (outcome_of at is_test end (faults_of_closes end.state.places at s)) }) (seal_keys-with [] end.state.places at end.state)

abbrev Unfailed : NodeOutcome → Type 0
Unfailed r = r.status ≢ statuses.Failed

module _ (plan : PlanText) (tree : NodesAreTree plan) where
  abbrev ids : List Id
  ids = ids_of_nodes plan.nodes

  -- ---- each node

  abbrev Forgets : ℕ → ℕ → List ℕ → Type 0
  Forgets levels at above =
      (run : RunState) → AllBelow Unfailed ids (at ∷ above) (node_run plan levels (at ∷ above) run).results → run_forgotten (node_run plan levels (at ∷ above) run) ≡ node_run plan levels (at ∷ above) (run_forgotten run)

  fold-forgets : (levels at : ℕ) (above children : List ℕ) (run : RunState) → IsWalk ids at above → ((child : ℕ) → IsParentOf ids at child → Forgets levels child (at ∷ above))
      → Distinct children → AllByRecursion (IsParentOf ids at) children
      → ((child : ℕ) → IsParentOf ids at child → AllBelow Unfailed ids (child ∷ at ∷ above) (fold (λ r other. node_run plan levels (other ∷ at ∷ above) r) run children).results)
      → run_forgotten (fold (λ r other. node_run plan levels (other ∷ at ∷ above) r) run children) ≡ fold (λ r other. node_run plan levels (other ∷ at ∷ above) r) (run_forgotten run) children
  fold-forgets levels at above [] run walk one distinct all after = refl
  fold-forgets levels at above (child ∷ more) run walk one distinct all after =
      let next = node_run plan levels (child ∷ at ∷ above) run in
      fold-forgets levels at above more next walk one distinct.1 all.1 after
      ∙ ap (λ r. fold (λ r other. node_run plan levels (other ∷ at ∷ above) r) r more) (one child all.0 run (siblings-keep plan tree Unfailed levels at child above more next walk all.1 distinct.0 (after child all.0)))

  body-forgets : (levels at : ℕ) (above : List ℕ) (go : Bool) (run : RunState) → IsWalk ids at above → at < length ids → ((child : ℕ) → IsParentOf ids at child → Forgets levels child (at ∷ above))
      → ((child : ℕ) → IsParentOf ids at child → AllBelow Unfailed ids (child ∷ at ∷ above) (body_run plan (node_run plan levels) go (at ∷ above) run).results)
      → run_forgotten (body_run plan (node_run plan levels) go (at ∷ above) run) ≡ body_run plan (node_run plan levels) go (at ∷ above) (run_forgotten run)
  body-forgets levels at above true run walk within one after =
      let children = children_of ids at in
      fold-forgets levels at above (in_run_order (concurrent_of plan) children) run walk one (distinct-ordered (concurrent_of plan) children (distinct-below ids at (length ids))) (children-all ids (concurrent_of plan) at within) after
  body-forgets levels at above false run walk within one after = refl

  test-node-forgets : (at : ℕ) (above : List ℕ) (run : RunState) → IsWalk ids at above → AllBelow Unfailed ids (at ∷ above) (test_node_run plan at (at ∷ above) run).results
      → run_forgotten (test_node_run plan at (at ∷ above) run) ≡ test_node_run plan at (at ∷ above) (run_forgotten run)
  test-node-forgets at above run walk after =
      let path = at ∷ above in
      let end = test_end plan at path run in
      let closed = faults_of_closes end.state.places at (seal_keys end.state.places at end.state) in
      let none = outcome-unfailed at true end closed (set-at Unfailed run.results at (outcome_of at true end closed) (after.each at [] (refl, walk))) in
      end-forgets at true end run.results ∙ ap (λ e. node_end at true e run.results) (test-forgets plan path at run none)

  container-forgets : (levels at : ℕ) (above : List ℕ) (run : RunState) → IsWalk ids at above → at < length ids → ((child : ℕ) → IsParentOf ids at child → Forgets levels child (at ∷ above))
      → AllBelow Unfailed ids (at ∷ above) (container_run plan (node_run plan levels) at (at ∷ above) run).results
      → run_forgotten (container_run plan (node_run plan levels) at (at ∷ above) run) ≡ container_run plan (node_run plan levels) at (at ∷ above) (run_forgotten run)
  container-forgets levels at above run walk within one after =
      let path = at ∷ above in
      let path_run = node_run plan levels in
      let lasts = afters_of (registered plan) false at path in
      let end = container_end plan path_run at path run in
      let body = body_end plan path_run at path run in
      let before = befores_run plan false at path run.state in
      let opened : RunState = record { state = before.state; results = run.results } in
      let closed = faults_of_closes end.state.places at (seal_keys end.state.places at end.state) in
      let outcome = outcome_of at false end closed in
      let none = outcome-unfailed at false end closed (set-at Unfailed body.results at outcome (after.each at [] (refl, walk))) in
      let closing : CallsEnd = record before { state = body.state } in
      let before_none : first_fault before.calls ≡ None = all-earlier plan path lasts closing none in
      let clean = befores_run plan false at path (with_memory [] run.state) in
      let before_is : forgotten before ≡ clean = befores-forget plan path (befores_of (registered plan) false at path) (no_calls run.state) before_none in
      let in_body : (child : ℕ) → IsParentOf ids at child → AllBelow Unfailed ids (child ∷ path) body.results =
      λ child is. record {
        each = λ k below under.
            let whole = subst (IsPathOf ids k) (sym (append_assoc below (child ∷ []) path)) under in
            let differ : k ≢ at = λ same. longer below child path (one-path plan tree k (below ++ child ∷ path) path under (sym same, subst (λ c. IsWalk ids c above) (sym same) walk)) in
            subst (λ o. IsSomeAnd o Unfailed) (set-elsewhere body.results at k outcome differ) (after.each k (below ++ child ∷ []) whole);
      } in
      let body_is : run_forgotten body ≡ body_end plan path_run at path (run_forgotten run) =
      body-forgets levels at above (all_successful before.calls) opened walk within one in_body
      ∙ ap (λ (e : CallsEnd). body_run plan path_run (all_successful e.calls) path (record { state = e.state; results = run.results })) before_is in
      let closing_is : forgotten closing ≡ record clean { state = (body_end plan path_run at path (run_forgotten run)).state } =
      ap (λ (e : CallsEnd). record e { state = with_memory [] body.state }) before_is ∙ ap (λ (r : RunState). record clean { state = r.state }) body_is in
      let end_is : forgotten end ≡ container_end plan path_run at path (run_forgotten run) = all-forgets plan path lasts closing none ∙ ap (make_all (call_run plan path) lasts) closing_is in
      end-forgets at false end body.results
      ∙ ap (λ e. node_end at false e body.results) end_is
      ∙ ap (λ (r : RunState). node_end at false (container_end plan path_run at path (run_forgotten run)) r.results) body_is

  either-forgets : (path : List ℕ) (b : Bool) (x y clean other : RunState) → (AllBelow Unfailed ids path x.results → run_forgotten x ≡ clean) → (AllBelow Unfailed ids path y.results → run_forgotten y ≡ other)
      → AllBelow Unfailed ids path (if b then x else y).results → run_forgotten (if b then x else y) ≡ (if b then clean else other)
  either-forgets path true x y clean other p q after = p after
  either-forgets path false x y clean other p q after = q after

  node-forgets : (levels at : ℕ) (above : List ℕ) → IsWalk ids at above → at < length ids → Forgets levels at above
  unfolding node_run
  node-forgets zero at above walk within run after = refl
  node-forgets (suc levels) at above walk within run after =
      let path = at ∷ above in
      either-forgets path (is_some (test_of plan at)) (test_node_run plan at path run) (container_run plan (node_run plan levels) at path run) (test_node_run plan at path (run_forgotten run))
      (container_run plan (node_run plan levels) at path (run_forgotten run))
      (test-node-forgets at above run walk)
      (container-forgets levels at above run walk within (λ child is. node-forgets levels child path (is, walk) is.child_within))
      after

-- ---- the whole run

some-at : (results : List NodeOutcome) (k : ℕ) → k < length results → ((d : NodeOutcome) → Unfailed (get_or results k d)) → IsSomeAnd (slice_get results k) Unfailed
some-at [] k within h = absurd (omega (arith, within))
some-at (r ∷ results) zero within h = h r
some-at (r ∷ results) (suc k) within h = some-at results k (omega (arith, within)) h

path-within : (contexts : List Id) (k : ℕ) (path : List ℕ) → IsTree contexts → IsPathOf contexts k path → k < length contexts
path-within contexts k [] tree is = absurd is
path-within contexts k (first ∷ walk) tree is = walk_within contexts k walk tree is.1

pub results_count : (memory : List Memory) (plan : PlanText) → length (plain_run_by memory plan) ≡ length plan.nodes
results_count memory plan = sym (length-map (plain_run_by memory plan) (λ r. r.is_test)) ∙ ap length (tests_of_plan memory plan) ∙ length-map plan.nodes (λ n. is_some n.test)

pub runs_as_planned : (memory : List Memory) (plan : PlanText) → NodesAreTree plan → HasNoFailed (plain_run_by memory plan) → plain_run_by memory plan ≡ plain_run plan
runs_as_planned memory plan tree unfailed =
    let nodes : length (ids_of_nodes plan.nodes) ≡ length plan.nodes = length-map plan.nodes (λ n. n.id) in
    let results = results_count memory plan in
    ap (λ (r : RunState). r.results)
    (node-forgets plan tree (length plan.nodes) 0 [] refl tree.first.some (run_opening memory plan)
    (record { each = λ k below is. (let inside = path-within (ids_of_nodes plan.nodes) k (below ++ 0 ∷ []) tree is in let within : k < length (plain_run_by memory plan) = omega (arith, nodes, results, inside) in some-at (plain_run_by memory plan) k within (λ d. unfailed k d within)) }))

-- where no node is told to have lacked memory, no step is
any-by : (b lacked : Bool) → (b ≡ false → lacked ≡ false) → lacked ≡ true → b ≡ true
any-by true lacked h is = refl
any-by false lacked h is = let bad : false ≡ true = sym (h refl) ∙ is in absurd cc

pub told_by_nodes : (results : List NodeOutcome) (lacked : Bool) (ids : List Id) → IsTree ids → length results ≡ length ids → (NodeSpared ids (0 ∷ []) results → false ≡ false → lacked ≡ false)
    → lacked ≡ true → list_any may_lack_memory results ≡ true
told_by_nodes results lacked ids tree count told is =
    any-by (list_any may_lack_memory results) lacked
    (λ none. told (record { each = λ k below under. (let inside = path-within ids k (below ++ 0 ∷ []) tree under in some-spared results k none (omega (arith, inside, count))) }) refl)
    is
