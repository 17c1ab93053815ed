-- A plain run that has one number more than it draws is, but for that number, the run without it.
use Rattle.std.proofs.Common.{◌≡◌, ◌≤◌, ℕ, zero, suc, ◌+◌, Bool, true, false, List, [], ◌∷◌, is_some, fold, refl, ap, ◌∙◌}
use Rattle.std.specs.Prelude.{if◌then◌else◌}
use Rattle.ext_model.specs.declared.event.Act.TheVariants.{Seal}
use Rattle.ext_lifecycle.specs.declared.call.Call.{Call}
use Rattle.ext_lifecycle.specs.Callbacks.{afters_of, befores_of, test_call}
use Rattle.ext_lifecycle.specs.Endings.{all_successful}
use Rattle.ext_lifecycle.specs.FaultTexts.{NodeOutcome}
use Rattle.ext_lifecycle.specs.Modes.{in_run_order}
use Rattle.ext_plan.specs.Plans.{PlanText}
use Rattle.ext_plan.specs.PlanCalls.{concurrent_of, registered, steps_of_call, test_of}
use Rattle.ext_plan.specs.ReadPlans.{ids_of_nodes}
use Rattle.ext_plan.specs.StepCalls.{start_of}
use Rattle.ext_tree.specs.Trees.{children_of}
use Rattle.ext_plan_plain.specs.ValueStates.{ValueState, after_act}
use Rattle.ext_plan_plain.specs.ContextEnds.{faults_of_closes, seal_keys}
use Rattle.ext_plan_plain.specs.NodeCalls.{CallsEnd, afters_run, and_call, befores_run, call_run, make, make_if_successful, no_calls, test_run}
use Rattle.ext_plan_plain.specs.PlainRun.{RunState, body_run, container_run, node_end, node_run, outcome_of, test_node_run, with_result}
use Rattle.ext_plan_plain.proofs.Ends.{body_end, container_end, test_end}
use Rattle.ext_one_report.proofs.MoreNumbersSteps.{Follows, follows_act, follows_itself, follows_then, steps_end, with_numbers}

abbrev calls_with_numbers : ℕ → CallsEnd → CallsEnd
calls_with_numbers n end = record end { state = with_numbers n end.state }

abbrev pub run_with_numbers : ℕ → RunState → RunState
run_with_numbers n run = record run { state = with_numbers n run.state }

module _ (n : ℕ) where
  -- what is done from one state and leaves another is also done with n numbers
  module _ {A X : Type 0} (state : X → ValueState) (fewer : X → X) (does : X → A → X) (each : (x : X) (a : A) → (state x).numbers ≡ n + 1 → Follows n (state x) (state (does x a)) (does (fewer x) a ≡ fewer (does x a))) where
    fold_follows : (all : List A) (x : X) → (state x).numbers ≡ n + 1 → Follows n (state x) (state (fold does x all)) (fold does (fewer x) all ≡ fewer (fold does x all))
    fold_follows [] x limit = follows_itself n (state x) refl
    fold_follows (a ∷ more) x limit =
        let one = each x a limit in
        follows_then n (state x) (state (does x a)) (state (fold does (does x a) more)) one (fold_follows more (does x a) (one.numbers ∙ limit)) (λ is rest. ap (λ y. fold does y more) is ∙ rest)

  abbrev fewer_calls : CallsEnd → CallsEnd
  fewer_calls end = calls_with_numbers n end

  abbrev fewer_run : RunState → RunState
  fewer_run run = run_with_numbers n run

  abbrev MakesAlike : CallsEnd → CallsEnd → CallsEnd → Type 0
  MakesAlike before wide narrow = Follows n before.state wide.state (narrow ≡ fewer_calls wide)

  abbrev RunsAlike : RunState → RunState → RunState → Type 0
  RunsAlike before wide narrow = Follows n before.state wide.state (narrow ≡ fewer_run wide)

  -- ---- the end of a context

  seals_follow : (keys at : ℕ) (s : ValueState) → Follows n s (seal_keys keys at s) (seal_keys keys at (with_numbers n s) ≡ with_numbers n (seal_keys keys at s))
  unfolding seal_keys
  seals_follow zero at s = follows_itself n s refl
  seals_follow (suc key) at s =
      let t = seal_keys key at s in
      follows_then n s t (after_act (Seal (at, key)) t) (seals_follow key at s) (follows_act n (Seal (at, key)) t (tt {0})) (λ is any. ap (after_act (Seal (at, key))) is)

  node_ends : (at : ℕ) (is_test : Bool) (end : CallsEnd) (results : List NodeOutcome)
      → Follows n end.state (node_end at is_test end results).state (node_end at is_test (fewer_calls end) results ≡ fewer_run (node_end at is_test end results))
  node_ends at is_test end results =
      let seals = seals_follow end.state.places at end.state in
      let ends : ValueState → RunState = λ sealed. record { state = sealed; results = with_result (outcome_of at is_test end (faults_of_closes end.state.places at sealed)) results } in
      record { numbers = seals.numbers; drawn = seals.drawn; fact = λ few. ap ends (seals.fact few) }

  module _ (plan : PlanText) where
    -- ---- the calls of a node

    makes : (path : List ℕ) (before : CallsEnd) (call : Call) → before.state.numbers ≡ n + 1 → MakesAlike before (make (call_run plan path) before call) (make (call_run plan path) (fewer_calls before) call)
    makes path before call limit =
        let e = steps_end n plan.keys path (steps_of_call plan call) before.state limit in
        record { numbers = e.numbers; drawn = e.drawn; fact = λ few. ap (and_call before) (e.fact few) }

    makes_if : (path : List ℕ) (before : CallsEnd) (call : Call) → before.state.numbers ≡ n + 1
        → MakesAlike before (make_if_successful (call_run plan path) before call) (make_if_successful (call_run plan path) (fewer_calls before) call)
    makes_if path before call limit = by (all_successful before.calls)
      where
        by : (go : Bool) → MakesAlike before (if go then make (call_run plan path) before call else before) (if go then make (call_run plan path) (fewer_calls before) call else fewer_calls before)
        by true = makes path before call limit
        by false = follows_itself n before.state refl

    befores_make : (is_test : Bool) (at : ℕ) (path : List ℕ) (s : ValueState) → s.numbers ≡ n + 1 → MakesAlike (no_calls s) (befores_run plan is_test at path s) (befores_run plan is_test at path (with_numbers n s))
    befores_make is_test at path s limit =
        fold_follows (λ (e : CallsEnd). e.state) fewer_calls (make_if_successful (call_run plan path)) (makes_if path) (befores_of (registered plan) is_test at path) (no_calls s) limit

    afters_make : (is_test : Bool) (at : ℕ) (path : List ℕ) (before : CallsEnd) → before.state.numbers ≡ n + 1 → MakesAlike before (afters_run plan is_test at path before) (afters_run plan is_test at path (fewer_calls before))
    afters_make is_test at path before limit =
        fold_follows (λ (e : CallsEnd). e.state) fewer_calls (make (call_run plan path)) (makes path) (afters_of (registered plan) is_test at path) before limit

    -- ---- nodes

    test_runs : (at : ℕ) (path : List ℕ) (run : RunState) → run.state.numbers ≡ n + 1 → RunsAlike run (test_node_run plan at path run) (test_node_run plan at path (fewer_run run))
    test_runs at path run limit =
        let before = befores_run plan true at path run.state in
        let body = test_run plan at path before in
        let end = test_end plan at path run in
        let one = befores_make true at path run.state limit in
        let two = makes_if path before (test_call at) (one.numbers ∙ limit) in
        let three = afters_make true at path body (two.numbers ∙ (one.numbers ∙ limit)) in
        let tested : MakesAlike (no_calls run.state) end (test_end plan at path (fewer_run run)) =
        follows_then n run.state before.state end.state one
        (follows_then n before.state body.state end.state two three (λ is rest. ap (afters_run plan true at path) is ∙ rest)) (λ is rest. ap (λ e. afters_run plan true at path (test_run plan at path e)) is ∙ rest) in
        follows_then n run.state end.state (test_node_run plan at path run).state tested (node_ends at true end run.results) (λ is rest. ap (λ e. node_end at true e run.results) is ∙ rest)

    module _ (path_run : List ℕ → RunState → RunState) (each : (path : List ℕ) (run : RunState) → run.state.numbers ≡ n + 1 → RunsAlike run (path_run path run) (path_run path (fewer_run run))) where
      bodies_run : (go : Bool) (path : List ℕ) (run : RunState) → run.state.numbers ≡ n + 1 → RunsAlike run (body_run plan path_run go path run) (body_run plan path_run go path (fewer_run run))
      bodies_run true path run limit =
          fold_follows (λ (r : RunState). r.state) fewer_run (λ r child. path_run (child ∷ path) r) (λ r child still. each (child ∷ path) r still)
          (in_run_order (concurrent_of plan) (children_of (ids_of_nodes plan.nodes) (start_of path))) run limit
      bodies_run false path run limit = follows_itself n run.state refl

      containers_run : (at : ℕ) (path : List ℕ) (run : RunState) → run.state.numbers ≡ n + 1 → RunsAlike run (container_run plan path_run at path run) (container_run plan path_run at path (fewer_run run))
      containers_run at path run limit =
          let before = befores_run plan false at path run.state in
          let body = body_end plan path_run at path run in
          let end = container_end plan path_run at path run in
          let whole = container_run plan path_run at path run in
          let bodies : CallsEnd → RunState = λ e. body_run plan path_run (all_successful e.calls) path (record { state = e.state; results = run.results }) in
          let ends : CallsEnd → RunState → RunState = λ e r. node_end at false (afters_run plan false at path (record e { state = r.state })) r.results in
          let one = befores_make false at path run.state limit in
          let two = bodies_run (all_successful before.calls) path (record { state = before.state; results = run.results }) (one.numbers ∙ limit) in
          let three = afters_make false at path (record before { state = body.state }) (two.numbers ∙ (one.numbers ∙ limit)) in
          follows_then n run.state before.state whole.state one
          (follows_then n before.state body.state whole.state two
          (follows_then n body.state end.state whole.state three (node_ends at false end body.results) (λ is rest. ap (λ e. node_end at false e body.results) is ∙ rest))
          (λ is rest. ap (ends (fewer_calls before)) is ∙ rest))
          (λ is rest. ap (λ e. ends e (bodies e)) is ∙ rest)

    either_runs : (b : Bool) (run x x_fewer y y_fewer : RunState) → RunsAlike run x x_fewer → RunsAlike run y y_fewer → RunsAlike run (if b then x else y) (if b then x_fewer else y_fewer)
    either_runs true run x x_fewer y y_fewer p q = p
    either_runs false run x x_fewer y y_fewer p q = q

    nodes_run : (levels : ℕ) (path : List ℕ) (run : RunState) → run.state.numbers ≡ n + 1 → RunsAlike run (node_run plan levels path run) (node_run plan levels path (fewer_run run))
    unfolding node_run
    nodes_run zero path run limit = follows_itself n run.state refl
    nodes_run (suc levels) path run limit =
        let at = start_of path in
        either_runs (is_some (test_of plan at)) run (test_node_run plan at path run) (test_node_run plan at path (fewer_run run))
        (container_run plan (node_run plan levels) at path run) (container_run plan (node_run plan levels) at path (fewer_run run))
        (test_runs at path run limit) (containers_run (node_run plan levels) (nodes_run levels) at path run limit)

    pub without_last_number : (levels : ℕ) (path : List ℕ) (run : RunState) → run.state.numbers ≡ n + 1 → (node_run plan levels path run).state.store.drawn ≤ n
        → node_run plan levels path (run_with_numbers n run) ≡ run_with_numbers n (node_run plan levels path run)
    without_last_number levels path run limit few = (nodes_run levels path run limit).fact few
