-- The plain run of a plan: one thread goes through the tree from its root. For each node it calls the before-callbacks,
-- then the body if all of them were successful, then the after-callbacks, and closes the context. The body of a test is
-- its steps. The body of a container is its children: first the concurrent ones in order, then the others in order.
-- A store lives as long as its context and is closed when that ends, and so after the contexts below it (JUnit 5 User
-- Guide, "Relative Execution Order of User Code and Extensions" and "Keeping State in Extensions"). Chosen here: the
-- statuses; that nodes below a skipped body run nothing, aren't closed and are skipped; and that a container's status
-- does not depend on its children's.
use Rattle.std.specs.Prelude.{◌≡◌, ◌≢◌, ℕ, zero, suc, ◌+◌, codes, nat_lt, Bool, true, false, ◌||◌, ◌&&◌, List, [], ◌∷◌, length, fold, Option, Some, None, is_some, slice_set, All, if◌then◌else◌}
use Rattle.std.specs.List.{list_any}
use Rattle.std.specs.Str.{bytes_eq}
use Rattle.ext_model.specs.Lacks.{tells_lack}
use Rattle.ext_model.specs.Sizes.{most_numbers}
use Rattle.ext_lifecycle.specs.declared.status.Status.{Status}
use Rattle.ext_lifecycle.specs.declared.status.Status.TheVariants as statuses
use Rattle.ext_lifecycle.specs.Endings.{all_successful}
use Rattle.ext_lifecycle.specs.FaultTexts.{NodeOutcome}
use Rattle.ext_lifecycle.specs.Modes.{in_run_order}
use Rattle.ext_lifecycle.specs.Results.{result_by, skipped_result}
use Rattle.ext_plan.specs.Plans.{NodeText, PlanText}
use Rattle.ext_plan.specs.ReadPlans.{ids_of_nodes}
use Rattle.ext_plan.specs.StepCalls.{start_of}
use Rattle.ext_tree.specs.Trees.{children_of}
use Rattle.ext_plan_plain.specs.ValueStates.{Memory, ValueState, value_opening, with_memory}
use Rattle.ext_plan_plain.specs.ContextEnds.{seal_keys, faults_of_closes}
use Rattle.ext_plan.specs.PlanCalls.{concurrent_of, test_of}
use Rattle.ext_plan_plain.specs.NodeCalls.{CallsEnd, befores_run, test_run, afters_run}

-- A run between two nodes: its store, and the nodes' results so far.
pub record RunState : Type 0 where
  pub state : ValueState
  pub results : List NodeOutcome

-- ---- the end of a node

-- The result of a node, by how its calls and the closes of its context ended.
abbrev pub outcome_of : ℕ → Bool → CallsEnd → List (Option (List ℕ)) → NodeOutcome
outcome_of at is_test end closed = result_by tells_lack at is_test end.calls end.computed end.found closed

-- The results with this one in its node's place.
abbrev pub with_result : NodeOutcome → List NodeOutcome → List NodeOutcome
with_result outcome results = slice_set results outcome.node outcome

-- All places are sealed in the node's context, even those of numbers that no key has yet; its closeable values are
-- closed; and its result is put in its place.
abbrev pub node_end : ℕ → Bool → CallsEnd → List NodeOutcome → RunState
node_end at is_test end results =
    let sealed = seal_keys end.state.places at end.state in
    record {
      state = sealed;
      results = with_result (outcome_of at is_test end (faults_of_closes end.state.places at sealed)) results;
    }

-- ---- the tree

module _ (plan : PlanText) where
  -- The children of the path's first context, in the order in which a single lane runs them. `path_run` runs a path.
  abbrev pub children_run : (List ℕ → RunState → RunState) → List ℕ → RunState → RunState
  children_run path_run path run =
      fold (λ r child. path_run (child ∷ path) r) run
      (in_run_order (concurrent_of plan) (children_of (ids_of_nodes plan.nodes) (start_of path)))

  -- The body of a container: its children, unless it is skipped.
  abbrev pub body_run : (List ℕ → RunState → RunState) → Bool → List ℕ → RunState → RunState
  body_run path_run go path run = if go then children_run path_run path run else run

  -- A container: its body between its calls.
  abbrev pub container_run : (List ℕ → RunState → RunState) → ℕ → List ℕ → RunState → RunState
  container_run path_run at path run =
      let before = befores_run plan false at path run.state in
      let body = body_run path_run (all_successful
      before.calls) path (record { state = before.state; results = run.results }) in
      node_end at false (afters_run plan false at path (record before { state = body.state })) body.results

  -- A test. Its body is one of its calls.
  abbrev pub test_node_run : ℕ → List ℕ → RunState → RunState
  test_node_run at path run =
      node_end at true (afters_run plan true at path (test_run plan at path (befores_run plan true at path run.state)))
      run.results

  -- The node with which a path to the root begins, and the nodes below it, down to this many levels.
  unfoldable pub node_run : ℕ → List ℕ → RunState → RunState
  node_run zero path run = run
  node_run (suc levels) path run =
      if is_some (test_of plan (start_of path)) then test_node_run (start_of path) path run
      else container_run (node_run levels) (start_of path) path run

-- ---- the whole run

-- Before the run each node is skipped. These are the nodes from number `at` on.
abbrev pub skipped_from : ℕ → List NodeText → List NodeOutcome
skipped_from at [] = []
skipped_from at (node ∷ more) = skipped_result at (is_some node.test) ∷ skipped_from (at + 1) more

-- The run before its first step, with what its steps find of memory, in the order in which they are made.
abbrev pub run_opening : List Memory → PlanText → RunState
run_opening memory plan =
    record {
      state = with_memory memory (value_opening plan.keep_faults plan.key_places (most_numbers plan.size));
      results = skipped_from 0 plan.nodes;
    }

-- The results of the nodes, in the order of the plan. The root is node 0, and no tree is deeper than it has nodes.
abbrev pub plain_run_by : List Memory → PlanText → List NodeOutcome
plain_run_by memory plan = (node_run plan (length plan.nodes) (0 ∷ []) (run_opening memory plan)).results

-- The results of a run whose steps all find enough memory.
abbrev pub plain_run : PlanText → List NodeOutcome
plain_run plan = plain_run_by [] plan

-- No node has failed.
abbrev pub HasNoFailed : List NodeOutcome → Type 0
HasNoFailed results = All (λ r. r.status ≢ statuses.Failed) results

-- ---- lack of memory in the results

-- The text of a fault is that of a lack of memory.
abbrev pub says_no_memory : Option (List ℕ) → Bool
says_no_memory None = false
says_no_memory (Some text) = bytes_eq text (codes "no memory")

-- A node with this status, this fault and this many more failed for lack of memory; or one of the others may be that,
-- whose texts are not in the result.
abbrev pub may_lack : Status → Option (List ℕ) → ℕ → Bool
may_lack statuses.Successful fault more = false
may_lack statuses.Aborted fault more = false
may_lack statuses.Failed fault more = says_no_memory fault || nat_lt 0 more
may_lack statuses.Skipped fault more = false

-- The same of a node that tells of a lack, as one that lacked memory does.
abbrev pub may_lack_memory : NodeOutcome → Bool
may_lack_memory r = r.lacked && may_lack r.status r.fault r.more

-- The results are those of a plain run of the plan: for each step that was made there is one answer to what memory it
-- found, and all the rest follows from the plan. If no node failed, no step lacked memory, and they are those of the
-- one run that the plan has. They are also that if no step is reported to have lacked any. If one is, a node failed
-- with `no memory`, or with more faults than the one it reports, of which one tells of a lack.
pub record ArePlain (plan : PlanText) (results : List NodeOutcome) (lacked : Bool) : Type 0 where
  pub memory : List Memory
  pub exact : results ≡ plain_run_by memory plan
  pub planned : HasNoFailed results → results ≡ plain_run plan
  pub unlacked : lacked ≡ false → results ≡ plain_run plan
  pub lacking : lacked ≡ true → list_any may_lack_memory results ≡ true
