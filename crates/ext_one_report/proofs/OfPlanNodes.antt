-- A node with all nodes below it keeps what stands where a step of the plan may leave it.
use Rattle.std.proofs.Common.{◌≡◌, ◌≤◌, ◌<◌, ◌⊎◌, arith, inl, inr, ℕ, zero, suc, Bool, true, false, true≢false, List, [], ◌∷◌, ◌++◌, length, Contains, is_some, None, Some, refl, ap, sym, subst, ◌∙◌}
use Rattle.std.specs.Prelude.{All, fold, if◌then◌else◌, ◌==◌}
use base.Growing.{prefix_refl}
use Rattle.std.specs.List.{AllByRecursion}
use Rattle.std.proofs.lemmas.List.Elements.{All-head, All-tail, Contains-append_left, Contains-append_right}
use Rattle.ext_history.proofs.Lists.{bools}
use Rattle.ext_tree.specs.Keys.{KeyValue}
use Rattle.ext_tree.specs.Traits.{key_eq}
use Rattle.ext_tree.proofs.Equalities.{keys_Decides}
use Rattle.ext_plan_plain.proofs.Numberings.{there_by}
use Rattle.ext_tree.specs.Trees.{IsParentOf, IsPathOf, children_of}
use Rattle.ext_lifecycle.specs.declared.call.Call.{Call}
use Rattle.ext_lifecycle.specs.Callbacks.{afters_of, befores_of, test_call}
use Rattle.ext_lifecycle.specs.Endings.{all_successful}
use Rattle.ext_lifecycle.specs.Modes.{in_run_order}
use Rattle.ext_plan.specs.Plans.{PlanText}
use Rattle.ext_plan.specs.PlanCalls.{concurrent_of, registered, test_of}
use Rattle.ext_plan.specs.ReadPlans.{IsReadPlan, ids_of_nodes}
use Rattle.ext_plan.specs.StepCalls.{start_of}
use Rattle.ext_plan.specs.StoreKeys.{is_there, number_of_key}
use Rattle.ext_plan.specs.Values.{ValueText}
use Rattle.ext_plan.proofs.KeyLists.{is_contained}
use Rattle.ext_races.specs.MadeSteps.{calls_of}
use Rattle.ext_races.proofs.Calls.{calls_are}
use Rattle.ext_races.proofs.Lists.{contains_first, contains_later}
use Rattle.ext_plan_plain.specs.NodeCalls.{CallsEnd, befores_run, call_run, make, make_all, make_befores, make_if_successful, no_calls, test_run}
use Rattle.ext_plan_plain.specs.ValueStates.{ValueState, value_of}
use Rattle.ext_plan_plain.specs.PlainRun.{RunState, body_run, container_run, node_run, test_node_run}
use Rattle.ext_plan_plain.proofs.Below.{children-all}
use Rattle.ext_plan_plain.proofs.Ends.{container_end, test_end}
use Rattle.ext_plan_plain.proofs.Nodes.{child_path, start_is}
use Rattle.ext_one_report.proofs.FrameNodes.{stands_also, stands_first, stands_on}
use Rattle.ext_one_report.proofs.Matching.{place_stays, plain_none, plain_there}
use Rattle.ext_one_report.proofs.MatchingWords.{plain_slot}
use Rattle.ext_one_report.proofs.Orders.{Fails}
use Rattle.ext_one_report.proofs.OfPlan.{Allows, IsLeftBy, IsLeftWithin, IsOfPlan, Leaving, leaves_since, plan_leaves, value_in}
use Rattle.ext_one_report.proofs.OfPlanCalls.{allows_all, call_ready}
use Rattle.ext_one_report.proofs.OfPlanStates.{value_number}
use Rattle.ext_one_report.specs.Within.{is_within}
use Rattle.ext_one_report.proofs.OfPlanEnds.{seals_ready}
use Rattle.ext_one_report.proofs.OfPlanHeights.{is_plan_path, path_inside}
use Rattle.ext_one_report.proofs.OfPlanSteps.{IsReady}

-- ---- the calls of a node

module _ (plan : PlanText) (path : List ℕ) (read : IsReadPlan plan) (is : IsPathOf (ids_of_nodes plan.nodes) (start_of path) path) (leaving : Leaving) (allows : Allows plan leaving (start_of path)) where
  abbrev AreOwn : List Call → Type 0
  AreOwn calls = (call : Call) → Contains calls call → Contains (calls_of plan (start_of path)) call

  own_later : (call : Call) (calls : List Call) → AreOwn (call ∷ calls) → AreOwn calls
  own_later call calls own = λ c there. own c (contains_later call c calls there)

  one_ready : (call : Call) (calls : List Call) (before : CallsEnd) → AreOwn (call ∷ calls) → IsReady leaving before.state → IsReady leaving (make (call_run plan path) before call).state
  one_ready call calls before own h = call_ready plan (start_of path) path read is leaving allows call before.state (own call (contains_first call calls)) h

  if_ready : (b : Bool) (x y : CallsEnd) → IsReady leaving x.state → IsReady leaving y.state → IsReady leaving (if b then x else y).state
  if_ready true x y p q = p
  if_ready false x y p q = q

  all_ready : (calls : List Call) (before : CallsEnd) → AreOwn calls → IsReady leaving before.state → IsReady leaving (make_all (call_run plan path) calls before).state
  all_ready [] before own h = h
  all_ready (call ∷ calls) before own h = all_ready calls (make (call_run plan path) before call) (own_later call calls own) (one_ready call calls before own h)

  befores_ready : (calls : List Call) (before : CallsEnd) → AreOwn calls → IsReady leaving before.state → IsReady leaving (make_befores (call_run plan path) calls before).state
  befores_ready [] before own h = h
  befores_ready (call ∷ calls) before own h =
      befores_ready calls (make_if_successful (call_run plan path) before call) (own_later call calls own)
      (if_ready (all_successful before.calls) (make (call_run plan path) before call) before (one_ready call calls before own h) h)

  module _ (is_test : Bool) (tested : is_some (test_of plan (start_of path)) ≡ is_test) where
    abbrev befores : List Call
    befores = befores_of (registered plan) is_test (start_of path) path

    abbrev afters : List Call
    afters = afters_of (registered plan) is_test (start_of path) path

    own : (befores ++ test_call (start_of path) ∷ []) ++ afters ≡ calls_of plan (start_of path)
    own = calls_are plan (start_of path) path is_test befores afters (befores ++ test_call (start_of path) ∷ []) ((befores ++ test_call (start_of path) ∷ []) ++ afters) (is_plan_path plan (start_of path) path read is) (sym tested) refl refl refl refl

    before_own : AreOwn befores
    before_own call there =
        subst (λ cs. Contains cs call) own (Contains-append_left (befores ++ test_call (start_of path) ∷ []) afters call (Contains-append_left befores (test_call (start_of path) ∷ []) call there))

    test_own : AreOwn (test_call (start_of path) ∷ [])
    test_own call there =
        subst (λ cs. Contains cs call) own (Contains-append_left (befores ++ test_call (start_of path) ∷ []) afters call (Contains-append_right befores (test_call (start_of path) ∷ []) call there))

    after_own : AreOwn afters
    after_own call there = subst (λ cs. Contains cs call) own (Contains-append_right (befores ++ test_call (start_of path) ∷ []) afters call there)

  -- ---- a test

  test_ready : (run : RunState) → is_some (test_of plan (start_of path)) ≡ true → IsReady leaving run.state → IsReady leaving (test_end plan (start_of path) path run).state
  test_ready run tested h =
      let at = start_of path in
      let before = befores_run plan true at path run.state in
      let opened = befores_ready (befores_of (registered plan) true at path) (no_calls run.state) (before_own true tested) h in
      all_ready (afters_of (registered plan) true at path) (test_run plan at path before) (after_own true tested)
      (if_ready (all_successful before.calls) (make (call_run plan path) before (test_call at)) before (one_ready (test_call at) [] before (test_own true tested) opened) opened)

  -- ---- a container, by what holds of its children

  abbrev ChildrenReady : (List ℕ → RunState → RunState) → Type 0
  ChildrenReady path_run = (child : ℕ) (run : RunState) → IsParentOf (ids_of_nodes plan.nodes) (start_of path) child → IsReady leaving run.state → IsReady leaving (path_run (child ∷ path) run).state

  fold_ready : (path_run : List ℕ → RunState → RunState) → ChildrenReady path_run → (children : List ℕ) (run : RunState) → AllByRecursion (IsParentOf (ids_of_nodes plan.nodes) (start_of path)) children → IsReady leaving run.state
      → IsReady leaving (fold (λ r child. path_run (child ∷ path) r) run children).state
  fold_ready path_run each [] run all h = h
  fold_ready path_run each (child ∷ more) run all h = fold_ready path_run each more (path_run (child ∷ path) run) all.1 (each child run all.0 h)

  body_ready : (path_run : List ℕ → RunState → RunState) → ChildrenReady path_run → (go : Bool) (run : RunState) → IsReady leaving run.state → IsReady leaving (body_run plan path_run go path run).state
  body_ready path_run each true run h =
      let ids = ids_of_nodes plan.nodes in
      let all = children-all ids (concurrent_of plan) (start_of path) (path_inside ids (start_of path) path read.runnable.tree is) in
      fold_ready path_run each (in_run_order (concurrent_of plan) (children_of ids (start_of path))) run all h
  body_ready path_run each false run h = h

  container_ready : (path_run : List ℕ → RunState → RunState) → ChildrenReady path_run → (run : RunState) → is_some (test_of plan (start_of path)) ≡ false → IsReady leaving run.state → IsReady leaving (container_end plan path_run (start_of path) path run).state
  container_ready path_run each run tested h =
      let at = start_of path in
      let before = befores_run plan false at path run.state in
      all_ready (afters_of (registered plan) false at path) _ (after_own false tested)
      (body_ready path_run each (all_successful before.calls) (record { state = before.state; results = run.results }) (befores_ready (befores_of (registered plan) false at path) (no_calls run.state) (before_own false tested) h))

-- ---- each node

-- What the nodes on some paths leave is allowed; and the paths of children are such paths
pub record AllowsBelow (plan : PlanText) (leaving : Leaving) (Inside : List ℕ → Type 0) : Type 0 where
  pub allows : (node : ℕ) (path : List ℕ) → IsPathOf (ids_of_nodes plan.nodes) node path → Inside path → Allows plan leaving node
  pub below : (child : ℕ) (path : List ℕ) → Inside path → Inside (child ∷ path)

module _ (plan : PlanText) (read : IsReadPlan plan) (leaving : Leaving) (Inside : List ℕ → Type 0) (all : AllowsBelow plan leaving Inside) where
  node_by : (b : Bool) (x y : RunState) (test : Bool) → test ≡ b → (test ≡ true → IsReady leaving x.state) → (test ≡ false → IsReady leaving y.state) → IsReady leaving (if b then x else y).state
  node_by true x y test same p q = p same
  node_by false x y test same p q = q same

  pub node_ready : (levels : ℕ) (path : List ℕ) (run : RunState) → IsPathOf (ids_of_nodes plan.nodes) (start_of path) path → Inside path → IsReady leaving run.state → IsReady leaving (node_run plan levels path run).state
  unfolding node_run
  node_ready zero path run is inside h = h
  node_ready (suc levels) path run is inside h =
      let at = start_of path in
      let test = is_some (test_of plan at) in
      let allows = all.allows at path is inside in
      node_by test (test_node_run plan at path run) (container_run plan (node_run plan levels) at path run) test refl
      (λ tested. seals_ready leaving (test_end plan at path run).state.places at (test_end plan at path run).state (test_ready plan path read is leaving allows run tested h))
      (λ tested. seals_ready leaving (container_end plan (node_run plan levels) at path run).state.places at (container_end plan (node_run plan levels) at path run).state
      (container_ready plan path read is leaving allows (node_run plan levels)
      (λ child r parent p. node_ready levels (child ∷ path) r (child_path (ids_of_nodes plan.nodes) at child path is parent) (all.below child path inside) p) run tested h))

own_path : (plan : PlanText) (node : ℕ) (path : List ℕ) → IsPathOf (ids_of_nodes plan.nodes) node path → IsPathOf (ids_of_nodes plan.nodes) (start_of path) path
own_path plan node path is = subst (λ k. IsPathOf (ids_of_nodes plan.nodes) k path) (sym (start_is (ids_of_nodes plan.nodes) node path is)) is

pub node_of : (plan : PlanText) (levels node : ℕ) (path : List ℕ) (r : RunState) → IsReadPlan plan → IsPathOf (ids_of_nodes plan.nodes) node path → r.state.memory ≡ [] → IsOfPlan plan r.state → IsOfPlan plan (node_run plan levels path r).state
node_of plan levels node path r read is none h =
    (node_ready plan read (plan_leaves plan) (λ p. Unit {0}) (record { allows = λ n p on inside. allows_all plan n; below = λ child p inside. tt }) levels path r (own_path plan node path is) tt (record { memory = none; of = h })).of

-- ---- what a node leaves

-- what steps of a node or of nodes below it leave
since_allows : (plan : PlanText) (root : ℕ) (r : ValueState) → IsReadPlan plan → AllowsBelow plan (leaves_since plan root r) (λ path. stands_on root false path ≡ true)
since_allows plan root r read = record {
  allows = λ node path is inside. λ context key number text late left.
      let within : is_within plan root node ≡ true = subst (λ p. stands_on root false p ≡ true) (is_plan_path plan node path read is) inside in
      inr (late, record { left = left.left; within = subst (λ n. is_within plan root n ≡ true) (sym left.node_is) within });
  below = λ child path inside. stands_also root (child == root) path inside;
}

-- of a state nothing is left since
pub left_first : (plan : PlanText) (root : ℕ) (r : ValueState) → IsOfPlan plan r → IsLeftBy (leaves_since plan root r) r
left_first plan root r h = record {
  once = h.once;
  drawn = h.drawn;
  values = h.values;
  since = omega arith;
  keys = prefix_refl r.keys;
  from = λ context key number value stands is closes bad. inl ((h.drawn (context, key) number (value_number (r.store.slots (context, key)) number stands)).1, stands);
}

itself_stands : (plan : PlanText) (node : ℕ) (path : List ℕ) → IsPathOf (ids_of_nodes plan.nodes) node path → stands_on node false path ≡ true
itself_stands plan node [] is = absurd is
itself_stands plan node (first ∷ above) is = subst (λ n. stands_on node false (n ∷ above) ≡ true) (sym is.0) (stands_first node above)

-- so each value whose close fails stood before a node's run, or was left by one of its steps or of those below it under a new number
pub node_leaves : (plan : PlanText) (levels node : ℕ) (path : List ℕ) (r : RunState) → IsReadPlan plan → IsPathOf (ids_of_nodes plan.nodes) node path → r.state.memory ≡ [] → IsOfPlan plan r.state
    → IsLeftBy (leaves_since plan node r.state) (node_run plan levels path r).state
node_leaves plan levels node path r read is none h =
    (node_ready plan read (leaves_since plan node r.state) (λ p. stands_on node false p ≡ true) (since_allows plan node r.state read) levels path r (own_path plan node path is) (itself_stands plan node path is)
    (record { memory = none; of = left_first plan node r.state h })).of

-- and so of several children one after another
children_left : (plan : PlanText) (levels node : ℕ) (path : List ℕ) (read : IsReadPlan plan) (leaving : Leaving) (Inside : List ℕ → Type 0) → AllowsBelow plan leaving Inside → IsPathOf (ids_of_nodes plan.nodes) node path → Inside path
    → (children : List ℕ) (r : RunState) → All (IsParentOf (ids_of_nodes plan.nodes) node) children → IsReady leaving r.state → IsReady leaving (fold (λ q child. node_run plan levels (child ∷ path) q) r children).state
children_left plan levels node path read leaving Inside all is inside [] r parents h = h
children_left plan levels node path read leaving Inside all is inside (child ∷ children) r parents h =
    let parent = All-head (IsParentOf (ids_of_nodes plan.nodes) node) child children parents in
    children_left plan levels node path read leaving Inside all is inside children (node_run plan levels (child ∷ path) r) (All-tail (IsParentOf (ids_of_nodes plan.nodes) node) child children parents)
    (node_ready plan read leaving Inside all levels (child ∷ path) r (child_path (ids_of_nodes plan.nodes) node child path is parent) (all.below child path inside) h)

pub children_leave_since : (plan : PlanText) (levels node : ℕ) (path : List ℕ) (r : RunState) (children : List ℕ) → IsReadPlan plan → IsPathOf (ids_of_nodes plan.nodes) node path → All (IsParentOf (ids_of_nodes plan.nodes) node) children
    → r.state.memory ≡ [] → IsOfPlan plan r.state → IsLeftBy (leaves_since plan node r.state) (fold (λ q child. node_run plan levels (child ∷ path) q) r children).state
children_leave_since plan levels node path r children read is parents none h =
    (children_left plan levels node path read (leaves_since plan node r.state) (λ p. stands_on node false p ≡ true) (since_allows plan node r.state read) is (itself_stands plan node path is) children r parents
    (record { memory = none; of = left_first plan node r.state h })).of

-- ---- at the place of a key

-- a key that had no number is numbered behind those that had
place_past : (keys more : List KeyValue) (key : KeyValue) → is_there keys key ≡ false → length keys ≤ number_of_key (keys ++ more) key
place_past [] more key none = omega arith
place_past (first ∷ keys) more key none = elim (bools (key_eq first key)) [
  | inl same ↦
      let here : Contains (first ∷ keys) key = subst (Contains (first ∷ keys)) ((keys_Decides first key).0 same) (contains_first first keys) in
      absurd (true≢false (sym (there_by (first ∷ keys) key (is_there (first ∷ keys) key) refl here) ∙ none))
  | inr other ↦
      let rest : is_there keys key ≡ false = elim (bools (is_there keys key)) [
        | inl there ↦ absurd (true≢false (sym (there_by (first ∷ keys) key (is_there (first ∷ keys) key) refl (contains_later first key keys (is_contained keys key there))) ∙ none))
        | inr absent ↦ absent
      ] in
      let further = place_past keys more key rest in
      let is : number_of_key (first ∷ (keys ++ more)) key ≡ suc (number_of_key (keys ++ more) key) = ap (λ b. if b then zero else suc (number_of_key (keys ++ more) key)) other in
      omega (arith, further, is)
]

-- so what stands there stood there, or was left there since under a new number
pub left_at : (plan : PlanText) (root : ℕ) (r t : ValueState) → IsLeftBy (leaves_since plan root r) t → (context : ℕ) (key : KeyValue) (number : ℕ) (value : ValueText) → ((past : ℕ) → length r.keys ≤ past → r.store.slots (context, past) ≡ None)
    → value_in (plain_slot t context key) ≡ Some number → value_of t.values number ≡ Some value → Fails value
    → (value_in (plain_slot r context key) ≡ Some number) ⊎ ((r.store.drawn < number) × IsLeftWithin plan root context value.text)
left_at plan root r t left context key number value clear stands is fails = elim (bools (is_there t.keys key)) [
  | inr absent ↦ absurd (cc (sym (ap value_in (plain_none t context key absent)) ∙ stands))
  | inl there ↦
      let raw = number_of_key t.keys key in
      elim (left.from context raw number value (ap value_in (sym (plain_there t context key there)) ∙ stands) is fails.closes fails.bad) [
        | inr new ↦ inr new
        | inl old ↦ elim (bools (is_there r.keys key)) [
          | inl was ↦
              let stays : raw ≡ number_of_key r.keys key = ap (λ keys. number_of_key keys key) (sym left.keys.1) ∙ place_stays r.keys left.keys.0 key was in
              inl (ap value_in (plain_there r context key was) ∙ (ap (λ k. value_in (r.store.slots (context, k))) (sym stays) ∙ old.1))
          | inr never ↦
              let past : length r.keys ≤ raw = subst (λ (keys : List KeyValue). length r.keys ≤ number_of_key keys key) left.keys.1 (place_past r.keys left.keys.0 key never) in
              absurd (cc (sym (ap value_in (clear raw past)) ∙ old.1))
        ]
      ]
]
