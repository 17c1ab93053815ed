-- The calls of a node draw no more numbers than its steps may draw, and a node and all nodes below it no more than the steps of these.
use Rattle.std.proofs.Common.{◌≡◌, ◌⊎◌, ◌≤◌, ◌<◌, ℕ, zero, suc, ◌+◌, Bool, true, false, cond, is_some, List, [], ◌∷◌, ◌++◌, length, sum_by, count_by, refl, sym, ap, subst, ◌∙◌, arith, inl, inr}
use Rattle.std.specs.Prelude.{fold, if◌then◌else◌}
use Rattle.std.specs.List.{AllByRecursion, flat_map, range_with_len}
use Rattle.std.proofs.lemmas.List.{length-map}
use Rattle.std.proofs.lemmas.List.Sums.{sum_by-append, sum_by-cons, sum_by_push}
use Rattle.ext_history.proofs.Lists.{bools}
use Rattle.ext_tree.specs.Trees.{Id, IsParentOf, IsPathOf, children_of}
use Rattle.ext_lifecycle.specs.declared.call.Call.{Call}
use Rattle.ext_lifecycle.specs.Callbacks.{afters_of, befores_of, test_call}
use Rattle.ext_lifecycle.specs.Endings.{all_successful}
use Rattle.ext_lifecycle.specs.Modes.{in_run_order}
use Rattle.ext_plan.specs.Plans.{PlanText, StepText}
use Rattle.ext_plan.specs.PlanCalls.{concurrent_of, registered, steps_of_call, test_of}
use Rattle.ext_plan.specs.ReadPlans.{NodesAreTree, ids_of_nodes}
use Rattle.ext_plan.specs.StepCalls.{start_of}
use Rattle.ext_races.specs.Acts.{draws}
use Rattle.ext_races.specs.MadeSteps.{MadeText, calls_after, calls_before, calls_of, made_after, made_by, made_in_turn, made_of_node, plan_path}
use Rattle.ext_races.specs.Touches.{numbers_drawn}
use Rattle.ext_races.proofs.Calls.{calls_are}
use Rattle.ext_races.proofs.Paths.{path_is}
use Rattle.ext_plan_plain.specs.NodeCalls.{CallsEnd, call_run, make, make_all, make_befores, make_if_successful, no_calls}
use Rattle.ext_plan_plain.specs.PlainRun.{RunState, body_run, container_run, node_run, test_node_run}
use Rattle.ext_plan_plain.specs.StepRuns.{StepEnd}
use Rattle.ext_plan_plain.specs.ValueStates.{ValueState}
use Rattle.ext_plan_plain.proofs.Below.{children-all}
use Rattle.ext_plan_plain.proofs.Ends.{body_end, container_end, test_end}
use Rattle.ext_plan_plain.proofs.Nodes.{child_path, node_run-suc, node_run-zero, start_is}
use Rattle.ext_plan_plain.proofs.Reached.{Stands}
use Rattle.ext_plan_plain.proofs.Skipping.{distinct-below, distinct-ordered}
use Rattle.ext_engine.proofs.Above.{Under, parent_first, same_child, under_child, under_itself, under_order, under_root, within_tree}
use Rattle.ext_one_report.proofs.CoveredTouches.{turn_is}
use Rattle.ext_one_report.proofs.CountSteps.{Draws, GoesOn, draws_more, draws_none, draws_then, seals_draw, steps_draw}
use Rattle.ext_one_report.proofs.CountSums.{all_stand, below, below_few, count_in_all, is_on, node_and_below, on_path, path_on, sum_same}
use Rattle.ext_one_report.proofs.Numbers.{enough_end, enough_opening}

-- ---- the calls of a node, one after another

-- where each call draws no more than it may
module _ (keeps : Bool) (cost : Call → ℕ) (run : Call → ValueState → StepEnd) (each : (call : Call) (s : ValueState) → GoesOn keeps s → Draws keeps (cost call) s (run call s).state) where
  all_draw : (calls : List Call) (end : CallsEnd) → GoesOn keeps end.state → Draws keeps (sum_by cost calls) end.state (make_all run calls end).state
  all_draw [] end g = draws_none keeps end.state g
  all_draw (call ∷ calls) end g =
      let one = each call end.state g in
      let rest = all_draw calls (make run end call) one.goes in
      subst (λ n. Draws keeps n end.state (make_all run calls (make run end call)).state) (sym (sum_by-cons cost call calls))
      (draws_then keeps (cost call) (sum_by cost calls) end.state (run call end.state).state (make_all run calls (make run end call)).state one rest)

  if_draws : (b : Bool) (call : Call) (end : CallsEnd) → GoesOn keeps end.state → Draws keeps (cost call) end.state (let next : CallsEnd = if b then make run end call else end in next.state)
  if_draws true call end g = each call end.state g
  if_draws false call end g = draws_more keeps 0 (cost call) end.state end.state (omega arith) (draws_none keeps end.state g)

  made_draws : (call : Call) (end : CallsEnd) → GoesOn keeps end.state → Draws keeps (cost call) end.state (make_if_successful run end call).state
  made_draws call end g = if_draws (all_successful end.calls) call end g

  befores_draw : (calls : List Call) (end : CallsEnd) → GoesOn keeps end.state → Draws keeps (sum_by cost calls) end.state (make_befores run calls end).state
  befores_draw [] end g = draws_none keeps end.state g
  befores_draw (call ∷ calls) end g =
      let next = make_if_successful run end call in
      let one = made_draws call end g in
      let rest = befores_draw calls next one.goes in
      subst (λ n. Draws keeps n end.state (make_befores run calls next).state) (sym (sum_by-cons cost call calls))
      (draws_then keeps (cost call) (sum_by cost calls) end.state next.state (make_befores run calls next).state one rest)

-- the children of a node, one after another
fold_draws : (keeps : Bool) (cost : ℕ → ℕ) (path_run : List ℕ → RunState → RunState) (path : List ℕ) (P : ℕ → Type 0) → ((child : ℕ) (r : RunState) → P child → GoesOn keeps r.state → Draws keeps (cost child) r.state (path_run (child ∷ path) r).state)
    → (children : List ℕ) (r : RunState) → AllByRecursion P children → GoesOn keeps r.state → Draws keeps (sum_by cost children) r.state (fold (λ r child. path_run (child ∷ path) r) r children).state
fold_draws keeps cost path_run path P each [] r all g = draws_none keeps r.state g
fold_draws keeps cost path_run path P each (child ∷ more) r all g =
    let next = path_run (child ∷ path) r in
    let one = each child r all.0 g in
    let rest = fold_draws keeps cost path_run path P each more next all.1 one.goes in
    subst (λ n. Draws keeps n r.state (fold (λ r child. path_run (child ∷ path) r) next more).state) (sym (sum_by-cons cost child more))
    (draws_then keeps (cost child) (sum_by cost more) r.state next.state (fold (λ r child. path_run (child ∷ path) r) next more).state one rest)

-- ---- what the steps of a node may draw

made_count : (keeps : Bool) (node : ℕ) (before steps : List StepText) → count_by (λ made. draws keeps made.step) (made_after node before steps) ≡ count_by (draws keeps) steps
made_count keeps node before [] = refl
made_count keeps node before (step ∷ more) =
    sum_by-cons (λ made. cond (draws keeps made.step) 1 0) (made_by node before step) (made_after node (before ++ step ∷ []) more)
    ∙ (ap (λ n. cond (draws keeps step) 1 0 + n) (made_count keeps node (before ++ step ∷ []) more) ∙ sym (sum_by-cons (λ step. cond (draws keeps step) 1 0) step more))

module _ (plan : PlanText) where
  abbrev keeps : Bool
  keeps = plan.keep_faults

  abbrev ids : List Id
  ids = ids_of_nodes plan.nodes

  -- the steps of a call
  abbrev cost_of_call : Call → ℕ
  cost_of_call call = count_by (draws keeps) (steps_of_call plan call)

  -- and those of a node
  abbrev cost_of_node : ℕ → ℕ
  cost_of_node node = count_by (λ made. draws keeps made.step) (made_of_node plan node)

  node_cost : (node : ℕ) → cost_of_node node ≡ sum_by cost_of_call (calls_of plan node)
  node_cost node =
      let p : MadeText → Bool = λ made. draws keeps made.step in
      let opening = calls_before plan node ++ test_call node ∷ [] in
      let after = calls_after plan node in
      let steps = flat_map (steps_of_call plan) opening in
      let first = made_in_turn plan node [] opening in
      let last = flat_map (λ call. made_after node [] (steps_of_call plan call)) after in
      let early : count_by p first ≡ sum_by cost_of_call opening =
      ap (count_by p) (turn_is plan node [] opening) ∙ (made_count keeps node [] steps ∙ count_in_all (draws keeps) (steps_of_call plan) opening) in
      let late : count_by p last ≡ sum_by cost_of_call after =
      count_in_all p (λ call. made_after node [] (steps_of_call plan call)) after
      ∙ sum_same (λ call. count_by p (made_after node [] (steps_of_call plan call))) cost_of_call after (λ call. made_count keeps node [] (steps_of_call plan call)) in
      sum_by-append (λ made. cond (p made) 1 0) first last ∙ ((λ i. early i + late i) ∙ sym (sum_by-append cost_of_call opening after))

  -- its calls are those before its body, its test, and those after
  calls_cost : (node : ℕ) (path : List ℕ) (is_test : Bool) → path ≡ plan_path plan node → is_some (test_of plan node) ≡ is_test
      → cost_of_node node ≡ sum_by cost_of_call (befores_of (registered plan) is_test node path) + (cost_of_call (test_call node) + sum_by cost_of_call (afters_of (registered plan) is_test node path))
  calls_cost node path is_test same is =
      let befores = befores_of (registered plan) is_test node path in
      let afters = afters_of (registered plan) is_test node path in
      let first : List Call = befores ++ test_call node ∷ [] in
      let calls : first ++ afters ≡ calls_of plan node = calls_are plan node path is_test befores afters first (first ++ afters) same (sym is) refl refl refl refl in
      let whole = node_cost node in
      let all : sum_by cost_of_call (first ++ afters) ≡ sum_by cost_of_call (calls_of plan node) = ap (sum_by cost_of_call) calls in
      let both = sum_by-append cost_of_call first afters in
      let pushed = sum_by_push cost_of_call befores (test_call node) in
      omega (arith, whole, all, both, pushed)

  -- a node and all nodes below it
  abbrev cost_below : ℕ → ℕ
  cost_below node = below (plan_path plan) cost_of_node (length plan.nodes) node

  numbers_are : numbers_drawn plan ≡ sum_by cost_of_node (range_with_len 0 (length plan.nodes))
  numbers_are = count_in_all (λ made. draws keeps made.step) (made_of_node plan) (range_with_len 0 (length plan.nodes))

  -- ---- the calls of a node

  one_draws : (path : List ℕ) (call : Call) (s : ValueState) → GoesOn keeps s → Draws keeps (cost_of_call call) s (call_run plan path call s).state
  one_draws path call s g = steps_draw keeps plan.keys path (steps_of_call plan call) s g

  before_node : (is_test : Bool) (node : ℕ) (path : List ℕ) (s : ValueState) → GoesOn keeps s
      → Draws keeps (sum_by cost_of_call (befores_of (registered plan) is_test node path)) s (make_befores (call_run plan path) (befores_of (registered plan) is_test node path) (no_calls s)).state
  before_node is_test node path s g = befores_draw keeps cost_of_call (call_run plan path) (one_draws path) (befores_of (registered plan) is_test node path) (no_calls s) g

  after_node : (is_test : Bool) (node : ℕ) (path : List ℕ) (end : CallsEnd) → GoesOn keeps end.state
      → Draws keeps (sum_by cost_of_call (afters_of (registered plan) is_test node path)) end.state (make_all (call_run plan path) (afters_of (registered plan) is_test node path) end).state
  after_node is_test node path end g = all_draw keeps cost_of_call (call_run plan path) (one_draws path) (afters_of (registered plan) is_test node path) end g

  -- ---- the tree

  module _ (tree : NodesAreTree plan) where
    count : length ids ≡ length plan.nodes
    count = length-map plan.nodes (λ n. n.id)

    -- the path of a node is one
    has_path : (node : ℕ) → node < length plan.nodes → (walk : List ℕ) × IsPathOf ids node (node ∷ walk) × (node ∷ walk ≡ plan_path plan node)
    has_path node within =
        let less : node < length ids = let e = count in omega (arith, e, within) in
        let up = under_root ids tree node less in
        (up.walk, (refl, up.is_walk), path_is ids tree node (node ∷ up.walk) less (refl, up.is_walk))

    is_under : (at node : ℕ) → node < length plan.nodes → is_on at (plan_path plan node) ≡ true → Under ids at node
    is_under at node within on =
        let p = has_path node within in
        record { walk = p.0; is_walk = p.1.1; on_walk = on_path at (node ∷ p.0) (ap (is_on at) p.2 ∙ on) }

    under_is : (at node : ℕ) → node < length plan.nodes → Under ids at node → is_on at (plan_path plan node) ≡ true
    under_is at node within u =
        let less : node < length ids = let e = count in omega (arith, e, within) in
        sym (ap (is_on at) (path_is ids tree node (node ∷ u.walk) less (refl, u.is_walk))) ∙ path_on at (node ∷ u.walk) u.on_walk

    abbrev children : ℕ → List ℕ
    children node = in_run_order (concurrent_of plan) (children_of ids node)

    child : (node at : ℕ) → node < length plan.nodes → Stands at (children node) → IsParentOf ids node at
    child node at within there = all_stand (IsParentOf ids node) (children node) at (children-all ids (concurrent_of plan) node (let e = count in omega (arith, e, within))) there

    -- a node and the nodes below its children are no more than those at or below it
    with_children : (node : ℕ) → node < length plan.nodes → cost_of_node node + sum_by cost_below (children node) ≤ cost_below node
    with_children node within =
        let p = has_path node within in
        node_and_below (plan_path plan) cost_of_node (length plan.nodes) node (children node) within
        (distinct-ordered (concurrent_of plan) (children_of ids node) (distinct-below ids node (length ids)))
        (under_is node node within (under_itself ids node (node ∷ p.0) p.1))
        (λ at there. not_above at (child node at within there) (bools (is_on at (plan_path plan node))))
        (λ other a b less p q on off. same_child ids tree node a b other (child node a within p) (child node b within q) (is_under a other less on) (is_under b other less off))
        (λ other a less there on. under_is node other less (under_child ids tree node a other (child node a within there) (is_under a other less on)))
      where
        not_above : (at : ℕ) → IsParentOf ids node at → (is_on at (plan_path plan node) ≡ true) ⊎ (is_on at (plan_path plan node) ≡ false) → is_on at (plan_path plan node) ≡ false
        not_above at is (inl on) =
            let order = under_order ids tree at node (is_under at node within on) in
            let first = parent_first ids tree node at is in
            absurd (omega (arith, order, first))
        not_above at is (inr off) = off

    -- ---- each node

    -- the children of a container, where it goes on to them
    body_draws : (path_run : List ℕ → RunState → RunState) (go : Bool) (node : ℕ) (path : List ℕ) (r : RunState) → node < length plan.nodes → start_of path ≡ node
        → ((at : ℕ) (r : RunState) → IsParentOf ids node at → GoesOn keeps r.state → Draws keeps (cost_below at) r.state (path_run (at ∷ path) r).state)
        → GoesOn keeps r.state → Draws keeps (sum_by cost_below (children node)) r.state (body_run plan path_run go path r).state
    body_draws path_run true node path r within start each g =
        subst (λ n. Draws keeps (sum_by cost_below (children node)) r.state (fold (λ r at. path_run (at ∷ path) r) r (children n)).state) (sym start)
        (fold_draws keeps cost_below path_run path (IsParentOf ids node) each (children node) r (children-all ids (concurrent_of plan) node (let e = count in omega (arith, e, within))) g)
    body_draws path_run false node path r within start each g = draws_more keeps 0 (sum_by cost_below (children node)) r.state r.state (omega arith) (draws_none keeps r.state g)

    container_draws : (path_run : List ℕ → RunState → RunState) (node : ℕ) (path : List ℕ) (r : RunState) → node < length plan.nodes → start_of path ≡ node → path ≡ plan_path plan node → is_some (test_of plan node) ≡ false
        → ((at : ℕ) (r : RunState) → IsParentOf ids node at → GoesOn keeps r.state → Draws keeps (cost_below at) r.state (path_run (at ∷ path) r).state)
        → GoesOn keeps r.state → Draws keeps (cost_below node) r.state (container_run plan path_run node path r).state
    container_draws path_run node path r within start same is each g =
        let befores = sum_by cost_of_call (befores_of (registered plan) false node path) in
        let inner = sum_by cost_below (children node) in
        let afters = sum_by cost_of_call (afters_of (registered plan) false node path) in
        let before = make_befores (call_run plan path) (befores_of (registered plan) false node path) (no_calls r.state) in
        let opened : RunState = record { state = before.state; results = r.results } in
        let body = body_end plan path_run node path r in
        let end = container_end plan path_run node path r in
        let sealed = (container_run plan path_run node path r).state in
        let first = before_node false node path r.state g in
        let second = body_draws path_run (all_successful before.calls) node path opened within start each first.goes in
        let third = after_node false node path (record before { state = body.state }) second.goes in
        let last = seals_draw keeps end.state.places node end.state third.goes in
        let cost = calls_cost node path false same is in
        let whole = with_children node within in
        draws_more keeps (befores + (inner + (afters + 0))) (cost_below node) r.state sealed (omega (arith, cost, whole))
        (draws_then keeps befores (inner + (afters + 0)) r.state before.state sealed first
        (draws_then keeps inner (afters + 0) before.state body.state sealed second (draws_then keeps afters 0 body.state end.state sealed third last)))

    test_draws : (node : ℕ) (path : List ℕ) (r : RunState) → node < length plan.nodes → path ≡ plan_path plan node → is_some (test_of plan node) ≡ true
        → GoesOn keeps r.state → Draws keeps (cost_below node) r.state (test_node_run plan node path r).state
    test_draws node path r within same is g =
        let befores = sum_by cost_of_call (befores_of (registered plan) true node path) in
        let test = cost_of_call (test_call node) in
        let afters = sum_by cost_of_call (afters_of (registered plan) true node path) in
        let before = make_befores (call_run plan path) (befores_of (registered plan) true node path) (no_calls r.state) in
        let body = make_if_successful (call_run plan path) before (test_call node) in
        let end = test_end plan node path r in
        let sealed = (test_node_run plan node path r).state in
        let first = before_node true node path r.state g in
        let second = made_draws keeps cost_of_call (call_run plan path) (one_draws path) (test_call node) before first.goes in
        let third = after_node true node path body second.goes in
        let last = seals_draw keeps end.state.places node end.state third.goes in
        let cost = calls_cost node path true same is in
        let whole = with_children node within in
        draws_more keeps (befores + (test + (afters + 0))) (cost_below node) r.state sealed (omega (arith, cost, whole))
        (draws_then keeps befores (test + (afters + 0)) r.state before.state sealed first
        (draws_then keeps test (afters + 0) before.state body.state sealed second (draws_then keeps afters 0 body.state end.state sealed third last)))

    node_draws : (levels node : ℕ) (path : List ℕ) (r : RunState) → IsPathOf ids node path → GoesOn keeps r.state → Draws keeps (cost_below node) r.state (node_run plan levels path r).state
    node_draws zero node path r is g =
        subst (λ (t : RunState). Draws keeps (cost_below node) r.state t.state) (sym (node_run-zero plan path r)) (draws_more keeps 0 (cost_below node) r.state r.state (omega arith) (draws_none keeps r.state g))
    node_draws (suc levels) node path r is g =
        let start = start_is ids node path is in
        let inside : node < length ids = within_tree ids node path tree is in
        let within : node < length plan.nodes = let e = count in omega (arith, e, inside) in
        let same : path ≡ plan_path plan node = path_is ids tree node path inside is in
        let run : (b : Bool) (n : ℕ) → RunState = λ b n. if b then test_node_run plan n path r else container_run plan (node_run plan levels) n path r in
        let whole : node_run plan (suc levels) path r ≡ run (is_some (test_of plan node)) node = node_run-suc plan levels path r ∙ ap (λ n. run (is_some (test_of plan n)) n) start in
        subst (λ (t : RunState). Draws keeps (cost_below node) r.state t.state) (sym whole) (elim (bools (is_some (test_of plan node))) [
          | inl test ↦ subst (λ b. Draws keeps (cost_below node) r.state (run b node).state) (sym test) (test_draws node path r within same test g)
          | inr none ↦ subst (λ b. Draws keeps (cost_below node) r.state (run b node).state) (sym none)
              (container_draws (node_run plan levels) node path r within start same none (λ at t parent goes. node_draws levels at (at ∷ path) t (child_path ids node at path is parent) goes) g)
        ])

-- ---- the whole run

pub draws_few : (plan : PlanText) → NodesAreTree plan → (enough_end plan).state.store.drawn ≤ numbers_drawn plan
draws_few plan tree =
    let opening : GoesOn plan.keep_faults (enough_opening plan).state = record { values = refl; memory = refl; faults = refl } in
    let whole = (node_draws plan tree (length plan.nodes) 0 (0 ∷ []) (enough_opening plan) (refl, refl) opening).drawn in
    let few = below_few (plan_path plan) (cost_of_node plan) (length plan.nodes) 0 in
    let all = numbers_are plan in
    omega (arith, whole, few, all)
