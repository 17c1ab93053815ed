-- What the calls of each node of a plan and the ends of their contexts keep, a node with all nodes below it keeps; and so what it leaves as it was.
use Rattle.std.proofs.Common.{◌≡◌, ◌<◌, ℕ, zero, suc, Bool, true, false, List, [], ◌∷◌, ◌++◌, length, is_some, All, Contains, refl, ap, sym, subst, ◌∙◌, arith}
use Rattle.std.specs.Prelude.{◌==◌, ◌||◌, fold, if◌then◌else◌}
use Rattle.std.specs.List.{AllByRecursion}
use Rattle.std.proofs.lemmas.Bool.{eq-eqb, eqb-true}
use Rattle.std.proofs.lemmas.List.{length-map}
use Rattle.std.proofs.lemmas.List.Elements.{Contains-append_left, Contains-append_right}
use Rattle.ext_tree.specs.Keys.{KeyValue}
use Rattle.ext_tree.specs.Trees.{Id, IsParentOf, IsPathOf, IsTree, IsWalk, children_of}
use Rattle.ext_lifecycle.specs.declared.call.Call.{Call}
use Rattle.ext_lifecycle.specs.Callbacks.{afters_of, befores_of, test_call}
use Rattle.ext_lifecycle.specs.Endings.{all_successful}
use Rattle.ext_lifecycle.specs.Modes.{in_run_order}
use Rattle.ext_plan.specs.Plans.{PlanText}
use Rattle.ext_plan.specs.PlanCalls.{concurrent_of, registered, test_of}
use Rattle.ext_plan.specs.ReadPlans.{NodesAreTree, TestsHaveNoChildren, ids_of_nodes}
use Rattle.ext_races.specs.MadeSteps.{calls_of, plan_path}
use Rattle.ext_races.proofs.Lists.{all_contained, contains_first}
use Rattle.ext_races.proofs.Paths.{path_is}
use Rattle.ext_plan_plain.specs.ValueStates.{ValueState}
use Rattle.ext_plan_plain.specs.ContextEnds.{seal_keys}
use Rattle.ext_plan_plain.specs.NodeCalls.{CallsEnd, befores_run, call_run, make, make_all, make_befores, make_if_successful, no_calls, test_run}
use Rattle.ext_plan_plain.specs.PlainRun.{RunState, body_run, container_run, node_run, test_node_run}
use Rattle.ext_plan_plain.proofs.Below.{children-all}
use Rattle.ext_plan_plain.proofs.Ends.{body_end, container_end, test_end}
use Rattle.ext_one_report.proofs.Calls.{all_first, all_later}
use Rattle.ext_one_report.proofs.MatchingWords.{Places}
use Rattle.ext_one_report.proofs.Covers.{AreCovered}
use Rattle.ext_one_report.specs.Within.{is_within}
use Rattle.ext_one_report.proofs.PlainFrames.{LeavesElse, all_of, no_context}
use Rattle.ext_one_report.proofs.FrameSlots.{leaves_itself, leaves_more, leaves_then}
use Rattle.ext_one_report.proofs.FrameSteps.{call_leaves, seals_leave}

-- ---- nodes of a tree

pub within_walk : (ids : List Id) (node : ℕ) (above : List ℕ) → IsTree ids → IsWalk ids node above → node < length ids
within_walk ids node [] tree root = let some = tree.first.some in omega (arith, some, root)
within_walk ids node (parent ∷ rest) tree walk = walk.0.child_within

pub within_path : (ids : List Id) (node : ℕ) (path : List ℕ) → IsTree ids → IsPathOf ids node path → node < length ids
within_path ids node [] tree is = absurd is
within_path ids node (first ∷ above) tree is = subst (λ n. n < length ids) is.0 (within_walk ids first above tree (subst (λ n. IsWalk ids n above) (sym is.0) is.1))

pub within_nodes : (plan : PlanText) (node : ℕ) (path : List ℕ) → NodesAreTree plan → IsPathOf (ids_of_nodes plan.nodes) node path → node < length plan.nodes
within_nodes plan node path tree is = subst (λ n. node < n) (length-map plan.nodes (λ n. n.id)) (within_path (ids_of_nodes plan.nodes) node path tree is)

-- ---- the calls that a node's run makes are its calls

module _ (plan : PlanText) (node : ℕ) (path : List ℕ) (is_test : Bool) (on : path ≡ plan_path plan node) (kind : is_some (test_of plan node) ≡ is_test) where
  abbrev Calls : List Call
  Calls = befores_of (registered plan) is_test node path ++ test_call node ∷ [] ++ afters_of (registered plan) is_test node path

  calls_as : Calls ≡ calls_of plan node
  calls_as =
      ap (λ p. befores_of (registered plan) is_test node p ++ test_call node ∷ [] ++ afters_of (registered plan) is_test node p) on
      ∙ ap (λ b. befores_of (registered plan) b node (plan_path plan node) ++ test_call node ∷ [] ++ afters_of (registered plan) b node (plan_path plan node)) (sym kind)

  first_own : (call : Call) → Contains (befores_of (registered plan) is_test node path ++ test_call node ∷ []) call → Contains (calls_of plan node) call
  first_own call there =
      subst (λ calls. Contains calls call) calls_as (Contains-append_left (befores_of (registered plan) is_test node path ++ test_call node ∷ []) (afters_of (registered plan) is_test node path) call there)

  pub befores_own : All (Contains (calls_of plan node)) (befores_of (registered plan) is_test node path)
  befores_own =
      let befores = befores_of (registered plan) is_test node path in
      all_contained (Contains (calls_of plan node)) befores (λ call there. first_own call (Contains-append_left befores (test_call node ∷ []) call there))

  pub test_own : Contains (calls_of plan node) (test_call node)
  test_own = first_own (test_call node) (Contains-append_right (befores_of (registered plan) is_test node path) (test_call node ∷ []) (test_call node) (contains_first (test_call node) []))

  pub afters_own : All (Contains (calls_of plan node)) (afters_of (registered plan) is_test node path)
  afters_own =
      let firsts = befores_of (registered plan) is_test node path ++ test_call node ∷ [] in
      let afters = afters_of (registered plan) is_test node path in
      all_contained (Contains (calls_of plan node)) afters (λ call there. subst (λ calls. Contains calls call) calls_as (Contains-append_right firsts afters call there))

-- ---- each node

-- What is kept of a state at each node that is spoken of: by each call of it, and by the end of its context. With a node all nodes below it are spoken of
pub record KeepNodes (plan : PlanText) (Of : ℕ → List ℕ → Type 0) (P : ValueState → Type 0) : Type 0 where
  pub below : (parent child : ℕ) (path : List ℕ) → IsPathOf (ids_of_nodes plan.nodes) parent path → IsParentOf (ids_of_nodes plan.nodes) parent child → Of parent path → Of child (child ∷ path)
  pub calls : (node : ℕ) (path : List ℕ) (call : Call) (s : ValueState) → Of node path → IsPathOf (ids_of_nodes plan.nodes) node path → Contains (calls_of plan node) call → P s → P (call_run plan path call s).state
  pub seals : (node : ℕ) (path : List ℕ) (s : ValueState) → Of node path → IsPathOf (ids_of_nodes plan.nodes) node path → P s → P (seal_keys s.places node s)

module _ (plan : PlanText) (Of : ℕ → List ℕ → Type 0) (P : ValueState → Type 0) (keep : KeepNodes plan Of P) (tree : NodesAreTree plan) where
  abbrev ids : List Id
  ids = ids_of_nodes plan.nodes

  -- ---- the calls of one node

  module _ (node : ℕ) (path : List ℕ) (of : Of node path) (is : IsPathOf ids node path) where
    all_keep : (calls : List Call) (end : CallsEnd) → All (Contains (calls_of plan node)) calls → P end.state → P (make_all (call_run plan path) calls end).state
    all_keep [] end there p = p
    all_keep (call ∷ more) end there p =
        all_keep more (make (call_run plan path) end call) (all_later (Contains (calls_of plan node)) call more there) (keep.calls node path call end.state of is (all_first (Contains (calls_of plan node)) call more there) p)

    one_keeps : (b : Bool) (call : Call) (end : CallsEnd) → Contains (calls_of plan node) call → P end.state → P (if b then make (call_run plan path) end call else end).state
    one_keeps true call end there p = keep.calls node path call end.state of is there p
    one_keeps false call end there p = p

    befores_keep : (calls : List Call) (end : CallsEnd) → All (Contains (calls_of plan node)) calls → P end.state → P (make_befores (call_run plan path) calls end).state
    befores_keep [] end there p = p
    befores_keep (call ∷ more) end there p =
        befores_keep more (make_if_successful (call_run plan path) end call) (all_later (Contains (calls_of plan node)) call more there)
        (one_keeps (all_successful end.calls) call end (all_first (Contains (calls_of plan node)) call more there) p)

    test_keeps : plan_path plan node ≡ path → is_some (test_of plan node) ≡ true → (run : RunState) → P run.state → P (test_end plan node path run).state
    test_keeps on kind run p =
        let before = befores_run plan true node path run.state in
        let opened = befores_keep (befores_of (registered plan) true node path) (no_calls run.state) (befores_own plan node path true (sym on) kind) p in
        let tested = one_keeps (all_successful before.calls) (test_call node) before (test_own plan node path true (sym on) kind) opened in
        all_keep (afters_of (registered plan) true node path) (test_run plan node path before) (afters_own plan node path true (sym on) kind) tested

    container_keeps : (path_run : List ℕ → RunState → RunState) → plan_path plan node ≡ path → is_some (test_of plan node) ≡ false
        → ((go : Bool) (run : RunState) → P run.state → P (body_run plan path_run go path run).state) → (run : RunState) → P run.state → P (container_end plan path_run node path run).state
    container_keeps path_run on kind body run p =
        let before = befores_run plan false node path run.state in
        let opened = befores_keep (befores_of (registered plan) false node path) (no_calls run.state) (befores_own plan node path false (sym on) kind) p in
        let left = body (all_successful before.calls) (record { state = before.state; results = run.results }) opened in
        all_keep (afters_of (registered plan) false node path) (record before { state = (body_end plan path_run node path run).state }) (afters_own plan node path false (sym on) kind) left

  -- ---- its children, one after another

  fold_keeps : (at : ℕ) (above : List ℕ) (path_run : List ℕ → RunState → RunState) → ((child : ℕ) (run : RunState) → IsParentOf ids at child → P run.state → P (path_run (child ∷ at ∷ above) run).state)
      → (children : List ℕ) (run : RunState) → AllByRecursion (IsParentOf ids at) children → P run.state → P (fold (λ r child. path_run (child ∷ at ∷ above) r) run children).state
  fold_keeps at above path_run each [] run all p = p
  fold_keeps at above path_run each (child ∷ more) run all p = fold_keeps at above path_run each more (path_run (child ∷ at ∷ above) run) all.1 (each child run all.0 p)

  body_keeps : (at : ℕ) (above : List ℕ) (path_run : List ℕ → RunState → RunState) → at < length ids → ((child : ℕ) (run : RunState) → IsParentOf ids at child → P run.state → P (path_run (child ∷ at ∷ above) run).state)
      → (go : Bool) (run : RunState) → P run.state → P (body_run plan path_run go (at ∷ above) run).state
  body_keeps at above path_run within each true run p = fold_keeps at above path_run each (in_run_order (concurrent_of plan) (children_of ids at)) run (children-all ids (concurrent_of plan) at within) p
  body_keeps at above path_run within each false run p = p

  by_kind : (b : Bool) (x y : RunState) → (b ≡ true → P x.state) → (b ≡ false → P y.state) → P (if b then x else y).state
  by_kind true x y p q = p refl
  by_kind false x y p q = q refl

  walk_keeps : (levels at : ℕ) (above : List ℕ) (run : RunState) → Of at (at ∷ above) → IsWalk ids at above → P run.state → P (node_run plan levels (at ∷ above) run).state
  unfolding node_run
  walk_keeps zero at above run of walk p = p
  walk_keeps (suc levels) at above run of walk p =
      let path = at ∷ above in
      let is : IsPathOf ids at path = (refl, walk) in
      let within = within_walk ids at above tree walk in
      let on : plan_path plan at ≡ path = sym (path_is ids tree at path within is) in
      by_kind (is_some (test_of plan at)) (test_node_run plan at path run) (container_run plan (node_run plan levels) at path run)
      (λ kind. keep.seals at path (test_end plan at path run).state of is (test_keeps at path of is on kind run p))
      (λ kind. keep.seals at path (container_end plan (node_run plan levels) at path run).state of is
      (container_keeps at path of is (node_run plan levels) on kind
      (body_keeps at above (node_run plan levels) within (λ child r parent q. walk_keeps levels child path r (keep.below at child path is parent of) (parent, walk) q)) run p))

  pub nodes_keep : (levels node : ℕ) (path : List ℕ) (run : RunState) → Of node path → IsPathOf ids node path → P run.state → P (node_run plan levels path run).state
  nodes_keep levels node [] run of is p = absurd is
  nodes_keep levels node (first ∷ above) run of is p =
      walk_keeps levels first above run (subst (λ n. Of n (first ∷ above)) (sym is.0) of) (subst (λ n. IsWalk ids n above) (sym is.0) is.1) p

-- ---- what a node leaves as it was

-- whether a node stands on a path
abbrev pub stands_on : ℕ → Bool → List ℕ → Bool
stands_on node found path = fold (λ found at. found || (at == node)) found path

stands_still : (node : ℕ) (path : List ℕ) → stands_on node true path ≡ true
stands_still node [] = refl
stands_still node (first ∷ path) = stands_still node path

pub stands_also : (node : ℕ) (found : Bool) (path : List ℕ) → stands_on node false path ≡ true → stands_on node found path ≡ true
stands_also node true path stands = stands_still node path
stands_also node false path stands = stands

pub stands_first : (node : ℕ) (above : List ℕ) → stands_on node false (node ∷ above) ≡ true
stands_first node above = ap (λ b. stands_on node b above) (eq-eqb node node refl) ∙ stands_still node above

-- the node is at or below the root of a part of the tree, which changes what it changes
pub record IsPartOf (changes : ℕ → Places) (root node : ℕ) (path : List ℕ) : Type 0 where
  pub changed : (context : ℕ) (key : KeyValue) → changes node context key ≡ true → changes root context key ≡ true
  pub stands : stands_on root false path ≡ true

module _ (plan : PlanText) (touched changes : ℕ → Places) (covered : AreCovered plan touched changes) (tree : NodesAreTree plan) (root : ℕ) (s : ValueState) (none : s.memory ≡ []) where
  abbrev Left : ValueState → Type 0
  Left t = LeavesElse (changes root) (is_within plan root) s t

  part_below : (parent child : ℕ) (path : List ℕ) → IsPathOf (ids_of_nodes plan.nodes) parent path → IsParentOf (ids_of_nodes plan.nodes) parent child → IsPartOf changes root parent path → IsPartOf changes root child (child ∷ path)
  part_below parent child path is parented part = record {
    changed = λ context key is_so. part.changed context key (covered.changed_above parent child context key parented is_so);
    stands = stands_also root (child == root) path part.stands;
  }

  nothing_closed : (context : ℕ) → no_context context ≡ true → is_within plan root context ≡ true
  nothing_closed context is = absurd cc

  part_calls : (node : ℕ) (path : List ℕ) (call : Call) (t : ValueState) → IsPartOf changes root node path → IsPathOf (ids_of_nodes plan.nodes) node path → Contains (calls_of plan node) call → Left t → Left (call_run plan path call t).state
  part_calls node path call t part is there left =
      let after = (call_run plan path call t).state in
      leaves_then (changes root) (is_within plan root) s t after left
      (leaves_more (changes node) (changes root) no_context (is_within plan root) t after part.changed nothing_closed
      (call_leaves plan touched changes covered node path is call t there (left.memory none)))

  part_seals : (node : ℕ) (path : List ℕ) (t : ValueState) → IsPartOf changes root node path → IsPathOf (ids_of_nodes plan.nodes) node path → Left t → Left (seal_keys t.places node t)
  part_seals node path t part is left =
      let after = seal_keys t.places node t in
      let within = within_nodes plan node path tree is in
      let whole : plan_path plan node ≡ path = sym (path_is (ids_of_nodes plan.nodes) tree node path (within_path (ids_of_nodes plan.nodes) node path tree is) is) in
      let inside : is_within plan root node ≡ true = ap (stands_on root false) whole ∙ part.stands in
      leaves_then (changes root) (is_within plan root) s t after left
      (leaves_more (all_of node) (changes root) (λ context. context == node) (is_within plan root) t after
      (λ context key same. part.changed context key (subst (λ c. changes node c key ≡ true) (sym (eqb-true context node same)) (covered.own node key within)))
      (λ context same. subst (λ c. is_within plan root c ≡ true) (sym (eqb-true context node same)) inside)
      (seals_leave node t))

  parts_keep : KeepNodes plan (IsPartOf changes root) Left
  parts_keep = record { below = part_below; calls = part_calls; seals = part_seals }

pub nodes_leave : (plan : PlanText) (touched changes : ℕ → Places) (levels node : ℕ) (path : List ℕ) (r : RunState) → NodesAreTree plan → TestsHaveNoChildren plan → AreCovered plan touched changes
    → IsPathOf (ids_of_nodes plan.nodes) node path → r.state.memory ≡ [] → LeavesElse (changes node) (is_within plan node) r.state (node_run plan levels path r).state
nodes_leave plan touched changes levels node path r tree childless covered is none =
    nodes_keep plan (IsPartOf changes node) (Left plan touched changes covered tree node r.state none) (parts_keep plan touched changes covered tree node r.state none) tree levels node path r
    (record { changed = λ context key is_so. is_so; stands = own path is }) is (leaves_itself (changes node) (is_within plan node) r.state)
  where
    own : (path : List ℕ) → IsPathOf (ids_of_nodes plan.nodes) node path → stands_on node false path ≡ true
    own [] is = absurd is
    own (first ∷ above) is = subst (λ n. stands_on node false (n ∷ above) ≡ true) (sym is.0) (stands_first node above)
