-- In a plain run what the callbacks before all children of a container computed stands there or above, from their end on, if nothing removes it.
-- Javadoc `ExtensionContext.Store`, `getOrComputeIfAbsent`; what a plain run is stands in [ext_plan_plain PlainRun].
use Rattle.ext_one_report.proofs.Open.{Given, Open}
use Rattle.std.proofs.Common.{◌≡◌, ◌<◌, ◌⊎◌, ℕ, inl, inr, Bool, true, false, true≢false, List, [], ◌∷◌, drop, length, Option, None, Some, is_some, refl, ap, sym, subst, ◌∙◌, ◌++◌, arith}
use Rattle.std.specs.Prelude.{All, Contains, ◌&&◌, ◌==◌, if◌then◌else◌}
use Rattle.std.specs.List.{flat_map, list_any}
use Rattle.std.proofs.lemmas.Bool.{and_from, and_parts, eq-eqb, or_parts}
use Rattle.std.proofs.lemmas.List.{length-map}
use Rattle.std.proofs.lemmas.List.Elements.{All-contains, All-contains_itself, All-drop, Contains-append_left}
use Rattle.std.proofs.lemmas.List.Folds.{list_any-from_Any}
use Rattle.ext_history.proofs.Lists.{bools, contains_cons, contains_here, contains_later, contains_none}
use Rattle.ext_tree.specs.Keys.{KeyValue}
use Rattle.ext_tree.specs.Trees.{IsPathOf}
use Rattle.ext_lifecycle.specs.declared.call.Call.{Call}
use Rattle.ext_lifecycle.specs.Callbacks.{befores_of, test_call}
use Rattle.ext_lifecycle.specs.Endings.{all_successful, is_successful}
use Rattle.ext_plan.specs.Plans.{PlanText, StepText}
use Rattle.ext_plan.specs.PlanCalls.{registered, steps_of_call, test_of}
use Rattle.ext_plan.specs.ReadPlans.{IsReadPlan, NodesAreTree, ids_of_nodes}
use Rattle.ext_plan.specs.StepCalls.{start_of}
use Rattle.ext_plan.specs.Steps.{height}
use Rattle.ext_races.specs.Acts.{ActText, act_of}
use Rattle.ext_races.specs.MadeSteps.{MadeText, calls_after, calls_before, calls_of, made_by, plan_path, steps_before, steps_made}
use Rattle.ext_races.specs.Touches.{is_removed, removes_key, removes_past}
use Rattle.ext_races.proofs.Lists.{contains-flat_map, contains-flat_map_back}
use Rattle.ext_races.proofs.Paths.{path_is}
use Rattle.ext_plan_plain.specs.ValueStates.{ValueState}
use Rattle.ext_plan_plain.specs.ContextEnds.{seal_keys}
use Rattle.ext_plan_plain.specs.StepRuns.{StepEnd}
use Rattle.ext_plan_plain.specs.NodeCalls.{CallsEnd, befores_run, call_run, make, make_befores, make_if_successful, no_calls}
use Rattle.ext_plan_plain.specs.PlainRun.{RunState, node_run}
use Rattle.ext_one_report.proofs.CallLists.{if_made, stays, successful_more}
use Rattle.ext_one_report.proofs.ComputedAbove.{StoresAt, IsClosedAbove, IsStoredIn, all_clear}
use Rattle.ext_one_report.proofs.Calls.{path_above}
use Rattle.ext_one_report.proofs.CoveredCalls.{call_stays}
use Rattle.ext_one_report.proofs.CoveredPaths.{path_holds, path_there}
use Rattle.ext_one_report.proofs.CoveredTouches.{is_made, step_is, step_of}
use Rattle.ext_one_report.proofs.FrameNodes.{KeepNodes, befores_own, nodes_keep, within_nodes, within_path}
use Rattle.ext_one_report.proofs.KeptComputes.{clear_kept, computes_leave, steps_left}
use Rattle.ext_one_report.proofs.KeptSteps.{Keeps, Spares, acts_at, keeps_then, seals_keep, steps_keep}

-- ---- calls up to the first that is not successful

module _ (plan : PlanText) (Held : ℕ → Type 0) (key : KeyValue) (path : List ℕ) where
  abbrev run : Call → ValueState → StepEnd
  run call s = call_run plan path call s

  -- the call keeps what stands
  abbrev CallKeeps : Call → Type 0
  CallKeeps call = (s : ValueState) → Keeps Held key s (run call s).state

  one_keeps : (b : Bool) (call : Call) (end : CallsEnd) → CallKeeps call → Keeps Held key end.state (if b then make run end call else end).state
  one_keeps true call end keeps = keeps end.state
  one_keeps false call end keeps = λ context held some. some

  befores_keep : (calls : List Call) (end : CallsEnd) → ((call : Call) → Contains calls call → CallKeeps call) → Keeps Held key end.state (make_befores run calls end).state
  befores_keep [] end each = λ context held some. some
  befores_keep (call ∷ more) end each =
      let one = make_if_successful run end call in
      keeps_then Held key end.state one.state (make_befores run more one).state (one_keeps (all_successful end.calls) call end (each call (contains_here call more)))
      (befores_keep more one (λ other later. each other (contains_later call more other later)))

  -- what was successful in the end was so before
  was_good : (calls : List Call) (end : CallsEnd) → all_successful (make_befores run calls end).calls ≡ true → all_successful end.calls ≡ true
  was_good calls end good = elim (bools (all_successful end.calls)) [
    | inl on ↦ on
    | inr off ↦ absurd (true≢false (sym good ∙ (ap (λ (e : CallsEnd). all_successful e.calls) (stays run calls end off) ∙ off)))
  ]

  befores_left : (along : List ℕ) → All Held along → (calls : List Call) (end : CallsEnd) (call : Call) → ((other : Call) → Contains calls other → CallKeeps other) → Contains calls call
      → ((s : ValueState) → is_successful (run call s).verdict ≡ true → all_clear (run call s).state along key ≡ false) → all_successful (make_befores run calls end).calls ≡ true
      → all_clear (make_befores run calls end).state along key ≡ false
  befores_left along on [] end call each there leaves good = absurd (contains_none call there)
  befores_left along on (first ∷ more) end call each there leaves good =
      let one = make_if_successful run end first in
      let each_more : (other : Call) → Contains more other → CallKeeps other = λ other later. each other (contains_later first more other later) in
      elim (contains_cons first more call there) [
        | inl same ↦
            let made = if_made run end first (was_good (first ∷ more) end good) in
            let all : all_successful (make run end first).calls ≡ true = ap (λ (e : CallsEnd). all_successful e.calls) (sym made) ∙ was_good more one good in
            let parts = and_parts (all_successful end.calls) (is_successful (run first end.state).verdict) (sym (successful_more end.calls (run first end.state).verdict) ∙ all) in
            let here : all_clear (run first end.state).state along key ≡ false =
            subst (λ c. is_successful (run c end.state).verdict ≡ true → all_clear (run c end.state).state along key ≡ false) (sym same) (leaves end.state) parts.1 in
            clear_kept Held key one.state (make_befores run more one).state (befores_keep more one each_more) along on
            (subst (λ (e : CallsEnd). all_clear e.state along key ≡ false) (sym made) here)
        | inr later ↦ befores_left along on more one call each_more later leaves good
      ]

-- ---- a key that nothing removes in the contexts of a node's path

-- the contexts of the node's path
abbrev On : PlanText → ℕ → ℕ → Type 0
On plan n = Contains (plan_path plan n)

module _ (plan : PlanText) (n : ℕ) (key : KeyValue) (kept : is_removed plan n key ≡ false) where
  abbrev own : Bool
  own = list_any (λ step. removes_key plan.keys key (act_of step)) (steps_before plan n)

  abbrev past : MadeText → Bool
  past made = removes_past plan.keys key n (plan_path plan n) (plan_path plan made.node) (act_of made.step)

  parts : (own ≡ false) × (list_any past (steps_made plan) ≡ false)
  parts = or_parts own (list_any past (steps_made plan)) kept

  -- none of its own callbacks before all children removes it,
  own_spares : (path : List ℕ) (call : Call) (step : StepText) → Contains (calls_before plan n) call → Contains (steps_of_call plan call) step → Spares (On plan n) plan.keys key path step
  own_spares path call step among there = λ removes held.
      let all = contains-flat_map (steps_of_call plan) (calls_before plan n) call step among there in
      true≢false (sym (list_any-from_Any (λ s. removes_key plan.keys key (act_of s)) (steps_before plan n) (all.0, step, all.1, all.2, removes)) ∙ parts.0)

  among_told : (x : ℕ) (xs : List ℕ) → Contains xs x → list_any (λ c. c == x) xs ≡ true
  among_told x xs there = list_any-from_Any (λ c. c == x) xs (there.0, x, there.1, there.2, eq-eqb x x refl)

  act_past : (path : List ℕ) (act : Option ActText) → Contains (drop 1 path) n → removes_key plan.keys key act ≡ true → On plan n (acts_at path act) → removes_past plan.keys key n (plan_path plan n) path act ≡ true
  act_past path None below removes held = absurd (cc removes)
  act_past path (Some act) below removes held =
      let under = list_any (λ c. c == n) (drop 1 path) in
      let at = list_any (λ c. c == start_of (drop act.up path)) (plan_path plan n) in
      and_from (removes_key plan.keys key (Some act) && under) at (and_from (removes_key plan.keys key (Some act)) under removes (among_told n (drop 1 path) below))
      (among_told (start_of (drop act.up path)) (plan_path plan n) held)

  -- and no step of a node below it does so there
  module _ (node : ℕ) (path : List ℕ) (within : node < length plan.nodes) (along : path ≡ plan_path plan node) (below : Contains (drop 1 path) n) where
    step_spares : (call : Call) (step : StepText) → Contains (calls_of plan node) call → Contains (steps_of_call plan call) step → Spares (On plan n) plan.keys key path step
    step_spares call step among there = λ removes held.
        let one = is_made plan node call step within among there in
        let is_past : past (made_by node one.front step) ≡ true = subst (λ p. removes_past plan.keys key n (plan_path plan n) p (act_of step) ≡ true) along (act_past path (act_of step) below removes held) in
        true≢false (sym (list_any-from_Any past (steps_made plan) (one.made.0, made_by node one.front step, one.made.1, one.made.2, is_past)) ∙ parts.1)

    call_keeps : (call : Call) → Contains (calls_of plan node) call → CallKeeps plan (On plan n) key path call
    call_keeps call among s = steps_keep (On plan n) key plan.keys path (steps_of_call plan call) s (λ step there. step_spares call step among there)

-- ---- what is so above

none_later : (x y : Option Given) → ((v : Given) → x ≡ Some v → y ≡ Some v) → y ≡ None → x ≡ None
none_later None y fewer none = refl
none_later (Some v) y fewer none = absurd (cc (sym none ∙ fewer v refl))

-- fewer places are open
pub fewer_closed : (plan : PlanText) (nodes : List ℕ) (o later : Open) (s : ValueState) → ((context : ℕ) (key : KeyValue) (v : Given) → later context key ≡ Some v → o context key ≡ Some v) → IsClosedAbove plan nodes o s
    → IsClosedAbove plan nodes later s
fewer_closed plan nodes o later s fewer closed = record {
  none = λ context key computed. none_later (later context key) (o context key) (fewer context key) (closed.none context key computed);
  stands = closed.stands;
}

-- the contexts at and above the one on which a callback of the node computes are on the node's path
computes_on : (plan : PlanText) → IsReadPlan plan → (n context : ℕ) (key : KeyValue) (step : StepText) → n < length plan.nodes → Contains (steps_before plan n) step → StoresAt plan (plan_path plan n) step context key
    → All (On plan n) (plan_path plan context)
computes_on plan read n context key step within held computes =
    let ids = ids_of_nodes plan.nodes in
    let tree = read.runnable.tree in
    let act = computes.act in
    let path = plan_path plan n in
    let is : IsPathOf ids n path = path_there ids tree n (let same = length-map plan.nodes (λ x. x.id) in omega (arith, within, same)) in
    let call = contains-flat_map_back (steps_of_call plan) (calls_before plan n) step held in
    let opening = calls_before plan n ++ test_call n ∷ [] in
    let among : Contains (calls_of plan n) call.0 = Contains-append_left opening (calls_after plan n) call.0 (Contains-append_left (calls_before plan n) (test_call n ∷ []) call.0 call.1) in
    let there : Contains (steps_of_call plan call.0) (step_of act) = subst (Contains (steps_of_call plan call.0)) (step_is step act computes.is) call.2 in
    let stays = All-contains (λ s. height s < length path) (steps_of_call plan call.0) (step_of act) (call_stays plan read n path is call.0 among) there in
    let at = start_of (drop act.up path) in
    let its : IsPathOf ids at (drop act.up path) = path_above ids path n act.up is stays in
    let same : drop act.up path ≡ plan_path plan at = path_is ids tree at (drop act.up path) (within_path ids at (drop act.up path) tree its) its in
    subst (λ c. All (On plan n) (plan_path plan c)) computes.at (subst (All (On plan n)) same (All-drop (On plan n) act.up path (All-contains_itself path)))

-- a node on a path is one of the plan's
on_within : (plan : PlanText) → NodesAreTree plan → (node : ℕ) (path : List ℕ) (n : ℕ) → IsPathOf (ids_of_nodes plan.nodes) node path → Contains path n → n < length plan.nodes
on_within plan tree node path n is there =
    let ids = ids_of_nodes plan.nodes in
    let less = path_holds ids tree node n path is there in
    let same = length-map plan.nodes (λ x. x.id) in
    omega (arith, less, same)

-- what is on the path above the first is on the path
behind_first : (path : List ℕ) (n : ℕ) → Contains (drop 1 path) n → Contains path n
behind_first [] n there = there
behind_first (first ∷ above) n there = contains_later first above n there

-- a node's run, with all below it, leaves something standing wherever something stood at a place or above it, if it was computed above it
pub child_closed : (plan : PlanText) → IsReadPlan plan → (levels node : ℕ) (nodes path : List ℕ) → IsPathOf (ids_of_nodes plan.nodes) node path → ((n : ℕ) → Contains nodes n → Contains (drop 1 path) n) → (o : Open) (r : RunState)
    → IsClosedAbove plan nodes o r.state → IsClosedAbove plan nodes o (node_run plan levels path r).state
child_closed plan read levels node nodes path is above o r closed = record {
  none = closed.none;
  stands = λ context key computed.
      let n = computed.node in
      let Held : ℕ → Type 0 = On plan n in
      let Of : ℕ → List ℕ → Type 0 = λ m p. Contains (drop 1 p) n in
      let P : ValueState → Type 0 = λ s. Keeps Held key r.state s in
      let keep : KeepNodes plan Of P = record {
        below = λ parent child p is_p parented of. behind_first p n of;
        calls = λ m p call s of is_p among before. keeps_then Held key r.state s (call_run plan p call s).state before
            (call_keeps plan n key computed.kept m p (within_nodes plan m p tree is_p) (its_own m p is_p) of call among s);
        seals = λ m p s of is_p before. keeps_then Held key r.state s (seal_keys s.places m s) before (seals_keep Held key s.places m s);
      } in
      let there = above n computed.among in
      let all : P (node_run plan levels path r).state = nodes_keep plan Of P keep tree levels node path r there is (λ context held some. some) in
      clear_kept Held key r.state (node_run plan levels path r).state all (plan_path plan context)
      (computes_on plan read n context key computed.step (on_within plan tree node path n is (behind_first path n there)) computed.held computed.computes) (closed.stands context key computed);
}
  where
    tree : NodesAreTree plan
    tree = read.runnable.tree

    its_own : (m : ℕ) (p : List ℕ) → IsPathOf (ids_of_nodes plan.nodes) m p → p ≡ plan_path plan m
    its_own m p is_p = path_is (ids_of_nodes plan.nodes) tree m p (within_path (ids_of_nodes plan.nodes) m p tree is_p) is_p

-- ---- behind the callbacks before all children of a container

module _ (plan : PlanText) (read : IsReadPlan plan) (node : ℕ) (path : List ℕ) (is : IsPathOf (ids_of_nodes plan.nodes) node path) (container : is_some (test_of plan node) ≡ false) where
  abbrev tree : NodesAreTree plan
  tree = read.runnable.tree

  abbrev befores : List Call
  befores = befores_of (registered plan) false node path

  within : node < length plan.nodes
  within = within_nodes plan node path tree is

  on : path ≡ plan_path plan node
  on = path_is (ids_of_nodes plan.nodes) tree node path (within_path (ids_of_nodes plan.nodes) node path tree is) is

  are_own : (call : Call) → Contains befores call → Contains (calls_of plan node) call
  are_own call there = All-contains (Contains (calls_of plan node)) befores call (befores_own plan node path false on container) there

  -- what stands in the contexts of a node above
  all_keep : (n : ℕ) (key : KeyValue) → is_removed plan n key ≡ false → Contains (drop 1 path) n → (s : ValueState) → Keeps (On plan n) key s (befores_run plan false node path s).state
  all_keep n key kept above s = befores_keep plan (On plan n) key path befores (no_calls s) (λ call there. call_keeps plan n key kept node path within on above call (are_own call there))

  same_befores : calls_before plan node ≡ befores
  same_befores = ap (λ b. befores_of (registered plan) b node (plan_path plan node)) container ∙ ap (befores_of (registered plan) false node) (sym on)

  among_before : (call : Call) → Contains befores call → Contains (calls_before plan node) call
  among_before call there = subst (λ calls. Contains calls call) (sym same_befores) there

  spares : (key : KeyValue) → is_removed plan node key ≡ false → (call : Call) (step : StepText) → Contains befores call → Contains (steps_of_call plan call) step → Spares (On plan node) plan.keys key path step
  spares key kept call step among there = own_spares plan node key kept path call step (among_before call among) there

  each_keeps : (key : KeyValue) → is_removed plan node key ≡ false → (call : Call) → Contains befores call → CallKeeps plan (On plan node) key path call
  each_keeps key kept call among s = steps_keep (On plan node) key plan.keys path (steps_of_call plan call) s (λ step there. spares key kept call step among there)

  -- what they computed
  own_left : (context : ℕ) (key : KeyValue) (step : StepText) → Contains (steps_before plan node) step → StoresAt plan (plan_path plan node) step context key → is_removed plan node key ≡ false → (s : ValueState)
      → all_successful (befores_run plan false node path s).calls ≡ true → all_clear (befores_run plan false node path s).state (plan_path plan context) key ≡ false
  own_left context key step held computes kept s good =
      let held_here : Contains (flat_map (steps_of_call plan) befores) step = subst (λ calls. Contains (flat_map (steps_of_call plan) calls) step) same_befores held in
      let from = contains-flat_map_back (steps_of_call plan) befores step held_here in
      let along = plan_path plan context in
      let all : All (On plan node) along = computes_on plan read node context key step within held computes in
      let leaves = computes_leave plan tree node path step context key is (subst (λ p. StoresAt plan p step context key) (sym on) computes) in
      befores_left plan (On plan node) key path along all befores (no_calls s) from.0 (each_keeps key kept) from.1
      (λ t. steps_left (On plan node) key plan.keys path along all (steps_of_call plan from.0) step t (λ other there. spares key kept from.0 other from.1 there) from.2 leaves) good

-- the nodes above a node, and the node itself
above_or_own : (plan : PlanText) (node : ℕ) (path : List ℕ) → IsPathOf (ids_of_nodes plan.nodes) node path → (n : ℕ) → Contains path n → (n ≡ node) ⊎ Contains (drop 1 path) n
above_or_own plan node [] is n among = absurd is
above_or_own plan node (first ∷ above) is n among = elim (contains_cons first above n among) [
  | inl same ↦ inl (sym same ∙ is.0)
  | inr later ↦ inr later
]

-- what they computed and what was computed above stands there or above
pub body_closed : (plan : PlanText) → IsReadPlan plan → (node : ℕ) (path : List ℕ) → IsPathOf (ids_of_nodes plan.nodes) node path → is_some (test_of plan node) ≡ false
    → (o later : Open) (s : ValueState) → IsClosedAbove plan (drop 1 (plan_path plan node)) o s → ((context : ℕ) (key : KeyValue) (v : Given) → later context key ≡ Some v → o context key ≡ Some v)
    → ((context : ℕ) (key : KeyValue) → IsStoredIn plan (node ∷ []) context key → later context key ≡ None)
    → all_successful (befores_run plan false node path s).calls ≡ true
    → IsClosedAbove plan path later (befores_run plan false node path s).state
body_closed plan read node path is container o later s closed fewer own good = record {
  none = λ context key computed. elim (above_or_own plan node path is computed.node computed.among) [
    | inl here ↦ own context key (at_node context key computed here)
    | inr above ↦ none_later (later context key) (o context key) (fewer context key) (closed.none context key (at_above context key computed above))
  ];
  stands = λ context key computed. elim (above_or_own plan node path is computed.node computed.among) [
    | inl here ↦
        let held : Contains (steps_before plan node) computed.step = subst (λ n. Contains (steps_before plan n) computed.step) here computed.held in
        let computes : StoresAt plan (plan_path plan node) computed.step context key = subst (λ n. StoresAt plan (plan_path plan n) computed.step context key) here computed.computes in
        own_left plan read node path is container context key computed.step held computes (ap (λ n. is_removed plan n key) (sym here) ∙ computed.kept) s good
    | inr above ↦
        let n = computed.node in
        clear_kept (On plan n) key s (befores_run plan false node path s).state (all_keep plan read node path is container n key computed.kept above s) (plan_path plan context)
        (computes_on plan read n context key computed.step (on_within plan tree node path n is (behind_first path n above)) computed.held computed.computes)
        (closed.stands context key (at_above context key computed above))
  ];
}
  where
    tree : NodesAreTree plan
    tree = read.runnable.tree

    at_node : (context : ℕ) (key : KeyValue) → (computed : IsStoredIn plan path context key) → computed.node ≡ node → IsStoredIn plan (node ∷ []) context key
    at_node context key computed here = record {
      node = computed.node;
      among = subst (λ n. Contains (node ∷ []) n) (sym here) (contains_here node []);
      step = computed.step;
      held = computed.held;
      computes = computed.computes;
      kept = computed.kept;
    }

    at_above : (context : ℕ) (key : KeyValue) → (computed : IsStoredIn plan path context key) → Contains (drop 1 path) computed.node → IsStoredIn plan (drop 1 (plan_path plan node)) context key
    at_above context key computed above = record {
      node = computed.node;
      among = subst (λ p. Contains (drop 1 p) computed.node) (on plan read node path is container) above;
      step = computed.step;
      held = computed.held;
      computes = computed.computes;
      kept = computed.kept;
    }
