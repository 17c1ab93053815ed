-- A node that was run became what the definition of the plain run makes of it: a test by its calls, a container by its calls and its body.
use Rattle.std.proofs.Common.{◌≡◌, ◌≢◌, ℕ, zero, suc, ◌+◌, ◌-◌, ◌<◌, Bool, true, false, List, [], ◌∷◌, ◌++◌, drop, length, get_or, refl, ap, sym, subst, ◌∙◌, arith, append_assoc}
use Rattle.std.specs.Prelude.{cond, fold, filter, is_some, not, slice_get, slice_set, IsSomeAnd, if◌then◌else◌}
use Rattle.std.specs.List.{AllByRecursion}
use mathlib.Core.Bool.{beq}
use Rattle.std.proofs.lemmas.Grind.{fold-append}
use Rattle.std.proofs.lemmas.List.{drop_more}
use Rattle.ext_plan.specs.Plans.{PlanText}
use Rattle.ext_tree.specs.Trees.{IsTree, IsParentOf, IsPathOf, IsWalk, children_of}
use Rattle.ext_tree.proofs.TreeLaws.{paths_are_unique}
use Rattle.ext_lifecycle.specs.declared.call.Call.{Call}
use Rattle.ext_lifecycle.specs.declared.outcome.Outcome.{Outcome}
use Rattle.ext_lifecycle.specs.declared.tally.Tally.{Tally}
use Rattle.ext_lifecycle.specs.Callbacks.{afters_of, befores_of, test_call}
use Rattle.ext_lifecycle.specs.Endings.{all_successful}
use Rattle.ext_lifecycle.specs.FaultTexts.{NodeOutcome}
use Rattle.ext_lifecycle.specs.Lifecycle.{MakesAll, MakesBefores, MakesCalls, endings_of, tally_of}
use Rattle.ext_plan_plain.specs.declared.callers.NodeCaller.{NodeCaller}
use Rattle.ext_plan_plain.specs.declared.setting.Setting.{Setting}
use Rattle.ext_plan_plain.specs.InnerSteps.{ChildrenRun, ChildrenSpared, DoesCall, EndsNode, IsSpared, NodeRuns, NodeSpared, RunSoFar, TellsLacks, any_child, calls_end, chosen, plan_in, run_with, state_view}
use Rattle.ext_plan.specs.PlanCalls.{registered, test_of, concurrent_of}
use Rattle.ext_plan_plain.specs.NodeCalls.{CallsEnd, afters_run, befores_run, call_run, make_all, make_befores, make_if_successful}
use Rattle.ext_plan_plain.specs.ContextEnds.{faults_of_closes, seal_keys}
use Rattle.ext_plan_plain.specs.PlainRun.{RunState, body_run, container_run, node_end, node_run, outcome_of, test_node_run}
use Rattle.ext_plan_plain.specs.ValueStates.{Memory, ValueState, with_memory}
use Rattle.ext_lifecycle.specs.Modes.{in_run_order}
use Rattle.ext_plan.specs.ReadPlans.{ids_of_nodes}
use Rattle.ext_plan_plain.proofs.Nodes.{child_path, node_run-more, node_run-zero, start_is}
use Rattle.ext_plan_plain.proofs.Below.{all-filter, parents-all}
use Rattle.ext_plan_plain.proofs.Elsewhere.{longer, set-at, siblings-keep}
use Rattle.ext_plan_plain.proofs.Reached.{Stands, set-elsewhere}
use Rattle.ext_plan_plain.proofs.Skipping.{Distinct, distinct-below, not_twice, stands-filter}
use Rattle.ext_plan_plain.proofs.Spared.{Spares, calls-spared, spared-first, texts-are, texts_of}
use Rattle.ext_plan_plain.proofs.Telling.{tells-both, tells-none, tells-same}
use Rattle.ext_plan_plain.proofs.NodeCalls.{Does, all-exact, all-holds, befores-exact, befores-hold, calls-exact, calls-hold, texts-successful}

-- the children of a path's first context, so many levels deep
abbrev pub each_child : PlanText → ℕ → List ℕ → RunState → List ℕ → RunState
each_child plan levels path run children = fold (λ r child. node_run plan levels (child ∷ path) r) run children

-- those that are concurrent, or those that aren't
abbrev pub chosen_of : Setting → Bool → List ℕ → List ℕ
chosen_of setting concurrent children = filter (chosen concurrent (concurrent_of (plan_in setting))) children

-- the caller makes calls of this node
pub record IsAt {L : Type 0} (setting : Setting) (at : ℕ) (c : NodeCaller L) : Type 0 where
  pub setting_is : c.setting ≡ setting
  pub node_is : c.node ≡ at

abbrev pub store_of : {L : Type 0} → List Memory → NodeCaller L → ValueState
store_of memory c = with_memory memory (state_view c.store)

abbrev pub lacked_of : {L : Type 0} → NodeCaller L → Bool
lacked_of c = c.lacked

abbrev pub between : {L : Type 0} → NodeCaller L → List NodeOutcome → RunSoFar
between c results = record { state = state_view c.store; results = results; lacked = c.lacked }

pub does-calls : {L : Type 0} (setting : Setting) (at : ℕ) (path : List ℕ) → IsPathOf setting.tree.now at path → Does (DoesCall {L = L}) (IsAt setting at) store_of lacked_of (call_run (plan_in setting) path)
does-calls setting at path is = record {
  keeps = λ c call o d made here. record { setting_is = made.setting ∙ here.setting_is; node_is = made.node ∙ here.node_is };
  exact = λ c call o d made here later.
      let is_here : IsPathOf c.setting.tree.now c.node path = subst (λ n. IsPathOf c.setting.tree.now n path) (sym here.node_is) (subst (λ (s : Setting). IsPathOf s.tree.now at path) (sym here.setting_is) is) in
      let one = made.end path is_here later in
      (one.0, one.1 ∙ ap (λ (s : Setting). call_run (plan_in s) path call (store_of one.0 c)) here.setting_is, one.2);
}

-- ---- nodes that are spared want of memory

-- the result of a node that is spared, which was put in its place last, so that its calls were spared too
own-spared : (setting : Setting) (at : ℕ) (is_test : Bool) (os : List Outcome) (s : ValueState) (results : List NodeOutcome) (new : RunSoFar) (path : List ℕ) → IsPathOf setting.tree.now at path
    → new.results ≡ (node_end at is_test (calls_end s os) results).results → NodeSpared setting.tree.now path new.results → Spares (texts_of os)
own-spared setting at is_test os s results new path is_path is spared =
    let end = calls_end s os in
    let closed = faults_of_closes end.state.places at (seal_keys end.state.places at end.state) in
    let own = subst (λ rs. IsSomeAnd (slice_get rs at) IsSpared) is (spared.each at [] is_path) in
    subst Spares (texts-are os) (calls-spared at is_test end closed (set-at IsSpared results at (outcome_of at is_test end closed) own))

-- the plan's nodes are those of the tree
tree-is : (setting : Setting) → setting.tree.now ≡ ids_of_nodes (plan_in setting).nodes
tree-is setting = setting.planted

-- what is put in a node's place changes nothing below it
children-keep : (setting : Setting) (at child : ℕ) (path : List ℕ) (results : List NodeOutcome) (x : NodeOutcome) → IsTree setting.tree.now → IsPathOf setting.tree.now at path → IsParentOf setting.tree.now at child
    → NodeSpared setting.tree.now path (slice_set results at x) → NodeSpared setting.tree.now (child ∷ path) results
children-keep setting at child path results x tree is_path parent spared = record {
  each = λ k below under.
      let whole = subst (IsPathOf setting.tree.now k) (sym (append_assoc below (child ∷ []) path)) under in
      let differ : k ≢ at = λ same. longer below child path (paths_are_unique.one_path setting.tree.now k (below ++ child ∷ path) path tree under (subst (λ n. IsPathOf setting.tree.now n path) (sym same) is_path)) in
      subst (λ o. IsSomeAnd o IsSpared) (set-elsewhere results at k x differ) (spared.each k (below ++ child ∷ []) whole);
}

-- nor do its other children, run one after another
others-keep : (setting : Setting) (at levels child : ℕ) (path others : List ℕ) (run : RunState) → IsTree setting.tree.now → IsPathOf setting.tree.now at path → AllByRecursion (IsParentOf setting.tree.now at) others → (¬ Stands child others)
    → NodeSpared setting.tree.now (child ∷ path) (each_child (plan_in setting) levels path run others).results → NodeSpared setting.tree.now (child ∷ path) run.results
others-keep setting at levels child [] others run tree is_path all fresh spared = absurd is_path
others-keep setting at levels child (first ∷ above) others run tree is_path all fresh spared =
    let plan = plan_in setting in
    let same = tree-is setting in
    let walk : IsWalk (ids_of_nodes plan.nodes) first above = subst (λ is. IsWalk is first above) same (subst (λ n. IsWalk setting.tree.now n above) (sym is_path.0) is_path.1) in
    let parents : AllByRecursion (IsParentOf (ids_of_nodes plan.nodes) first) others = subst (λ n. AllByRecursion (IsParentOf (ids_of_nodes plan.nodes) n) others) (sym is_path.0) (subst (λ is. AllByRecursion (IsParentOf is at) others) same all) in
    subst (λ is. NodeSpared is (child ∷ first ∷ above) run.results) (sym same)
    (siblings-keep plan (subst IsTree same tree) IsSpared levels first child above others run walk parents fresh
    (subst (λ is. NodeSpared is (child ∷ first ∷ above) (each_child plan levels (first ∷ above) run others).results) same spared))

-- the children that are chosen
parents-chosen : (setting : Setting) (at : ℕ) (concurrent : Bool) (children : List ℕ) → AllByRecursion (IsParentOf setting.tree.now at) children → AllByRecursion (IsParentOf setting.tree.now at) (chosen_of setting concurrent children)
parents-chosen setting at concurrent children all = all-filter (IsParentOf setting.tree.now at) (chosen concurrent (concurrent_of (plan_in setting))) children all

all-drop : (P : ℕ → Type 0) (n : ℕ) (xs : List ℕ) → AllByRecursion P xs → AllByRecursion P (drop n xs)
all-drop P zero xs all = all
all-drop P (suc n) [] all = tt
all-drop P (suc n) (x ∷ xs) all = all-drop P n xs all.1

-- a child does not stand among those after it
once-after : (i : ℕ) (xs : List ℕ) → i < length xs → Distinct xs → ¬ Stands (get_or xs i 0) (drop (suc i) xs)
once-after i [] within distinct = absurd (omega (arith, within))
once-after zero (x ∷ xs) within distinct = distinct.0
once-after (suc i) (x ∷ xs) within distinct = once-after i xs (omega (arith, within)) distinct.1

once : (i : ℕ) (xs : List ℕ) → i < length xs → Distinct xs → ¬ Stands (get_or xs i 0) (drop (i + 1) xs)
once i xs within distinct = let e : suc i ≡ i + 1 = omega arith in subst (λ n. ¬ Stands (get_or xs i 0) (drop n xs)) e (once-after i xs within distinct)

pub test-runs : {L : Type 0} (setting : Setting) (at : ℕ) (p one two : List ℕ) (befores afters : List Call) (c d : NodeCaller L) (os : List Outcome) (tally : Tally) (results : List NodeOutcome) (new : RunSoFar)
    → IsTree setting.tree.now → IsPathOf setting.tree.now at p → one ≡ p → two ≡ p → befores ≡ befores_of (registered (plan_in setting)) true at one → afters ≡ afters_of (registered (plan_in setting)) true at two
    → IsAt setting at c → MakesCalls DoesCall befores (test_call at) afters c os d → tally ≡ tally_of os → EndsNode d.setting at true tally (between d results) new
    → NodeRuns setting at (test_node_run (plan_in setting) at) (between c results) new
test-runs setting at p one two befores afters c d os tally results new tree is_p one_is two_is befores_are afters_are here made tallied ended = record {
  each = λ path is_path later.
      let plan = plan_in setting in
      let same : p ≡ path = paths_are_unique.one_path setting.tree.now at p path tree is_p is_path in
      let run = call_run plan path in
      let does = does-calls setting at path is_path in
      let after = calls-hold DoesCall (IsAt setting at) store_of lacked_of run does befores (test_call at) afters c os d made here in
      let firsts : befores ≡ befores_of (registered plan) true at path = befores_are ∙ ap (befores_of (registered plan) true at) (one_is ∙ same) in
      let lasts : afters ≡ afters_of (registered plan) true at path = afters_are ∙ ap (afters_of (registered plan) true at) (two_is ∙ same) in
      let exact = calls-exact DoesCall (IsAt setting at) store_of lacked_of run does befores (test_call at) afters c os d made here later in
      let start = calls_end (store_of exact.0 c) [] in
      let calls : calls_end (store_of later d) os ≡ make_all run (afters_of (registered plan) true at path) (make_if_successful run (make_befores run (befores_of (registered plan) true at path) start) (test_call at)) =
      sym exact.1 ∙ ap (λ l. make_all run l (make_if_successful run (make_befores run befores start) (test_call at))) lasts
      ∙ ap (λ l. make_all run (afters_of (registered plan) true at path) (make_if_successful run (make_befores run l start) (test_call at))) firsts in (
        exact.0,
        ended.each os tallied later
            ∙ ap (λ e. node_end at true e results) calls,
        tells-same c.lacked c.lacked d.lacked new.lacked exact.0 later (Spares (texts_of os)) (NodeSpared setting.tree.now path new.results) refl ended.same
            (own-spared setting at true os (store_of later d) results new path is_path (ap (λ (r : RunState). r.results) (ended.each os tallied later))) exact.2,
      );
}

pub container-runs : {L : Type 0} (setting : Setting) (at : ℕ) (p one two : List ℕ) (befores afters : List Call) (c d e f g : NodeCaller L) (first third : List Outcome) (tally : Tally) (results left : List NodeOutcome) (go : Bool)
    (path_run : Setting → List ℕ → RunState → RunState) (new : RunSoFar)
    → IsTree setting.tree.now → IsPathOf setting.tree.now at p → one ≡ p → two ≡ p → befores ≡ befores_of (registered (plan_in setting)) false at one → afters ≡ afters_of (registered (plan_in setting)) false at two
    → IsAt setting at c → MakesBefores DoesCall befores c first d
    → go ≡ all_successful (endings_of first) → ChildrenRun d.setting at any_child (body_run (plan_in d.setting) (path_run d.setting) go) (between d results) (between e left) → e.setting ≡ d.setting
    → f.store ≡ e.store → f.setting ≡ e.setting → f.lacked ≡ e.lacked → f.node ≡ at
    → MakesAll DoesCall afters f third g → tally ≡ tally_of (first ++ third) → EndsNode g.setting at false tally (between g left) new
    → NodeRuns setting at (container_run (plan_in setting) (path_run setting) at) (between c results) new
container-runs setting at p one two befores afters c d e f g first third tally results left go path_run new tree is_p one_is two_is befores_are afters_are here made going body kept stored setting_kept lacked_kept there closing tallied ended = record {
  each = λ path is_path later.
      let plan = plan_in setting in
      let same : p ≡ path = paths_are_unique.one_path setting.tree.now at p path tree is_p is_path in
      let run = call_run plan path in
      let does = does-calls setting at path is_path in
      let opened = befores-hold DoesCall (IsAt setting at) store_of lacked_of run does befores c first d made here in
      let back : IsAt setting at f = record { setting_is = setting_kept ∙ kept ∙ opened.setting_is; node_is = there } in
      let last = all-holds DoesCall (IsAt setting at) store_of lacked_of run does afters f third g closing back in
      let firsts : befores ≡ befores_of (registered plan) false at path = befores_are ∙ ap (befores_of (registered plan) false at) (one_is ∙ same) in
      let lasts : afters ≡ afters_of (registered plan) false at path = afters_are ∙ ap (afters_of (registered plan) false at) (two_is ∙ same) in
      let closed = all-exact DoesCall (IsAt setting at) store_of lacked_of run does afters f third g first closing back later in
      let is_there : IsPathOf d.setting.tree.now at path = subst (λ (s : Setting). IsPathOf s.tree.now at path) (sym opened.setting_is) is_path in
      let middle = body.each path is_there closed.0 in
      let begin = befores-exact DoesCall (IsAt setting at) store_of lacked_of run does befores c first d [] refl made here middle.0 in
      let begun : calls_end (store_of middle.0 d) first ≡ befores_run plan false at path (store_of begin.0 c) =
      sym begin.1 ∙ ap (λ l. make_befores run l (calls_end (store_of begin.0 c) [])) firsts in
      let go_on : all_successful (calls_end (store_of middle.0 d) first).calls ≡ go = texts-successful (endings_of first) ∙ sym going in
      let bodied : run_with closed.0 (between e left) ≡ body_run plan (path_run setting) (all_successful (calls_end (store_of middle.0 d) first).calls) path (run_with middle.0 (between d results)) =
      middle.1 ∙ ap (λ (s : Setting). body_run (plan_in s) (path_run s) go path (run_with middle.0 (between d results))) opened.setting_is
      ∙ ap (λ b. body_run plan (path_run setting) b path (run_with middle.0 (between d results))) (sym go_on) in
      let ends : CallsEnd → RunState → RunState = λ before b. node_end at false (afters_run plan false at path (record { state = b.state; calls = before.calls; computed = before.computed; found = before.found })) b.results in
      let whole : CallsEnd → RunState = λ before. ends before (body_run plan (path_run setting) (all_successful before.calls) path (record { state = before.state; results = results })) in
      let whole_spared : Type 0 = NodeSpared setting.tree.now path new.results in
      let new_is : new.results ≡ (node_end at false (calls_end (store_of later g) (first ++ third)) left).results = ap (λ (r : RunState). r.results) (ended.each (first ++ third) tallied later) in
      let all_spared : whole_spared → Spares (texts_of (first ++ third)) = own-spared setting at false (first ++ third) (store_of later g) left new path is_path new_is in
      let last_end = calls_end (store_of later g) (first ++ third) in
      let own = outcome_of at false last_end (faults_of_closes last_end.state.places at (seal_keys last_end.state.places at last_end.state)) in
      let below_spared : whole_spared → ChildrenSpared d.setting.tree.now at any_child path left =
      λ spared. subst (λ (s : Setting). ChildrenSpared s.tree.now at any_child path left) (sym opened.setting_is)
      (λ child parent among. children-keep setting at child path left own tree is_path parent (subst (NodeSpared setting.tree.now path) new_is spared)) in
      let calls : calls_end (store_of later g) (first ++ third) ≡ make_all run (afters_of (registered plan) false at path) (calls_end (store_of closed.0 e) first) =
      sym closed.1
      ∙ ap (λ l. make_all run l (calls_end (store_of closed.0 f) first)) lasts ∙ ap (λ st. make_all run (afters_of (registered plan) false at path) (calls_end (with_memory closed.0 (state_view st)) first)) stored in (
        begin.0,
        ended.each (first ++ third) tallied later
            ∙ ap (λ x. node_end at false x left) calls
            ∙ ap (ends (calls_end (store_of middle.0 d) first)) bodied
            ∙ ap whole begun,
        tells-same c.lacked c.lacked g.lacked new.lacked begin.0 later whole_spared whole_spared refl ended.same (λ spared. spared)
            (tells-both c.lacked d.lacked g.lacked begin.0 middle.0 later (Spares (texts_of first)) whole_spared whole_spared (λ spared. spared-first first third (all_spared spared)) (λ spared. spared) begin.2
            (tells-both d.lacked e.lacked g.lacked middle.0 closed.0 later (ChildrenSpared d.setting.tree.now at any_child path left) whole_spared whole_spared below_spared (λ spared. spared) middle.2
            (tells-same f.lacked e.lacked g.lacked g.lacked closed.0 later (Spares (texts_of (first ++ third))) whole_spared (sym lacked_kept) refl all_spared closed.2))),
      );
}

-- ---- calls keep the setting

pub calls-setting : {L : Type 0} (setting : Setting) (at : ℕ) (p : List ℕ) (befores : List Call) (body : Call) (afters : List Call) (c d : NodeCaller L) (os : List Outcome) → IsPathOf setting.tree.now at p → IsAt setting at c
    → MakesCalls DoesCall befores body afters c os d → d.setting ≡ setting
calls-setting setting at p befores body afters c d os is here made =
    (calls-hold DoesCall (IsAt setting at) store_of lacked_of (call_run (plan_in setting) p) (does-calls setting at p is) befores body afters c os d made here).setting_is

pub befores-setting : {L : Type 0} (setting : Setting) (at : ℕ) (p : List ℕ) (befores : List Call) (c d : NodeCaller L) (os : List Outcome) → IsPathOf setting.tree.now at p → IsAt setting at c → MakesBefores DoesCall befores c os d → d.setting ≡ setting
befores-setting setting at p befores c d os is here made =
    (befores-hold DoesCall (IsAt setting at) store_of lacked_of (call_run (plan_in setting) p) (does-calls setting at p is) befores c os d made here).setting_is

pub afters-setting : {L : Type 0} (setting : Setting) (at : ℕ) (p : List ℕ) (afters : List Call) (c d : NodeCaller L) (os : List Outcome) → IsPathOf setting.tree.now at p → IsAt setting at c → MakesAll DoesCall afters c os d → d.setting ≡ setting
afters-setting setting at p afters c d os is here made =
    (all-holds DoesCall (IsAt setting at) store_of lacked_of (call_run (plan_in setting) p) (does-calls setting at p is) afters c os d made here).setting_is

-- ---- children, one after another

-- the chosen children are spared, once those are run that are still to be run
abbrev pub SparedIn : Setting → ℕ → ℕ → Bool → List ℕ → List ℕ → RunState → Type 0
SparedIn setting at levels concurrent rest path run =
    ChildrenSpared setting.tree.now at (chosen concurrent (concurrent_of (plan_in setting))) path (each_child (plan_in setting) levels path run (chosen_of setting concurrent rest)).results

-- what is still to be run of the children makes the run of all of them
pub record StillRuns (setting : Setting) (at levels : ℕ) (concurrent : Bool) (children rest : List ℕ) (old now : RunSoFar) : Type 0 where
  pub each : (path : List ℕ) → IsPathOf setting.tree.now at path → (later : List Memory)
      → (memory : List Memory) × (each_child (plan_in setting) levels path (run_with memory old) (chosen_of setting concurrent children) ≡ each_child (plan_in setting) levels path (run_with later now) (chosen_of setting concurrent rest))
      × TellsLacks old.lacked now.lacked memory later (SparedIn setting at levels concurrent rest path (run_with later now))

pub none-run : (setting : Setting) (at levels : ℕ) (concurrent : Bool) (children rest : List ℕ) (old : RunSoFar) → children ≡ rest → StillRuns setting at levels concurrent children rest old old
none-run setting at levels concurrent children rest old same = record { each = λ path is_path later. (later, ap (λ cs. each_child (plan_in setting) levels path (run_with later old) (chosen_of setting concurrent cs)) same, tells-none old.lacked later (SparedIn setting at levels concurrent rest path (run_with later old))) }

chosen-is : (concurrent x b : Bool) (f : ℕ → Bool) (child : ℕ) → x ≡ f child → beq x concurrent ≡ b → chosen concurrent f child ≡ b
chosen-is true true b f child is same = sym is ∙ same
chosen-is true false b f child is same = sym is ∙ same
chosen-is false true b f child is same = ap not (sym is) ∙ same
chosen-is false false b f child is same = ap not (sym is) ∙ same

-- a child that is run now
pub still-run : (setting : Setting) (at levels : ℕ) (concurrent x : Bool) (children : List ℕ) (i : ℕ) (old now next : RunSoFar) → IsTree setting.tree.now → children ≡ children_of setting.tree.now at → i < length children → IsParentOf setting.tree.now at (get_or children i 0)
    → x ≡ concurrent_of (plan_in setting) (get_or children i 0) → beq x concurrent ≡ true → NodeRuns setting (get_or children i 0) (node_run (plan_in setting) levels) now next
    → StillRuns setting at levels concurrent children (drop i children) old now → StillRuns setting at levels concurrent children (drop (i + 1) children) old next
still-run setting at levels concurrent x children i old now next tree children_are within parent is same ran still = record {
  each = λ path is_path later.
      let child = get_or children i 0 in
      let rest = chosen_of setting concurrent (drop (i + 1) children) in
      let chosen_one : chosen concurrent (concurrent_of (plan_in setting)) child ≡ true = chosen-is concurrent x true (concurrent_of (plan_in setting)) child is same in
      let one = ran.each (child ∷ path) (child_path setting.tree.now at child path is_path parent) later in
      let before = still.each path is_path one.0 in
      let moved : each_child (plan_in setting) levels path (run_with one.0 now) (chosen_of setting concurrent (drop i children)) ≡ each_child (plan_in setting) levels path (run_with later next) rest =
      ap (λ cs. each_child (plan_in setting) levels path (run_with one.0 now) (chosen_of setting concurrent cs)) (drop_more children i 0 within)
      ∙ ap (λ b. each_child (plan_in setting) levels path (run_with one.0 now) (cond b (child ∷ rest) rest)) chosen_one
      ∙ ap (λ r. each_child (plan_in setting) levels path r rest) (sym one.1) in
      let among = chosen concurrent (concurrent_of (plan_in setting)) in
      let parents = all-drop (IsParentOf setting.tree.now at) (i + 1) children (subst (AllByRecursion (IsParentOf setting.tree.now at)) (sym children_are) (parents-all setting.tree.now at parent.parent_within)) in
      let fresh : ¬ Stands child rest = λ there. once i children within (subst Distinct (sym children_are) (distinct-below setting.tree.now at (length setting.tree.now))) (stands-filter among (drop (i + 1) children) child there).0 in
      let after : Type 0 = SparedIn setting at levels concurrent (drop (i + 1) children) path (run_with later next) in
      let earlier : after → SparedIn setting at levels concurrent (drop i children) path (run_with one.0 now) =
      λ spared other is_parent is_among. subst (λ (r : RunState). NodeSpared setting.tree.now (other ∷ path) r.results) (sym moved) (spared other is_parent is_among) in
      let own : after → NodeSpared setting.tree.now (child ∷ path) next.results =
      λ spared. others-keep setting at levels child path rest (run_with later next) tree is_path (parents-chosen setting at concurrent (drop (i + 1) children) parents) fresh (spared child parent chosen_one) in (
        before.0,
        before.1 ∙ moved,
        tells-both old.lacked now.lacked next.lacked before.0 one.0 later (SparedIn setting at levels concurrent (drop i children) path (run_with one.0 now)) (NodeSpared setting.tree.now (child ∷ path) next.results) after earlier own before.2 one.2,
      );
}

-- or that isn't
pub still-waits : (setting : Setting) (at levels : ℕ) (concurrent x : Bool) (children : List ℕ) (i : ℕ) (old now : RunSoFar) → i < length children
    → x ≡ concurrent_of (plan_in setting) (get_or children i 0) → beq x concurrent ≡ false
    → StillRuns setting at levels concurrent children (drop i children) old now → StillRuns setting at levels concurrent children (drop (i + 1) children) old now
still-waits setting at levels concurrent x children i old now within is same still = record {
  each = λ path is_path later.
      let child = get_or children i 0 in
      let rest = chosen_of setting concurrent (drop (i + 1) children) in
      let chosen_one : chosen concurrent (concurrent_of (plan_in setting)) child ≡ false = chosen-is concurrent x false (concurrent_of (plan_in setting)) child is same in
      let before = still.each path is_path later in
      let moved : each_child (plan_in setting) levels path (run_with later now) (chosen_of setting concurrent (drop i children)) ≡ each_child (plan_in setting) levels path (run_with later now) rest =
      ap (λ cs. each_child (plan_in setting) levels path (run_with later now) (chosen_of setting concurrent cs)) (drop_more children i 0 within)
      ∙ ap (λ b. each_child (plan_in setting) levels path (run_with later now) (cond b (child ∷ rest) rest)) chosen_one in
      let earlier : SparedIn setting at levels concurrent (drop (i + 1) children) path (run_with later now) → SparedIn setting at levels concurrent (drop i children) path (run_with later now) =
      λ spared other is_parent is_among. subst (λ (r : RunState). NodeSpared setting.tree.now (other ∷ path) r.results) (sym moved) (spared other is_parent is_among) in (
        before.0,
        before.1 ∙ moved,
        tells-same old.lacked old.lacked now.lacked now.lacked before.0 later (SparedIn setting at levels concurrent (drop i children) path (run_with later now)) (SparedIn setting at levels concurrent (drop (i + 1) children) path (run_with later now)) refl refl earlier before.2,
      );
}

-- the concurrent ones and then the others
pub both-run : (setting other : Setting) (at levels : ℕ) (old mid new : RunSoFar) → IsTree setting.tree.now → at < length setting.tree.now → other ≡ setting
    → ChildrenRun setting at (chosen true (concurrent_of (plan_in setting))) (λ path run. each_child (plan_in setting) levels path run (chosen_of setting true (children_of setting.tree.now at))) old mid
    → ChildrenRun other at (chosen false (concurrent_of (plan_in other))) (λ path run. each_child (plan_in other) levels path run (chosen_of other false (children_of other.tree.now at))) mid new
    → ChildrenRun setting at any_child (body_run (plan_in setting) (node_run (plan_in setting) levels) true) old new
both-run setting other at levels old mid new tree within same first second = record {
  each = λ path is_path later.
      let plan = plan_in setting in
      let ids = children_of setting.tree.now at in
      let two = (subst (λ (s : Setting). ChildrenRun s at (chosen false (concurrent_of (plan_in s))) (λ path run. each_child (plan_in s) levels path run (chosen_of s false (children_of s.tree.now at))) mid new) same second).each path is_path later in
      let one = first.each path is_path two.0 in
      let start = start_is setting.tree.now at path is_path in
      let whole : each_child plan levels path (run_with one.0 old) (chosen_of setting true ids ++ chosen_of setting false ids) ≡ each_child plan levels path (each_child plan levels path (run_with one.0 old) (chosen_of setting true ids)) (chosen_of setting false ids) =
      fold-append (λ r child. node_run plan levels (child ∷ path) r) (run_with one.0 old) (chosen_of setting true ids) (chosen_of setting false ids) in
      let whole_spared : Type 0 = ChildrenSpared setting.tree.now at any_child path new.results in
      let firsts : whole_spared → ChildrenSpared setting.tree.now at (chosen true (concurrent_of plan)) path mid.results =
      λ spared child parent is_concurrent.
      let fresh : ¬ Stands child (chosen_of setting false ids) = λ there. not_twice (concurrent_of plan child) is_concurrent (stands-filter (chosen false (concurrent_of plan)) ids child there).1 in
      others-keep setting at levels child path (chosen_of setting false ids) (run_with two.0 mid) tree is_path (parents-chosen setting at false ids (parents-all setting.tree.now at within)) fresh
      (subst (λ (r : RunState). NodeSpared setting.tree.now (child ∷ path) r.results) two.1 (spared child parent refl)) in
      let seconds : whole_spared → ChildrenSpared setting.tree.now at (chosen false (concurrent_of plan)) path new.results = λ spared child parent is_other. spared child parent refl in (
        one.0,
        two.1 ∙ ap (λ r. each_child plan levels path r (chosen_of setting false ids)) one.1 ∙ sym whole
            ∙ ap (λ cs. each_child plan levels path (run_with one.0 old) (in_run_order (concurrent_of plan) cs)) (ap (λ is. children_of is at) setting.planted ∙ ap (children_of (ids_of_nodes plan.nodes)) (sym start)),
        tells-both old.lacked mid.lacked new.lacked one.0 two.0 later (ChildrenSpared setting.tree.now at (chosen true (concurrent_of plan)) path mid.results) (ChildrenSpared setting.tree.now at (chosen false (concurrent_of plan)) path new.results) whole_spared firsts seconds one.2 two.2,
      );
}

-- or none of them, where the body is skipped
pub none-runs : (setting : Setting) (at levels : ℕ) (go : Bool) (old : RunSoFar) → go ≡ false → ChildrenRun setting at any_child (body_run (plan_in setting) (node_run (plan_in setting) levels) go) old old
none-runs setting at levels go old stop = record { each = λ path is_path later. (later, sym (ap (λ b. body_run (plan_in setting) (node_run (plan_in setting) levels) b path (run_with later old)) stop), tells-none old.lacked later (ChildrenSpared setting.tree.now at any_child path old.results)) }

pub all-run : (setting : Setting) (at levels : ℕ) (concurrent : Bool) (children rest : List ℕ) (old now : RunSoFar) → children ≡ children_of setting.tree.now at → rest ≡ [] → StillRuns setting at levels concurrent children rest old now
    → ChildrenRun setting at (chosen concurrent (concurrent_of (plan_in setting))) (λ path run. each_child (plan_in setting) levels path run (chosen_of setting concurrent (children_of setting.tree.now at))) old now
all-run setting at levels concurrent children rest old now are none still = record {
  each = λ path is_path later.
      let before = still.each path is_path later in (
        before.0,
        sym (ap (λ cs. each_child (plan_in setting) levels path (run_with before.0 old) (chosen_of setting concurrent cs)) (sym are) ∙ before.1
            ∙ ap (λ cs. each_child (plan_in setting) levels path (run_with later now) (chosen_of setting concurrent cs)) none),
        tells-same old.lacked old.lacked now.lacked now.lacked before.0 later (SparedIn setting at levels concurrent rest path (run_with later now)) (ChildrenSpared setting.tree.now at (chosen concurrent (concurrent_of (plan_in setting))) path now.results) refl refl
            (subst (λ cs. ChildrenSpared setting.tree.now at (chosen concurrent (concurrent_of (plan_in setting))) path now.results → SparedIn setting at levels concurrent cs path (run_with later now)) (sym none) (λ spared. spared)) before.2,
      );
}

-- ---- a node, a test or a container

pub no_levels-run : (setting : Setting) (at levels : ℕ) (old : RunSoFar) → levels ≡ 0 → NodeRuns setting at (node_run (plan_in setting) levels) old old
no_levels-run setting at levels old none = record {
  each = λ path is_path later. (later, sym (ap (λ n. node_run (plan_in setting) n path (run_with later old)) none ∙ node_run-zero (plan_in setting) path (run_with later old)), tells-none old.lacked later (NodeSpared setting.tree.now path old.results));
}

pub node-by : (setting : Setting) (at levels : ℕ) (is_test : Bool) (old new : RunSoFar) → levels ≢ 0 → is_some (test_of (plan_in setting) at) ≡ is_test
    → NodeRuns setting at (λ path run. if is_test then test_node_run (plan_in setting) at path run else container_run (plan_in setting) (node_run (plan_in setting) (levels - 1)) at path run) old new
    → NodeRuns setting at (node_run (plan_in setting) levels) old new
node-by setting at levels is_test old new some is ran = record {
  each = λ path is_path later.
      let one = ran.each path is_path later in
      (one.0, one.1 ∙ sym (node_run-more (plan_in setting) levels path (run_with one.0 old) at is_test some (start_is setting.tree.now at path is_path) is), one.2);
}
