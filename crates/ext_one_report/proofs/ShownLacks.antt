-- A run whose results tell of no step that may have lacked something lacks nothing: each node tells so of its own calls and closes, and each node that ran has its result.
use Rattle.std.proofs.Common.{◌≡◌, inl, inr, ◌∙◌, ℕ, zero, suc, Bool, true, false, List, [], ◌∷◌, ◌++◌, Contains, map, map-id, min, length, Option, Some, None, ap, sym, subst, true≢false}
use Rattle.std.specs.Prelude.{slice_get, slice_index_or}
use Rattle.std.specs.List.{AllByRecursion, FoldsTo, flat_map}
use Rattle.std.proofs.lemmas.List.{length-map}
use Rattle.std.proofs.lemmas.List.Sorted.{Contains-permutation}
use Rattle.ext_history.proofs.Lists.{contains_here, contains_later}
use Rattle.ext_model.specs.declared.look.Fault.{Fault}
use Rattle.ext_tree.specs.Trees.{IsTree}
use Rattle.ext_lifecycle.specs.declared.call.Call.{Call}
use Rattle.ext_lifecycle.specs.declared.outcome.Outcome.{Outcome}
use Rattle.ext_lifecycle.specs.Endings.{all_successful}
use Rattle.ext_lifecycle.specs.FaultTexts.{fault_text}
use Rattle.ext_lifecycle.specs.Lifecycle.{MakesAll, MakesBefores, MakesCalls, MakesIf, computed_in, endings_of, found_in}
use Rattle.ext_lifecycle.specs.Results.{ResultOf, close_ending, map_fault}
use Rattle.ext_locks.specs.Opening.{LocksView}
use Rattle.ext_locks.specs.Sets.{HeldView}
use Rattle.ext_plan.specs.LockNames.{lock_names}
use Rattle.ext_plan.specs.Plans.{PlanText}
use Rattle.ext_plan.specs.ReadPlans.{IsReadPlan}
use Rattle.ext_plan_plain.proofs.Spared.{neither}
use Rattle.ext_store.specs.Stores.{StoreView}
use Rattle.ext_closing.specs.Closing.{CallIf, Closing, ClosesOne}
use Rattle.ext_crew.specs.Dealing.{RunByDealing}
use Rattle.ext_crew.proofs.Runs.{run-map}
use Rattle.ext_engine.specs.RunLaws.{IsOneEach}
use Rattle.ext_engine.specs.TreeRun.{BodyRun, ClosesNode, ContainerRun, Lanes, MakesOn, OnFirst, Ran, TestRun, TreeRun, TreeSetting, all_results, concurrent_children, with_lanes}
use Rattle.ext_engine.proofs.Grown.{Entry}
use Rattle.ext_engine.proofs.RunLaws.{one_result_each}
use Rattle.ext_engine.proofs.GrownRuns.{grown}
use Rattle.ext_plan_parallel.specs.declared.steps.stored_value.StoredValue.{StoredValue}
use Rattle.ext_plan_parallel.specs.Lacking.{may_have_lacked}
use Rattle.ext_plan_parallel.specs.ParallelRun.{ClosesValue, ParallelRun, setting_of_plan}
use Rattle.ext_plan_parallel.specs.PlanSuites.{suite_of}
use Rattle.ext_plan_parallel.specs.StoreCalls.{PlanLane, stored_view}
use Rattle.ext_plan_parallel.proofs.Runnable.{tree_runnable}
use Rattle.ext_plan.specs.Values.{close_fault}
use Rattle.ext_one_report.specs.FullRuns.{CallsFully, ClosesFully, full_setting}
use Rattle.ext_one_report.specs.ShownLacks.{TellsLacks}
use Rattle.ext_one_report.proofs.ShownLacksOfNode.{AllSpared, AnswerSpared, NodeSpared, answers-spared, call-fully, close-answers, endings-spared}

-- ---- lists

module _ {X : Type 0} (P : X → Type 0) where
  all-first : (xs ys : List X) → AllByRecursion P (xs ++ ys) → AllByRecursion P xs × AllByRecursion P ys
  all-first [] ys all = (tt, all)
  all-first (x ∷ xs) ys all = let rest = all-first xs ys all.1 in ((all.0, rest.0), rest.1)

  all-contained : (xs : List X) → ((x : X) → Contains xs x → P x) → AllByRecursion P xs
  all-contained [] each = tt
  all-contained (x ∷ xs) each = (each x (contains_here x xs), all-contained xs (λ y there. each y (contains_later x xs y there)))

  -- one of several lists
  all-of : (lists : List (List X)) (i : ℕ) (one : List X) → slice_get lists i ≡ Some one → AllByRecursion P (flat_map (λ xs. xs) lists) → AllByRecursion P one
  all-of [] i one is all = absurd cc
  all-of (xs ∷ lists) zero one is all = let same : xs ≡ one = cc is in subst (AllByRecursion P) same (all-first xs (flat_map (λ ys. ys) lists) all).0
  all-of (xs ∷ lists) (suc i) one is all = all-of lists i one is (all-first xs (flat_map (λ ys. ys) lists) all).1

-- nodes that ran, none of which tells that it may have lacked something
abbrev RanSpared : List Ran → Type 0
RanSpared ran = AllByRecursion (λ r. NodeSpared r.result) ran

abbrev OutcomesSpared : List Outcome → Type 0
OutcomesSpared outcomes = AllSpared (endings_of outcomes)

outcomes-append : (xs ys : List Outcome) → OutcomesSpared (xs ++ ys) → OutcomesSpared xs × OutcomesSpared ys
outcomes-append [] ys all = (tt, all)
outcomes-append (x ∷ xs) ys all = let rest = outcomes-append xs ys all.1 in ((all.0, rest.0), rest.1)

module _ (plan : PlanText) (store : StoreView) (locks : LocksView) where
  abbrev plain_setting : TreeSetting StoredValue ℕ
  plain_setting = setting_of_plan plan store locks

  abbrev fully : TreeSetting StoredValue ℕ
  fully = full_setting plan store locks (CallsFully plan store)

  -- ---- the calls of a node

  module _ (node : ℕ) (held : Option HeldView) where
    abbrev Made : PlanLane → Call → Outcome → PlanLane → Type 0
    Made = MakesOn plain_setting node held

    abbrev Full : PlanLane → Call → Outcome → PlanLane → Type 0
    Full = MakesOn fully node held

    all_full : (calls : List Call) (a : PlanLane) (outcomes : List Outcome) (b : PlanLane) → MakesAll Made calls a outcomes b → OutcomesSpared outcomes → MakesAll Full calls a outcomes b
    all_full [] a outcomes b made spared = made
    all_full (call ∷ calls) a outcomes b made spared =
        let each = subst OutcomesSpared made.3 spared in
        (made.0, made.1, made.2, made.3, call-fully plan store node call held a made.0 made.2 made.4 each.0, all_full calls made.2 made.1 b made.5 each.1)

    befores_full : (calls : List Call) (a : PlanLane) (outcomes : List Outcome) (b : PlanLane) → MakesBefores Made calls a outcomes b → OutcomesSpared outcomes → MakesBefores Full calls a outcomes b
    befores_full [] a outcomes b made spared = made
    befores_full (call ∷ calls) a outcomes b made spared =
        let each = subst OutcomesSpared made.3 spared in
        (made.0, made.1, made.2, made.3, call-fully plan store node call held a made.0 made.2 made.4 each.0, ((λ on. befores_full calls made.2 made.1 b (made.5.0 on) each.1), made.5.1))

    if_full : (go : Bool) (call : Call) (a : PlanLane) (outcomes : List Outcome) (b : PlanLane) → MakesIf Made go call a outcomes b → OutcomesSpared outcomes → MakesIf Full go call a outcomes b
    if_full go call a outcomes b made spared = record { made = λ on. all_full (call ∷ []) a outcomes b (made.made on) spared; skipped = made.skipped }

    calls_full : (befores : List Call) (body : Call) (afters : List Call) (a : PlanLane) (outcomes : List Outcome) (b : PlanLane) → MakesCalls Made befores body afters a outcomes b → OutcomesSpared outcomes
        → MakesCalls Full befores body afters a outcomes b
    calls_full befores body afters a outcomes b made spared =
        let all = outcomes-append (made.first ++ made.second) made.third (subst OutcomesSpared made.all spared) in
        let opening = outcomes-append made.first made.second all.0 in
        record {
          first = made.first;
          second = made.second;
          third = made.third;
          opened = made.opened;
          closing = made.closing;
          befores_made = befores_full befores a made.first made.opened made.befores_made opening.0;
          body_made = if_full (all_successful (endings_of made.first)) body made.opened made.second made.closing made.body_made opening.1;
          afters_made = all_full afters made.closing made.third b made.afters_made all.1;
          all = made.all;
        }

  -- a change of the first lane
  first_full : (Q Q' : PlanLane → PlanLane → Type 0) (xs ys : List PlanLane) → ((a b : PlanLane) → Q a b → Q' a b) → OnFirst Q xs ys → OnFirst Q' xs ys
  first_full Q Q' xs ys turn on = record { lane = on.lane; left = on.left; rest = on.rest; first_was = on.first_was; change = turn on.lane on.left on.change; first_is = on.first_is }

  -- ---- closes

  module _ (lanes : List PlanLane) where
    abbrev ClosesSo : Closing ℕ → ℕ → Closing ℕ → Type 0
    ClosesSo = ClosesOne plain_setting.is_closeable ClosesValue lanes

    abbrev ClosesAll : Closing ℕ → ℕ → Closing ℕ → Type 0
    ClosesAll = ClosesOne fully.is_closeable ClosesFully lanes

    call_full : (closeable : Bool) (number : ℕ) (value : StoredValue) (s t : Closing ℕ) → CallIf plain_setting.is_closeable ClosesValue closeable number value s t → AllByRecursion AnswerSpared t.answers
        → CallIf fully.is_closeable ClosesFully closeable number value s t × AllByRecursion AnswerSpared s.answers
    call_full true number value s t made spared =
        let both = all-first AnswerSpared s.answers (made.0 ∷ []) (subst (AllByRecursion AnswerSpared) made.2 spared) in
        ((made.0, (close-answers (close_fault (stored_view value)) made.0 made.1.0 both.1.0, made.1.1), made.2), both.0)
    call_full false number value s t same spared = (same, subst (λ (c : Closing ℕ). AllByRecursion AnswerSpared c.answers) same spared)

    closes_full : (numbers : List ℕ) (s t : Closing ℕ) → FoldsTo ClosesSo s numbers t → AllByRecursion AnswerSpared t.answers → FoldsTo ClosesAll s numbers t × AllByRecursion AnswerSpared s.answers
    closes_full [] s t same spared = (same, subst (λ (c : Closing ℕ). AllByRecursion AnswerSpared c.answers) (sym same) spared)
    closes_full (number ∷ numbers) s t run spared =
        let rest = closes_full numbers run.0 t run.2 spared in
        let one = run.1 in
        let here = call_full (plain_setting.is_closeable one.0) number one.0 s run.0 one.2 rest.1 in
        ((run.0, (one.0, one.1, here.0), rest.0), here.1)

  close_full : (node : ℕ) (before : List PlanLane) (told : List (Option Fault)) (after : List PlanLane) → ClosesNode plain_setting node before told after → AllSpared (map close_ending told) → ClosesNode fully node before told after
  close_full node before told after c spared =
      let c_closes = c.closes.closes in
      let answers = answers-spared c_closes.answers (subst (λ l. AllSpared (map close_ending l)) c.faults_are spared) in
      let calls = closes_full after _ _ _ c_closes.calls answers in
      record {
        closer = c.closer;
        closer_is = c.closer_is;
        context_is = c.context_is;
        action = c.action;
        action_is = c.action_is;
        action_left = c.action_left;
        closed = c.closed;
        closes = record {
          stops = tt;
          sealed = c.closes.sealed;
          own_events = c.closes.own_events;
          closes = record { answers = c_closes.answers; calls = calls.0; counts = c_closes.counts };
          unjoined = tt;
          handed_back = tt;
          not_called = tt;
          lanes = c.closes.lanes;
          own_lanes = c.closes.own_lanes;
          kept = c.closes.kept;
        };
        faults_are = c.faults_are;
      }

  -- ---- nodes

  test_full : (node : ℕ) (path : List ℕ) (before : Lanes StoredValue) (ran : List Ran) (after : Lanes StoredValue) → TestRun plain_setting node path before ran after → RanSpared ran → TestRun fully node path before ran after
  test_full node path before ran after run spared =
      let own = (subst RanSpared run.ran_is spared).0 in
      let both = endings-spared node true (endings_of run.outcomes) (computed_in run.outcomes) (found_in run.outcomes) run.faults own in
      record {
        set = run.set;
        set_is = run.set_is;
        held = run.held;
        locked = run.locked;
        takes = run.takes;
        outcomes = run.outcomes;
        called = run.called;
        calls = first_full _ _ before.first run.called (λ a b made. calls_full node (Some run.held) _ _ _ a run.outcomes b made both.0) run.calls;
        faults = run.faults;
        closes = close_full node run.called run.faults after.first run.closes both.1;
        given_back = run.given_back;
        ran_is = run.ran_is;
      }

  module _ (Run Run' : ℕ → Lanes StoredValue → List Ran → Lanes StoredValue → Type 0)
      (turn : (c : ℕ) (s : Lanes StoredValue) (below : List Ran) (u : Lanes StoredValue) → Run c s below u → RanSpared below → Run' c s below u) where
    turned_full : (done : List Entry) (s u : Lanes StoredValue) → FoldsTo (λ s d u. Run d.0 s d.1 u) s done u → RanSpared (flat_map (λ d. d.1) done) → FoldsTo (λ s d u. Run' d.0 s d.1 u) s done u
    turned_full [] s u run spared = run
    turned_full (e ∷ done) s u run spared =
        let both = all-first (λ r. NodeSpared r.result) e.1 (flat_map (λ d. d.1) done) spared in
        (run.0, turn e.0 s e.1 run.0 run.1 both.0, turned_full done run.0 u run.2 both.1)

    body_full : (node : ℕ) (before : Lanes StoredValue) (below : List Ran) (after : Lanes StoredValue) → BodyRun plain_setting Run node before below after → RanSpared below → BodyRun fully Run' node before below after
    body_full node before below after b spared =
        let cs = concurrent_children plain_setting node in
        let both = all-first (λ r. NodeSpared r.result) (flat_map (λ ran. ran) b.beside) b.alone (subst RanSpared b.below_are spared) in
        let runs : ℕ → Lanes StoredValue → List Ran → Lanes StoredValue → Type 0 = λ i s ran u. Run (slice_index_or cs i 0) s ran u in
        let runs' : ℕ → Lanes StoredValue → List Ran → Lanes StoredValue → Type 0 = λ i s ran u. Run' (slice_index_or cs i 0) s ran u in
        let dealt = run-map (λ o. o) runs runs' b.beside (λ job s o u is made. turn (slice_index_or cs job 0) s o u made (all-of (λ r. NodeSpared r.result) b.beside job o is both.0))
        (length cs) (min (length b.forked) (length cs)) (with_lanes b.forked before) b.between b.dealt in
        record {
          forked = b.forked;
          forks = b.forks;
          beside = b.beside;
          between = b.between;
          dealt = subst (λ l. RunByDealing runs' (length cs) (min (length b.forked) (length cs)) (with_lanes b.forked before) l b.between) (map-id b.beside) dealt;
          joined = b.joined;
          joins = b.joins;
          alone = b.alone;
          in_turn = record {
            done = b.in_turn.done;
            each = b.in_turn.each;
            runs = turned_full b.in_turn.done (with_lanes b.joined b.between) after b.in_turn.runs (subst RanSpared b.in_turn.ran_are both.1);
            ran_are = b.in_turn.ran_are;
          };
          below_are = b.below_are;
        }

    container_full : (node : ℕ) (path : List ℕ) (before : Lanes StoredValue) (ran : List Ran) (after : Lanes StoredValue) → ContainerRun plain_setting Run node path before ran after → RanSpared ran
        → ContainerRun fully Run' node path before ran after
    container_full node path before ran after run spared =
        let all = subst RanSpared run.ran_are spared in
        let ends = run.ends in
        let own = subst (λ (r : Ran). NodeSpared r.result) ends.own_is all.0 in
        let outcomes = run.befores ++ ends.afters in
        let both = endings-spared node false (endings_of outcomes) (computed_in outcomes) (found_in outcomes) ends.faults own in
        let calls = outcomes-append run.befores ends.afters both.0 in
        let opened : Lanes StoredValue = record { first = run.opened; second = before.second } in
        record {
          befores = run.befores;
          opened = run.opened;
          befores_made = first_full _ _ before.first run.opened (λ a b made. befores_full node None _ a run.befores b made calls.0) run.befores_made;
          body = run.body;
          below = run.below;
          body_made = record { made = λ on. body_full node opened run.below run.body (run.body_made.made on) all.1; skipped = run.body_made.skipped };
          own = run.own;
          ends = record {
            afters = ends.afters;
            called = ends.called;
            afters_made = first_full _ _ run.body.first ends.called (λ a b made. all_full node None _ a ends.afters b made calls.1) ends.afters_made;
            faults = ends.faults;
            closes = close_full node ends.called ends.faults after.first ends.closes both.1;
            own_is = ends.own_is;
          };
          no_locks = run.no_locks;
          ran_are = run.ran_are;
        }

  tree_full : (depth node : ℕ) (before : Lanes StoredValue) (ran : List Ran) (after : Lanes StoredValue) → TreeRun plain_setting depth node before ran after → RanSpared ran → TreeRun fully depth node before ran after
  tree_full zero node before ran after run spared = absurd run
  tree_full (suc depth) node before ran after run spared = (
    run.0,
    run.1,
    elim run.2 [
      | inl left ↦ absurd (true≢false (sym left.allowed))
      | inr on ↦ inr (
        (λ test. test_full node run.0 before ran after (on.0 test) spared),
        (λ container.
            container_full (λ child s below u. TreeRun plain_setting depth child s below u) (λ child s below u. TreeRun fully depth child s below u) (λ c s below u made there. tree_full depth c s below u made there)
            node run.0 before ran after (on.1 container) spared),
        on.2,
      )
    ],
  )

-- ---- the results of a run

one-spared : (results : List (ResultOf Fault)) (node : ℕ) (r : ResultOf Fault) → may_have_lacked (map (map_fault fault_text) results) ≡ false → slice_get results node ≡ Some r → NodeSpared r
one-spared [] node r spared is = absurd cc
one-spared (x ∷ results) zero r spared is =
    let same : x ≡ r = cc is in
    subst NodeSpared same (neither x.lacked (may_have_lacked (map (map_fault fault_text) results)) spared).0
one-spared (x ∷ results) (suc node) r spared is =
    one-spared results node r (neither x.lacked (may_have_lacked (map (map_fault fault_text) results)) spared).1 is

module _ (plan : PlanText) (lanes : ℕ) (results : List (ResultOf Fault)) (read : IsReadPlan plan) (run : ParallelRun plan lanes results) where
  one_each : IsOneEach (suite_of plan) (λ node answer. answer ≡ true) (length plan.nodes) run.ran results
  one_each =
      let st = run.store in
      let t = setting_of_plan plan st run.locks in
      let tree = run.store_is.tree in
      let is_tree = subst (λ ids. IsTree ids) (sym tree) read.runnable.tree in
      let runnable = tree_runnable plan st run.locks tree (λ name there. Contains-permutation (lock_names plan.nodes) run.locks.names name run.locks_are.names there) read.runnable.tests in
      let counted : length st.tree ≡ length plan.nodes = ap length tree ∙ length-map plan.nodes (λ n. n.id) in
      let one = one_result_each st.tree (suite_of plan) (λ node answer. answer ≡ true) is_tree 16 run.ran (grown t is_tree runnable 16 0 run.first run.ran run.after run.run) in
      subst (λ r. IsOneEach (suite_of plan) (λ node answer. answer ≡ true) (length plan.nodes) run.ran r) (sym run.results_are) (subst (λ n. IsOneEach (suite_of plan) (λ node answer. answer ≡ true) n run.ran (all_results (suite_of plan) n run.ran)) counted one)

  ran_spared : may_have_lacked (map (map_fault fault_text) results) ≡ false → RanSpared run.ran
  ran_spared spared = all-contained (λ r. NodeSpared r.result) run.ran (λ r there. one-spared results r.result.node r.result spared (one_each.of_run r there))

pub tells_lacks : TellsLacks
tells_lacks plan lanes results read run spared = tree_full plan run.store run.locks 16 0 run.first run.ran run.after run.run (ran_spared plan lanes results read run spared)
