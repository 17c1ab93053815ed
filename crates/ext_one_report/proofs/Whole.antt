-- A run of a plan that lacks nothing is one on a basis of comparison, whose first state is level with that of the plain run; so it tells what the plain run does.
use Rattle.std.proofs.Common.{◌≡◌, inl, inr, ℕ, zero, suc, ◌<◌, true, List, [], ◌∷◌, Contains, length, map, refl, ap, sym, subst, ◌∙◌, arith}
use Rattle.std.specs.Prelude.{All, slice_index_or}
use Rattle.std.specs.List.{AllZip}
use Rattle.std.proofs.lemmas.List.{length-map}
use Rattle.std.proofs.lemmas.List.Elements.{Contains-get_or}
use Rattle.std.proofs.lemmas.List.Sorted.{Contains-permutation}
use Rattle.ext_history.proofs.Lists.{bools}
use Rattle.ext_history.proofs.Once.{Once}
use Rattle.ext_model.specs.declared.look.Fault.{Fault}
use Rattle.ext_tree.specs.Keys.{KeepsKeys, KnownPlace}
use Rattle.ext_lifecycle.specs.Results.{ResultOf}
use Rattle.ext_cells.specs.Lanes.{fresh_lanes}
use Rattle.ext_plan.specs.LockNames.{lock_names}
use Rattle.ext_plan.specs.Plans.{PlanText}
use Rattle.ext_plan.specs.PlanCalls.{steps_of_call}
use Rattle.ext_plan.specs.ReadPlans.{IsReadPlan}
use Rattle.ext_store.specs.Stores.{StoreView, fresh_store_lane}
use Rattle.ext_store.proofs.Fresh.{lanes_own}
use Rattle.ext_tree.specs.Trees.{IsTree}
use Rattle.ext_engine.specs.RunLaws.{IsOneEach, nodes_of}
use Rattle.ext_engine.specs.Meeting.{first_seen}
use Rattle.ext_engine.specs.Order.{CallsGoOn, LaneGoesOn}
use Rattle.ext_engine.specs.TreeRun.{TreeRun, TreeSetting, all_results, with_calls}
use Rattle.ext_engine.proofs.Finer.{tree_finer}
use Rattle.ext_engine.proofs.Going.{goes_met, goes_same, goes_sealed, goes_then, tree_goes}
use Rattle.ext_engine.proofs.RunLaws.{one_result_each}
use Rattle.ext_engine.proofs.Grown.{Grows, ran_once}
use Rattle.ext_engine.proofs.GrownRuns.{grown}
use Rattle.ext_one_report.specs.Changing.{NodesChangeOnly}
use Rattle.ext_plan_parallel.specs.declared.steps.stored_value.StoredValue.{StoredValue}
use Rattle.ext_plan_parallel.specs.ParallelRun.{ParallelRun}
use Rattle.ext_plan_parallel.specs.PlanSuites.{suite_of}
use Rattle.ext_plan_parallel.specs.StoreCalls.{PlanLane}
use Rattle.ext_plan_parallel.proofs.Runnable.{tree_runnable}
use Rattle.ext_one_report.proofs.PlanCells.{HaveChanged}
use Rattle.ext_one_report.proofs.Going.{steps_go}
use Rattle.ext_one_report.proofs.LanesApart.{AreApart, apart_after, fresh_apart}
use Rattle.ext_one_report.proofs.Runs.{steps_change_only}
use Rattle.ext_plan_parallel.specs.Finding.{PlansGoOn}
use Rattle.ext_one_report.proofs.MatchingWords.{IsRunView, RunView}
use Rattle.ext_one_report.proofs.StepsWords.{IsLaneIn}
use Rattle.ext_one_report.proofs.ViewsWords.{AreSeenAsOne}
use Rattle.ext_one_report.proofs.Calls.{steps_lane}
use Rattle.ext_one_report.proofs.Views.{earlier_is_so, runs_are_seen_as_one}
use Rattle.ext_one_report.specs.FullRuns.{CallsFully, LacksNothing, full_setting}
use Rattle.ext_one_report.proofs.FullRuns.{CallsInView, setting_in}
use Rattle.ext_one_report.proofs.OfStore.{CallsOf, tree_of}

-- what calls of a plan do lets their lane go on
plans_go : PlansGoOn
plans_go plan store node call held a o b made = steps_go store plan.keys made.path (steps_of_call plan call) a o b made.steps

full_moves : (plan : PlanText) (store : StoreView) → CallsGoOn (CallsFully plan store)
full_moves plan store node call held a o b made = plans_go plan store node call held a o b made.made

-- some lane of a share that goes on is there before and after
some_before : (lanes : List PlanLane) (lane : PlanLane) (rest : List PlanLane) → lanes ≡ lane ∷ rest → 0 < length lanes
some_before lanes lane rest is = let count = ap length is in omega (arith, count)

as_many : (xs ys : List PlanLane) → AllZip LaneGoesOn xs ys → length xs ≡ length ys
as_many [] [] go = refl
as_many [] (y ∷ ys) go = absurd go
as_many (x ∷ xs) [] go = absurd go
as_many (x ∷ xs) (y ∷ ys) go = ap suc (as_many xs ys go.1)

module _ (plan : PlanText) (lanes : ℕ) (results : List (ResultOf Fault)) (run : ParallelRun plan lanes results) (full : LacksNothing plan lanes results run) where
  abbrev pub store : StoreView
  store = run.store

  goes : AllZip LaneGoesOn run.first.first run.after.first
  goes = tree_goes (full_setting plan store run.locks (CallsFully plan store)) (full_moves plan store) 16 0 run.first run.ran run.after full

  -- no two lanes have one number
  pub lanes_apart : AreApart run.after.first
  lanes_apart =
      let fresh : AreApart run.first.first = subst AreApart (sym run.fresh) (fresh_apart StoredValue store.id.slots store.id.fault_slots store.id.keys store.id.cells 0 lanes) in
      apart_after run.first.first run.after.first goes fresh

  -- there is a lane
  first_lane : 0 < length run.first.first
  first_lane = elim full.2 [
    | inl left ↦ left.some_lane
    | inr on ↦ elim (bools ((suite_of plan).is_test 0)) [
      | inl test ↦ let calls = (on.0 test).calls in some_before run.first.first calls.lane calls.rest calls.first_was
      | inr container ↦ let befores = (on.1 container).befores_made in some_before run.first.first befores.lane befores.rest befores.first_was
    ]
  ]

  some_lane : 0 < length run.after.first
  some_lane = let first = first_lane in let count = as_many run.first.first run.after.first goes in omega (arith, first, count)

  -- ---- the view

  pub seen : AreSeenAsOne store run.numbered.numbering run.after.first
  seen = runs_are_seen_as_one plans_go plan lanes results run

  abbrev pub view : RunView
  view = record { store = store; numbering = run.numbered.numbering; meaning = seen.view.meaning }

  pub is_view : IsRunView view
  is_view = record {
    places = subst (λ n. map (λ (known : KnownPlace). known.place) n ≡ store.id.keys) (seen.numbering_is some_lane)
        (subst (λ (s : StoreView). map (λ (known : KnownPlace). known.place) seen.view.numbering ≡ s.id.keys) seen.store_is seen.is_view.places);
  }

  pub in_view : (lane : PlanLane) → Contains run.after.first lane → IsLaneIn view lane
  in_view lane there =
      let so = seen.each lane there in
      record { keys = subst (λ n. KeepsKeys lane.keys n) (seen.numbering_is some_lane) so.keys; values = so.values; faults = so.faults }

  pub lanes_in : All (IsLaneIn view) run.after.first
  lanes_in = λ i d within. in_view (slice_index_or run.after.first i d) (Contains-get_or run.after.first i d within)

  -- ---- the run, with calls of lanes that know only what is so in the view

  abbrev fully : TreeSetting StoredValue ℕ
  fully = full_setting plan store run.locks (CallsFully plan store)

  -- each of them begins with a lane of the store
  run_of_store : TreeRun (with_calls (CallsOf fully) fully) 16 0 run.first run.ran run.after
  run_of_store =
      tree_of fully (λ node call held a o b made is. steps_lane store plan.keys made.made.path (steps_of_call plan call) a o b is made.made.steps) 16 0 run.first run.ran run.after full
      (lanes_own store.id run.first.first (fresh_lanes store.id.cells 0 lanes) lanes run.fresh refl)

  pub run_in_view : TreeRun (setting_in plan view run.locks) 16 0 run.first run.ran run.after
  run_in_view =
      let moves : CallsGoOn (CallsOf fully) = λ node call held a o b made. full_moves plan store node call held a o b made.0 in
      tree_finer (with_calls (CallsOf fully) fully) (CallsInView plan view) LaneGoesOn goes_same goes_then moves (goes_met store) (goes_sealed store) (IsLaneIn view) (earlier_is_so view)
      (λ node call held a o b made so. record { fully = made.0; before_of = made.1; before_in = earlier_is_so view a b (moves node call held a o b made) so; after_in = so })
      16 0 run.first run.ran run.after run_of_store lanes_in

  -- nodes change only these cells
  pub changes_only : (changed : ℕ → List ℕ) → HaveChanged plan store run.locks run.numbered.numbering changed → NodesChangeOnly (setting_in plan view run.locks) changed
  changes_only changed have = record {
    calls = λ node call mine held before outcome after made.
        steps_change_only plan store run.numbered.numbering made.fully.made.path (steps_of_call plan call) (changed node) before outcome after made.fully.made.steps made.after_in.keys
        (λ step cell there is. have.steps node call made.fully.made.path step cell (record { path = mine.path; path_is = mine.path_is; among = mine.among }) made.fully.made.path_is there is);
    closes = have.closes;
  }

  -- the lanes have seen nothing before the run
  nothing_seen : (n first : ℕ) → first_seen (map (fresh_store_lane {V = StoredValue} store.id.slots store.id.fault_slots store.id.keys) (fresh_lanes store.id.cells first n)) ≡ []
  nothing_seen zero first = refl
  nothing_seen (suc n) first = refl

  pub nothing_before : first_seen run.first.first ≡ []
  nothing_before = subst (λ (l : List PlanLane). first_seen l ≡ []) (sym run.fresh) (nothing_seen lanes 0)

  -- ---- results

  tree_is : IsReadPlan plan → IsTree run.store.tree
  tree_is read = subst (λ ids. IsTree ids) (sym run.store_is.tree) read.runnable.tree

  -- which nodes have run
  grows : IsReadPlan plan → Grows run.store.tree (suite_of plan) (λ node answer. answer ≡ true) 16 0 run.ran
  grows read =
      let st = run.store in
      let runnable = tree_runnable plan st run.locks run.store_is.tree (λ name there. Contains-permutation (lock_names plan.nodes) run.locks.names name run.locks_are.names there) read.runnable.tests in
      grown (full_setting plan st run.locks (CallsFully plan st)) (tree_is read) runnable 16 0 run.first run.ran run.after full

  pub one_each : IsReadPlan plan → IsOneEach (suite_of plan) (λ node answer. answer ≡ true) (length plan.nodes) run.ran results
  one_each read =
      let tree = run.store.tree in
      let counted : length tree ≡ length plan.nodes = ap length run.store_is.tree ∙ length-map plan.nodes (λ n. n.id) in
      let one = one_result_each tree (suite_of plan) (λ node answer. answer ≡ true) (tree_is read) 16 run.ran (grows read) in
      subst (λ r. IsOneEach (suite_of plan) (λ node answer. answer ≡ true) (length plan.nodes) run.ran r) (sym run.results_are) (subst (λ n. IsOneEach (suite_of plan) (λ node answer. answer ≡ true) n run.ran (all_results (suite_of plan) n run.ran)) counted one)

  -- none of them has run twice
  pub each_once : IsReadPlan plan → Once (nodes_of run.ran)
  each_once read = ran_once run.store.tree (suite_of plan) (λ node answer. answer ≡ true) (tree_is read) 16 0 run.ran (grows read)
