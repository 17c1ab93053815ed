use Rattle.std.proofs.Common.{◌≡◌, ◌∙◌, ◌<◌, inr, ℕ, All, List, length, map, ap, arith, sym, subst}
use Rattle.std.proofs.lemmas.List.Sorted.{Contains-permutation}
use Rattle.ext_plan.specs.LockNames.{lock_names}
use Rattle.ext_lifecycle.specs.Results.{as_result}
use Rattle.ext_plan.specs.Plans.{PlanText, node_view, plan_view}
use Rattle.ext_store.specs.Stores.{StoreLane}
use Rattle.ext_locks.specs.Views.{Lane}
use Rattle.ext_plan_parallel.specs.declared.steps.stored_value.StoredValue.{StoredValue}
use Rattle.std.proofs.lemmas.List.{length-map}
use Rattle.ext_engine.specs.TreeRun.{IsRunnable, IsUsable, Lanes, TreeRun, all_results}
use Rattle.ext_engine.proofs.Fresh.{fresh_usable}
use Rattle.ext_plan_parallel.specs.PlanSuites.{suite_of}
use Rattle.ext_plan_parallel.specs.ParallelRun.{EndsOver, setting_of_plan}
use Rattle.ext_cells.specs.Lanes.{fresh_lanes}
use Rattle.ext_plan_parallel.proofs.Mapped.{if_err, if_ok}
use Rattle.ext_plan_parallel.proofs.PlacedKeys.{placed_by_run}
use Rattle.ext_plan_parallel.proofs.Runnable.{tree_runnable}
use Rattle.ext_plan_parallel.proofs.parallel.parallel_results.Goals as goal

pub results_of-requires-clause-lanes : goal.results_of-requires-clause-lanes
results_of-requires-clause-lanes g c κs inside =
    let st = c.in_ok-store.store in let lk = c.in_ok-locks.locks in
    let few = c.requires.lanes in
    let usable = fresh_usable st lk c.args.lanes c.in_ok-store.store_lanes.items c.in_ok-locks.lock_lanes.items (few.0, omega (arith, few.1)) c.in_ok-store.ensures.lanes c.in_ok-store.ensures.own_lanes c.in_ok-locks.ensures.lanes in
    let P : List (StoreLane StoredValue) → Type 0 = λ l. IsUsable st lk (record { first = l; second = c.in_ok-locks.lock_lanes.items }) in
    let Q : List Lane → Type 0 = λ l. IsUsable st lk (record { first = c.as_mut_slice-all_lanes.result.now; second = l }) in
    subst Q (sym c.as_mut_slice-all_locks.ensures.value) (subst P (sym c.as_mut_slice-all_lanes.ensures.value) usable)

pub results_of-requires-clause-runnable : goal.results_of-requires-clause-runnable
results_of-requires-clause-runnable g c κs inside =
    let st = c.in_ok-store.store in let lk = c.in_ok-locks.locks in
    let plan = plan_view c.args.plan.now in
    let runnable = tree_runnable plan st lk c.in_ok-store.ensures.store.tree (λ name there. Contains-permutation (lock_names plan.nodes) lk.names name c.in_ok-locks.ensures.locks.names there) c.requires.runnable.tests in
    let P : PlanText → Type 0 = λ p. IsRunnable st lk (suite_of p) in
    subst P (sym c.in_ok-suite.ensures) runnable

pub returns-clause-run : goal.returns-clause-run
returns-clause-run g c =
    let st = c.in_ok-store.store in let lk = c.in_ok-locks.locks in
    let plan = plan_view c.args.plan.now in
    let first : Lanes StoredValue = record { first = c.as_mut_slice-all_lanes.result.now; second = c.as_mut_slice-all_locks.result.now } in
    let count : length st.tree ≡ length plan.nodes = ap length c.in_ok-store.ensures.store.tree ∙ length-map plan.nodes (λ n. n.id) in
    if_ok c.results_of.result (λ results ran. record {
      store = st;
      store_is = c.in_ok-store.ensures.store;
      locks = lk;
      locks_are = c.in_ok-locks.ensures.locks;
      first = first;
      fresh = c.as_mut_slice-all_lanes.ensures.value ∙ c.in_ok-store.ensures.lanes;
      fresh_locks = c.as_mut_slice-all_locks.ensures.value ∙ c.in_ok-locks.ensures.lanes;
      ran = ran.0;
      after = ran.1;
      run = subst (λ (p : PlanText). TreeRun (setting_of_plan p st lk) 16 0 first ran.0 ran.1) c.in_ok-suite.ensures ran.2;
      results_are =
          subst (λ (n : ℕ). map as_result results.items ≡ all_results (suite_of plan) n ran.0) count
          (subst (λ (p : PlanText). map as_result results.items ≡ all_results (suite_of p) (length st.tree) ran.0) c.in_ok-suite.ensures ran.3);
      shared = ran.4;
      numbered = ran.5;
      placed =
          placed_by_run plan st lk (fresh_lanes st.id.cells 0 c.args.lanes) 16 0 first ran.0 ran.1 (c.as_mut_slice-all_lanes.ensures.value ∙ c.in_ok-store.ensures.lanes)
          (subst (λ (p : PlanText). TreeRun (setting_of_plan p st lk) 16 0 first ran.0 ran.1) c.in_ok-suite.ensures ran.2);
    }) c.results_of.ensures.run

pub returns-clause-in_tree : goal.returns-clause-in_tree
returns-clause-in_tree g c =
    let plan = plan_view c.args.plan.now in
    let st = c.in_ok-store.store in
    let count : length st.tree ≡ length c.args.plan.now.nodes.items = ap length c.in_ok-store.ensures.store.tree ∙ length-map plan.nodes (λ n. n.id) ∙ length-map c.args.plan.now.nodes.items node_view in
    if_ok c.results_of.result (λ results within. subst (λ (n : ℕ). All (λ r. r.node < n) results.items) count within) c.results_of.ensures.in_tree

pub returns-clause-fault : goal.returns-clause-fault
returns-clause-fault g c =
    let st = c.in_ok-store.store in let lk = c.in_ok-locks.locks in
    let first : Lanes StoredValue = record { first = c.as_mut_slice-all_lanes.result.now; second = c.as_mut_slice-all_locks.result.now } in
    if_err c.results_of.result (λ why ends. inr (record {
      store = st;
      store_is = c.in_ok-store.ensures.store;
      locks = lk;
      locks_are = c.in_ok-locks.ensures.locks;
      first = first;
      fresh = c.as_mut_slice-all_lanes.ensures.value ∙ c.in_ok-store.ensures.lanes;
      fresh_locks = c.as_mut_slice-all_locks.ensures.value ∙ c.in_ok-locks.ensures.lanes;
      ends = subst (λ (p : PlanText). EndsOver p st lk first why) c.in_ok-suite.ensures ends;
    })) c.results_of.ensures.early
