-- What nodes do at the places that they share, in their calls and in those of the nodes below them.
use Rattle.std.proofs.Common.{◌≡◌, ℕ, true, false, List, [], Some, refl, ap, sym, subst, ◌∙◌, arith}
use Rattle.std.specs.Prelude.{All, Option, slice_get, slice_index_or}
use Rattle.std.proofs.lemmas.List.{length-map}
use Rattle.ext_history.specs.Histories.{seen_by}
use Rattle.ext_model.specs.declared.event.Event.{Event}
use Rattle.ext_model.specs.declared.look.Fault.{Fault}
use Rattle.ext_model.specs.Events.{place_of}
use Rattle.ext_model.specs.History.{History}
use Rattle.ext_tree.specs.Keys.{KeyValue}
use Rattle.ext_tree.specs.Trees.{Id, IsParentOf, IsPathOf, IsTree}
use Rattle.ext_lifecycle.specs.declared.call.Call.{Call}
use Rattle.ext_lifecycle.specs.declared.outcome.Outcome.{Outcome}
use Rattle.ext_locks.specs.Opening.{LocksView}
use Rattle.ext_locks.specs.Sets.{HeldView}
use Rattle.ext_plan.specs.Plans.{PlanText}
use Rattle.ext_plan.specs.PlanCalls.{steps_of_call}
use Rattle.ext_plan.specs.ReadPlans.{ids_of_nodes}
use Rattle.ext_store.specs.Stores.{cell_in}
use Rattle.ext_engine.specs.Meeting.{HasSeen, HasSeenWithin}
use Rattle.ext_engine.specs.Order.{CallsGoOn, ChildRun, IsMadeBy, IsMadeIn}
use Rattle.ext_engine.specs.TreeRun.{ClosesNode, Lanes, Ran, TreeSetting, same_thread_children, with_calls}
use Rattle.ext_engine.proofs.Above.{at_or_below, under_itself}
use Rattle.ext_one_report.specs.Changing.{IsCallOf}
use Rattle.ext_one_report.proofs.Changing.{close_seals}
use Rattle.ext_one_report.proofs.Containers.{are_children, is_concurrent_child}
use Rattle.ext_one_report.proofs.Events.{one_event, stands_in_seen}
use Rattle.ext_one_report.proofs.Made.{tree_on}
use Rattle.ext_plan_parallel.specs.declared.steps.stored_value.StoredValue.{StoredValue}
use Rattle.ext_plan_parallel.specs.StoreCalls.{PlanLane}
use Rattle.ext_one_report.proofs.MatchingWords.{HasNumberIn, Places, RunView, cell_of}
use Rattle.ext_one_report.proofs.Open.{Given, IsKeptBy, Open}
use Rattle.ext_one_report.specs.Within.{is_within}
use Rattle.ext_one_report.proofs.CoveredCells.{below_told, call_among}
use Rattle.ext_one_report.proofs.CoveredPaths.{has_context}
use Rattle.ext_one_report.proofs.FullRuns.{setting_in}
use Rattle.ext_one_report.proofs.SharedEventsWords.{OfSharing, SharedIsComputed, SharedIsLookedFor, SharedIsNew}
use Rattle.ext_one_report.proofs.SharedNodesWords.{IsSharedBasis}
use Rattle.ext_one_report.proofs.LanesAlone.{view_moves}
use Rattle.ext_one_report.proofs.CallsFrom.{CallsFrom}
use Rattle.ext_one_report.proofs.SharedEventsActs.{IsComputing, steps_do}
use Rattle.ext_one_report.proofs.SharedEventsSeen.{tree_seen}
use Rattle.ext_one_report.proofs.Matching.{number_within}
use Rattle.ext_one_report.proofs.StoreCells.{cell_apart}

module _ (plan : PlanText) (run : RunView) (locks : LocksView) (h : History) (touched changes : ℕ → Places) (changed : ℕ → List ℕ) (shares : ℕ → Open)
    (basis : IsSharedBasis plan run locks h touched changes changed shares) (g : History) where
  -- the run, with calls of lanes that have seen the part of the history
  abbrev t : TreeSetting StoredValue ℕ
  t = with_calls (CallsFrom (setting_in plan run locks) (HasSeen g)) (setting_in plan run locks)

  goes : CallsGoOn t.call_gives
  goes node call held a outcome b gives = view_moves plan run node call held a outcome b gives.0

  plan_tree : IsTree (ids_of_nodes plan.nodes)
  plan_tree = basis.read.runnable.tree

  run_tree : IsTree run.store.tree
  run_tree = subst IsTree (sym basis.tree) plan_tree

  in_plan : (node : ℕ) (path : List ℕ) → IsPathOf run.store.tree node path → IsPathOf (ids_of_nodes plan.nodes) node path
  in_plan node path is = subst (λ (l : List Id). IsPathOf l node path) basis.tree is

  -- the event at this place is at a place that the node changes, and computes what is computed there where the node shares it
  abbrev On : ℕ → ℕ → Type 0
  On node place =
      (context number : ℕ) (key : KeyValue) (event : Event ℕ) → HasNumberIn run key number → slice_get h place ≡ Some event → place_of event.act ≡ Some (cell_of run number context)
      → (changes node context key ≡ true) × ((v : Given) → shares node context key ≡ Some v → IsComputing run h g place number context v event.act)

  call_on : (node : ℕ) (call : Call) → IsCallOf t node call → (held : Option HeldView) (a : PlanLane) (outcome : Outcome) (b : PlanLane) → t.call_gives node call held a outcome b → HasSeenWithin h b
      → (place : ℕ) → IsMadeBy h place a b → On node place
  call_on node call mine held a outcome b gives within place made context number key event has there is =
      let makes = gives.0.fully.made in
      let among = call_among plan run.store locks run.numbering node call basis.read basis.tree (record { path = mine.path; path_is = mine.path_is; among = mine.among }) in
      let path_is = in_plan node makes.path makes.path_is in
      let does = steps_do run basis.view run_tree h g basis.legal (changes node) (shares node) (λ c k v is. subst (λ keep. IsKeptBy keep v) (sym basis.keeps) (basis.shared.kept node c k v is)) plan.keys makes.path (steps_of_call plan call) a outcome b makes.steps
      (λ step each. record {
        changes_there = λ step_key up changes_it. basis.covered.steps node makes.path call step step_key up path_is among each changes_it;
        computes = λ step_key up v changes_it shared. basis.shared.computes node makes.path call step step_key up v path_is among each changes_it shared;
      })
      gives.0.after_in gives.1 within in
      let same = one_event h place made.event event made.there there in
      let mine_there = subst (λ (e : Event ℕ). slice_get (seen_by b.cells.view) place ≡ Some e) same (stands_in_seen h place a b within made) in
      let by_it = subst (λ (e : Event ℕ). e.lane ≡ a.cells.view.number) same made.own_event in
      does.each place (cell_of run number context) event mine_there by_it made.since is context number key has refl

  close_on : (node : ℕ) (path : List ℕ) → IsPathOf t.store.tree node path → (before : List PlanLane) (faults : List (Option Fault)) (after : List PlanLane) → ClosesNode t node before faults after → All (HasSeenWithin h) after
      → (place : ℕ) → IsMadeIn h place before after → On node place
  close_on node path path_is before faults after closes within place made context number key event has there is =
      let seal = close_seals t h node before faults after closes within place made in
      let same = one_event h place seal.event event seal.there there in
      let on : Some (cell_in run.store seal.key node) ≡ Some (cell_of run number context) = ap place_of (sym seal.seals ∙ ap (λ (e : Event ℕ). e.act) same) ∙ is in
      let parts = cell_apart run.store node context seal.key number seal.within (number_within run key number basis.view has) (cc on) in
      let below = has_context (ids_of_nodes plan.nodes) plan_tree node path (in_plan node path path_is) in
      let size = length-map plan.nodes (λ n. n.id) in
      let itself : is_within plan node node ≡ true = below_told plan basis.read node node (at_or_below (ids_of_nodes plan.nodes) node node (under_itself (ids_of_nodes plan.nodes) node path (in_plan node path path_is))) in (
        subst (λ c. changes node c key ≡ true) parts.0 (basis.covered.own node key (omega (arith, below, size))),
        (λ v shared.
            let out : is_within plan node node ≡ false = subst (λ c. is_within plan node c ≡ false) (sym parts.0) (basis.shared.outside node context key v shared) in
            let never : true ≡ false = sym itself ∙ out in
            absurd (cc never)),
      )

  up_on : (node child place : ℕ) → IsParentOf (ids_of_nodes plan.nodes) node child → On child place → On node place
  up_on node child place parent on context number key event has there is =
      let r = on context number key event has there is in (
        basis.covered.changed_above node child context key parent r.0,
        (λ v shared. r.1 v (basis.shared.below_changed node child context key v parent shared r.0)),
      )

  run_on : (depth node : ℕ) (before : Lanes StoredValue) (ran : List Ran) (after : Lanes StoredValue) → ChildRun (setting_in plan run locks) depth node before ran after → All (HasSeen g) before.first → All (HasSeenWithin h) after.first
      → (place : ℕ) → IsMadeIn h place before.first after.first → On node place
  run_on depth node before ran after runs seen within place made =
      tree_on t goes h (IsParentOf (ids_of_nodes plan.nodes)) On
      (record {
        calls = call_on;
        closes = close_on;
        concurrent = λ parent path path_is child there. subst (λ (l : List Id). IsParentOf l parent child) basis.tree (is_concurrent_child t run_tree parent path path_is child there);
        others = λ parent path path_is. subst (λ (l : List Id). All (IsParentOf l parent) (same_thread_children t parent)) basis.tree (are_children t run_tree parent path path_is);
        up = up_on;
      })
      depth node before ran after (tree_seen (setting_in plan run locks) (view_moves plan run) g depth node before ran after runs seen) within place made

-- ---- laws

pub shared_is_looked_for : OfSharing SharedIsLookedFor
shared_is_looked_for plan run locks h touched changes changed shares depth node before ran after g basis runs seen within context number place key v path event shared has there is path_is made =
    ((run_on plan run locks h touched changes changed shares basis g depth node before ran after runs seen within place made context number key event has there is).1 v shared).looked path path_is

pub shared_is_computed : OfSharing SharedIsComputed
shared_is_computed plan run locks h touched changes changed shares depth node before ran after basis runs within context number place key v event shared has there is made =
    let nothing : All (HasSeen []) before.first = λ i d less. (seen_by (slice_index_or before.first i d).cells.view, refl) in
    ((run_on plan run locks h touched changes changed shares basis [] depth node before ran after runs nothing within place made context number key event has there is).1 v shared).computes

pub shared_is_new : OfSharing SharedIsNew
shared_is_new plan run locks h touched changes changed shares depth node before ran after g basis runs seen within context number place key v event n shared has there act_is made =
    ((run_on plan run locks h touched changes changed shares basis g depth node before ran after runs seen within place made context number key event has there (ap place_of act_is)).1 v shared).new run.store.id.cells.limits basis.legal n act_is
