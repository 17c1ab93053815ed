-- Nodes with all nodes below them that share values with nodes beside them: on the lanes and in the plain run they end near.
use Rattle.std.proofs.Common.{◌≡◌, ◌≢◌, ℕ, zero, suc, ◌+◌, ◌-◌, ◌<◌, ◌≤◌, ◌==◌, ◌&&◌, ◌||◌, eq-eqb, inl, inr, true, false, not, drop, fold, List, [], ◌∷◌, ◌++◌, length, None, Some, ap, refl, sym, subst, ◌∙◌, arith, true≢false}
use Rattle.std.specs.Prelude.{All, Contains, is_some}
use Rattle.std.proofs.lemmas.Bool.{eqb-true}
use Rattle.std.proofs.lemmas.Grind.{fold-append}
use Rattle.std.proofs.lemmas.List.Elements.{All-append, All-contains, Contains-get_or}
use Rattle.std.proofs.lemmas.List.Sums.{sum_by-append}
use Rattle.ext_history.specs.Histories.{seen_by}
use Rattle.ext_history.proofs.Legal.{legal_begun}
use Rattle.ext_history.proofs.Lists.{bools, contains_cons, contains_here, contains_none}
use Rattle.ext_model.specs.Events.{place_of}
use Rattle.ext_model.specs.History.{History}
use Rattle.ext_one_report.proofs.Numbers.{enough_numbers}
use Rattle.ext_tree.specs.Keys.{KeyValue}
use Rattle.ext_tree.specs.Trees.{Id, IsParentOf, IsPathOf, IsTree, children_of}
use Rattle.ext_tree.proofs.TreeLaws.{paths_are_unique}
use Rattle.ext_lifecycle.specs.declared.call.Call.{Call}
use Rattle.ext_lifecycle.specs.declared.outcome.Outcome.{Outcome}
use Rattle.ext_lifecycle.specs.Callbacks.{afters_of, befores_of}
use Rattle.ext_lifecycle.specs.Endings.{all_successful}
use Rattle.ext_lifecycle.specs.FaultTexts.{NodeOutcome, fault_text}
use Rattle.ext_lifecycle.specs.Lifecycle.{computed_in, endings_of, found_in}
use Rattle.ext_lifecycle.specs.Modes.{in_run_order}
use Rattle.ext_lifecycle.specs.Results.{map_fault}
use Rattle.ext_locks.specs.Opening.{LocksView}
use Rattle.ext_plan.specs.Plans.{PlanText}
use Rattle.ext_plan.specs.PlanCalls.{concurrent_of, registered, test_of}
use Rattle.ext_plan.specs.ReadPlans.{ids_of_nodes}
use Rattle.ext_plan.specs.StepCalls.{start_of}
use Rattle.ext_plan.specs.Values.{ValueText}
use Rattle.ext_races.specs.MadeSteps.{calls_after, calls_before, calls_of, plan_path}
use Rattle.ext_engine.specs.RunLaws.{HasRun, nodes_of}
use Rattle.ext_engine.specs.Meeting.{HasSeenWithin, first_seen}
use Rattle.ext_engine.specs.Order.{AllGoOn, CallsGoOn, ChildRun, IsMadeIn}
use Rattle.ext_engine.specs.TreeRun.{ClosesNode, ContainerRun, Lanes, Ran, TestRun, TreeSetting}
use Rattle.ext_engine.proofs.Above.{Under, parent_first, under_child, under_itself, under_order}
use Rattle.ext_engine.proofs.Acts.{Acts, all_made_then, heads_go}
use Rattle.ext_engine.proofs.Going.{all_go, befores_go}
use Rattle.ext_engine.proofs.Order.{came_from}
use Rattle.ext_engine.proofs.Seen.{acts_then, called_acts, closed_acts, opened_acts}
use Rattle.ext_one_report.proofs.Containers.{Tree, at, body_acts_in, go}
use Rattle.ext_one_report.proofs.Parts.{first_within, no_acts}
use Rattle.ext_plan_parallel.specs.declared.steps.stored_value.StoredValue.{StoredValue}
use Rattle.ext_plan_parallel.specs.StoreCalls.{PlanLane}
use Rattle.ext_plan_plain.specs.ValueStates.{ValueState}
use Rattle.ext_plan_plain.specs.ContextEnds.{faults_of_closes, seal_keys}
use Rattle.ext_plan_plain.specs.NodeCalls.{CallsEnd, afters_run, befores_run, no_calls}
use Rattle.ext_plan_plain.specs.PlainRun.{RunState, body_run, container_run, node_run, outcome_of, test_node_run, with_result}
use Rattle.ext_plan_plain.proofs.NodeCalls.{texts-successful}
use Rattle.ext_plan_plain.proofs.Reached.{set-elsewhere}
use Rattle.ext_plan_plain.proofs.Nodes.{child_path, node_run-more, start_is}
use Rattle.ext_one_report.proofs.MatchingWords.{Places, RunView}
use Rattle.ext_one_report.proofs.StepsWords.{IsLaneIn}
use Rattle.ext_one_report.specs.Within.{is_within}
use Rattle.ext_one_report.proofs.FrameNodes.{afters_own, befores_own, within_nodes}
use Rattle.ext_one_report.proofs.FrameSteps.{seals_leave}
use Rattle.ext_one_report.proofs.OfPlan.{IsOfPlan}
use Rattle.ext_one_report.proofs.Orders.{AreInOrder, HaveDrawn, Orders}
use Rattle.ext_one_report.proofs.OrdersBounds.{have_drawn}
use Rattle.ext_one_report.proofs.OrdersHistory.{prefix_rises}
use Rattle.ext_one_report.proofs.OrdersLaws.{orders_fewer, orders_fresh, orders_same, orders_then}
use Rattle.ext_one_report.proofs.SharedFresh.{IsFresh}
use Rattle.ext_one_report.proofs.SharedFreshCalls.{fresh_befores}
use Rattle.ext_one_report.proofs.Fills.{Fills, IsFilledIn, Spot, computed_at, computed_of, computed_told}
use Rattle.ext_one_report.proofs.FillsCounts.{computed_is, of_first, told_first, told_later}
use Rattle.ext_one_report.proofs.FillsLanes.{filled_first, filled_then, none_filled}
use Rattle.ext_one_report.proofs.FillsLaws.{fills_as, fills_none}
use Rattle.ext_one_report.proofs.ResultLists.{set-there}
use Rattle.ext_one_report.proofs.Open.{AreNear, Given, Open, also, is_open, of_value, some_or_none, still_open}
use Rattle.ext_one_report.proofs.OpenSteps.{StandsInBoth}
use Rattle.ext_one_report.proofs.Shared.{unshared, SharesAbove}
use Rattle.ext_one_report.proofs.OpenStep.{open_value, value_is_open}
use Rattle.ext_one_report.proofs.Closes.{ClosesLevel, IsClosedAlone}
use Rattle.ext_one_report.proofs.FullRuns.{setting_in}
use Rattle.ext_one_report.proofs.Levels.{AreLevel, besides, outside}
use Rattle.ext_one_report.proofs.SharedNodesWords.{AllResultsNear, AreComputed, AreOwn, AreUntouched, BeginsNear, IsSharedBasis, NodesEndNear, AreNearWhere}
use Rattle.ext_one_report.proofs.CloseEnds.{close_orders, sealed_slot, closes_end_level}
use Rattle.ext_one_report.proofs.ClosePlain.{plain_seals_places}
use Rattle.ext_one_report.proofs.ComputedAbove.{IsClosedAbove, NoneOpenAbove}
use Rattle.ext_one_report.proofs.KeptAbove.{body_closed}
use Rattle.ext_one_report.proofs.LanesAlone.{lanes_in, view_moves}
use Rattle.ext_one_report.proofs.NodeTrees.{path_short, its_path, long, path_apart, within_itself, within_parent}
use Rattle.ext_one_report.proofs.NodePlaces.{and_both, and_of, away, away_first, away_is, both_ways, from_not, level_fewer, never, or_either, or_first, or_second}
use Rattle.ext_one_report.proofs.NodePlain.{IsFine, children_fine, children_leave}
use Rattle.ext_one_report.proofs.NodeRooms.{all_draw, befores_hold}
use Rattle.ext_one_report.proofs.SharedClosesOpen.{near_after, none_elsewhere, stand_after}
use Rattle.ext_one_report.proofs.SharedNodesBasis.{in_plan, plan_tree, run_tree}
use Rattle.ext_one_report.proofs.SharedNodesBody.{ChildrenEnd, ClosedFor, Ends, Ground, IsChild, after_all, beside_child, beside_ones, ids, over, path_in, turn_child, turn_ones}
use Rattle.ext_one_report.proofs.SharedNodesCalls.{Called, Holds, Opened, all_called, befores_called}
use Rattle.ext_one_report.proofs.SharedNodesPasses.{own_fewer, passes_none}
use Rattle.ext_one_report.proofs.SharedNodesPlaces.{not_both, one_value, still_is, still_none, still_parts, unshared_is, unshared_parts}
use Rattle.ext_one_report.proofs.SharedNodesResults.{near_none, near_own, told_as}
use Rattle.ext_one_report.proofs.SharedNodesTurn.{Since, Whole, computed_then, fills_next, own_then, since_then}
use Rattle.ext_one_report.proofs.SharedNodesTurns.{body_turned}
use Rattle.ext_one_report.proofs.SharedTestsOpen.{none_computed, open_elsewhere, open_not_below}
use Rattle.ext_one_report.proofs.SharedTests.{tests_end_near}

-- ---- a container

module _ (g : Ground) (container : is_some (test_of g.plan g.node) ≡ false) (each : ChildrenEnd g) (o : Open)
    (before : Lanes StoredValue) (ran : List Ran) (after : Lanes StoredValue) (lanes_run : ContainerRun (over g) (ChildRun (over g) g.depth) g.node g.path before ran after) (r : RunState)
    (begins : BeginsNear g.plan g.run g.locks g.h g.touched g.changes g.changed g.shares g.node o before after r) where
  going : CallsGoOn (over g).call_gives
  going = view_moves g.plan g.run

  tree : IsTree (ids g)
  tree = plan_tree g.plan g.run g.locks g.h g.touched g.changes g.changed g.shares g.basis

  less : g.node < length g.plan.nodes
  less = within_nodes g.plan g.node g.path tree (path_in g)

  on_path : g.path ≡ plan_path g.plan g.node
  on_path = its_path g.plan tree g.node g.path (path_in g)

  -- ---- its lanes

  closing : Acts g.h lanes_run.ends.called after.first
  closing = closed_acts (over g) going g.h (Tree (over g) going g.h g.depth) (go (over g) going g.h g.depth) (at (over g) going g.h g.depth) g.node g.path before ran after lanes_run

  calling : Acts g.h lanes_run.body.first lanes_run.ends.called
  calling = called_acts (over g) going g.h (Tree (over g) going g.h g.depth) (go (over g) going g.h g.depth) (at (over g) going g.h g.depth) g.node g.path before ran after lanes_run

  called_within : All (HasSeenWithin g.h) lanes_run.ends.called
  called_within = came_from g.h lanes_run.ends.called after.first closing.goes begins.within

  bodied_within : All (HasSeenWithin g.h) lanes_run.body.first
  bodied_within = came_from g.h lanes_run.body.first lanes_run.ends.called calling.goes called_within

  bodying : Acts g.h lanes_run.opened lanes_run.body.first
  bodying = body_acts_in (over g) going g.h g.depth g.node g.path before ran after lanes_run bodied_within

  opened_within : All (HasSeenWithin g.h) lanes_run.opened
  opened_within = came_from g.h lanes_run.opened lanes_run.body.first bodying.goes bodied_within

  opening : Acts g.h before.first lanes_run.opened
  opening = opened_acts (over g) going g.h (Tree (over g) going g.h g.depth) (go (over g) going g.h g.depth) (at (over g) going g.h g.depth) g.node g.path before ran after lanes_run

  known_before : (xs ys : List PlanLane) → AllGoOn xs ys → All (IsLaneIn g.run) ys → All (IsLaneIn g.run) xs
  known_before = lanes_in g.run

  called_in : All (IsLaneIn g.run) lanes_run.ends.called
  called_in = known_before lanes_run.ends.called after.first closing.goes begins.lanes

  bodied_in : All (IsLaneIn g.run) lanes_run.body.first
  bodied_in = known_before lanes_run.body.first lanes_run.ends.called calling.goes called_in

  opened_in : All (IsLaneIn g.run) lanes_run.opened
  opened_in = known_before lanes_run.opened lanes_run.body.first bodying.goes bodied_in

  from_bodied : Acts g.h lanes_run.body.first after.first
  from_bodied = acts_then g.h lanes_run.body.first lanes_run.ends.called after.first calling closing

  from_opened : Acts g.h lanes_run.opened after.first
  from_opened = acts_then g.h lanes_run.opened lanes_run.body.first after.first bodying from_bodied

  to_bodied : Acts g.h before.first lanes_run.body.first
  to_bodied = acts_then g.h before.first lanes_run.opened lanes_run.body.first opening bodying

  to_called : Acts g.h before.first lanes_run.ends.called
  to_called = acts_then g.h before.first lanes_run.body.first lanes_run.ends.called to_bodied calling

  abbrev w : Whole g
  w = record {
    o = o;
    among = begins.open_is;
    first = before.first;
    last = after.first;
    s = r.state;
    own = begins.own;
    computed = begins.computed;
    within = begins.within;
    known = begins.lanes;
    apart = begins.apart;
    none_above = subst (λ l. NoneOpenAbove g.plan (drop 1 l) o) (sym on_path) begins.closed.none;
  }

  -- ---- its calls

  abbrev befores : List Call
  befores = befores_of (registered g.plan) false g.node g.path

  abbrev afters : List Call
  afters = afters_of (registered g.plan) false g.node g.path

  befores_are : calls_before g.plan g.node ≡ befores
  befores_are = λ i. befores_of (registered g.plan) (container i) g.node (sym on_path i)

  afters_are : calls_after g.plan g.node ≡ afters
  afters_are = λ i. afters_of (registered g.plan) (container i) g.node (sym on_path i)

  befores_its : All (Contains (calls_of g.plan g.node)) befores
  befores_its = befores_own g.plan g.node g.path false on_path container

  afters_its : All (Contains (calls_of g.plan g.node)) afters
  afters_its = afters_own g.plan g.node g.path false on_path container

  -- ---- the plain run

  abbrev opened_end : CallsEnd
  opened_end = befores_run g.plan false g.node g.path r.state

  abbrev opened_run : RunState
  opened_run = record { state = opened_end.state; results = r.results }

  abbrev bodied_run : RunState
  bodied_run = body_run g.plan (node_run g.plan g.levels) (all_successful opened_end.calls) g.path opened_run

  abbrev called_end : CallsEnd
  called_end = afters_run g.plan false g.node g.path (record opened_end { state = bodied_run.state })

  abbrev sealed : ValueState
  sealed = seal_keys called_end.state.places g.node called_end.state

  begins_holds : Holds g r.state
  begins_holds = record { memory = begins.level.memory; keeps = begins.level.keeps; gave = begins.level.gave; of_plan = begins.level.of_plan }

  opened_fine : IsFine g.plan opened_run
  opened_fine = let held = befores_hold g.plan g.run g.basis.read g.node g.path (path_in g) befores (no_calls r.state) befores_its begins_holds in record { memory = held.memory; gave = held.gave; of_plan = held.of_plan; count = begins.results }

  abbrev first_ones : List ℕ
  first_ones = beside_ones g

  abbrev later_ones : List ℕ
  later_ones = turn_ones g

  first_children : All (IsChild g) first_ones
  first_children = λ k d inside. beside_child g _ (Contains-get_or first_ones k d inside)

  later_children : All (IsChild g) later_ones
  later_children = λ k d inside. turn_child g _ (Contains-get_or later_ones k d inside)

  -- its body runs the concurrent children, and then the others
  bodied_on : all_successful opened_end.calls ≡ true → bodied_run ≡ after_all g (after_all g opened_run first_ones) later_ones
  bodied_on on =
      let same : children_of (ids g) (start_of g.path) ≡ children_of g.run.store.tree g.node = ap (λ n. children_of (ids g) n) (start_is (ids g) g.node g.path (path_in g)) ∙ ap (λ (l : List Id). children_of l g.node) (sym g.basis.tree) in
      ap (λ go. body_run g.plan (node_run g.plan g.levels) go g.path opened_run) on
      ∙ (ap (λ cs. fold (λ q child. node_run g.plan g.levels (child ∷ g.path) q) opened_run (in_run_order (concurrent_of g.plan) cs)) same
      ∙ fold-append (λ q child. node_run g.plan g.levels (child ∷ g.path) q) opened_run first_ones later_ones)

  bodied_off : all_successful opened_end.calls ≡ false → bodied_run ≡ opened_run
  bodied_off off = ap (λ go. body_run g.plan (node_run g.plan g.levels) go g.path opened_run) off

  -- what the children keep
  record Kept (q : RunState) : Type 0 where
    fine : IsFine g.plan q
    drawn : opened_end.state.store.drawn ≤ q.state.store.drawn

  kept_first : IsFine g.plan (after_all g opened_run first_ones)
  kept_first = children_fine g.plan g.touched g.changes g.basis.read g.basis.covered g.levels g.node g.path (path_in g) first_ones opened_run first_children opened_fine

  kept_all : Kept (after_all g (after_all g opened_run first_ones) later_ones)
  kept_all =
      let one = (children_leave g.plan g.touched g.changes g.basis.read g.basis.covered g.levels g.node g.path (path_in g) first_ones opened_run first_children opened_fine).drawn in
      let two = (children_leave g.plan g.touched g.changes g.basis.read g.basis.covered g.levels g.node g.path (path_in g) later_ones (after_all g opened_run first_ones) later_children kept_first).drawn in
      record {
        fine = children_fine g.plan g.touched g.changes g.basis.read g.basis.covered g.levels g.node g.path (path_in g) later_ones (after_all g opened_run first_ones) later_children kept_first;
        drawn = omega (arith, one, two);
      }

  kept : Kept bodied_run
  kept = elim (bools (all_successful opened_end.calls)) [
    | inl on ↦ subst Kept (sym (bodied_on on)) kept_all
    | inr off ↦ subst Kept (sym (bodied_off off)) (record { fine = opened_fine; drawn = omega arith })
  ]

  module _ (drawn : sealed.store.drawn < enough_numbers g.plan.size) where
    called_drawn : called_end.state.store.drawn < enough_numbers g.plan.size
    called_drawn = let one = (seals_leave g.node called_end.state).drawn in omega (arith, one, drawn)

    bodied_drawn : bodied_run.state.store.drawn < enough_numbers g.plan.size
    bodied_drawn = let one = all_draw g.plan g.path afters (record opened_end { state = bodied_run.state }) kept.fine.memory in let last = called_drawn in omega (arith, one, last)

    opened_drawn : opened_end.state.store.drawn < enough_numbers g.plan.size
    opened_drawn = let one = kept.drawn in let last = bodied_drawn in omega (arith, one, last)

    no_child : (x : ℕ) → Contains [] x → IsChild g x
    no_child x there = absurd (contains_none x there)

    -- ---- before the body

    since_first : Since g w [] o before.first r.state
    since_first = passes_none g.plan g.run g.h (g.touched g.node) o before.first r.state begins.level begins.near

    opened : Opened g w [] no_child o before.first lanes_run.opened lanes_run.befores_made.lane lanes_run.befores_made.left lanes_run.befores_made.rest lanes_run.befores_made.first_was lanes_run.befores_made.first_is
        (no_acts g.h before.first) opening from_opened opened_in opened_within (befores_go (over g) going g.node None befores lanes_run.befores_made.lane lanes_run.befores lanes_run.befores_made.left lanes_run.befores_made.change)
        r.state since_first lanes_run.befores opened_end
    opened =
        let on = lanes_run.befores_made in
        befores_called g w [] no_child o before.first lanes_run.opened on.lane on.left on.rest on.first_was on.first_is (no_acts g.h before.first) opening from_opened opened_in opened_within
        (befores_go (over g) going g.node None befores on.lane lanes_run.befores on.left on.change) r.state since_first befores lanes_run.befores befores_its befores_are on.change opened_drawn

    since_opened : Since g w [] opened.called.later lanes_run.opened opened_end.state
    since_opened = since_then g w [] [] o opened.called.later before.first lanes_run.opened r.state opened_end.state no_child no_child (no_acts g.h before.first) opening from_opened since_first opened.called.step

    -- a context below a child is on no path of the container
    child_off_path : (child context : ℕ) → IsChild g child → is_within g.plan child context ≡ true → ¬ Contains g.path context
    child_off_path child context parent inside there = path_apart g.plan tree g.node g.path child context (path_in g) parent there inside

    child_in_node : (child context : ℕ) → IsChild g child → context < length g.plan.nodes → is_within g.plan child context ≡ true → is_within g.plan g.node context ≡ true
    child_in_node child context parent few inside = let size = long g.plan tree in within_parent g.plan tree g.node child context parent (omega (arith, few, size)) inside

    fresh_opened : (child context : ℕ) → IsChild g child → context < length g.plan.nodes → is_within g.plan child context ≡ true → IsFresh context opened_end.state
    fresh_opened child context parent few inside =
        (fresh_befores g.plan g.basis.read g.node g.path (path_in g) context (child_off_path child context parent inside) befores (no_calls r.state) befores_its begins.level.memory
        (begins.fresh context few (child_in_node child context parent few inside))).0

    went_on : all_successful opened_end.calls ≡ all_successful (endings_of lanes_run.befores)
    went_on = ap all_successful (sym opened.called.near.says) ∙ texts-successful (endings_of lanes_run.befores)

    among_opened : (context : ℕ) (key : KeyValue) (v : Given) → opened.called.later context key ≡ Some v → g.shares g.node context key ≡ Some v
    among_opened context key v is = begins.open_is context key v (opened.called.step.fewer context key v is)

    -- where its body is run, what its callbacks and those of nodes above have computed is not open still, and stands in the plain run
    closed_opened : all_successful opened_end.calls ≡ true → ClosedFor g opened.called.later opened_run
    closed_opened all =
        subst (λ l. IsClosedAbove g.plan l opened.called.later opened_end.state) on_path
        (body_closed g.plan g.basis.read g.node g.path (path_in g) container o opened.called.later r.state begins.closed opened.called.step.fewer
        (none_computed g.plan g.run g.locks g.h g.touched g.changes g.changed g.shares g.basis g.node g.path (path_in g) opened.called.later among_opened (opened.settles all)) all)

    drew_when : (xs : List PlanLane) (q : RunState) → All (HasSeenWithin g.h) xs → IsFine g.plan q → (places : Places) → HaveDrawn g.run places (first_seen xs) q.state
    drew_when xs q inside fine places = have_drawn g.plan g.run places g.run.store.id.cells.limits (first_seen xs) q.state (legal_begun (first_seen xs) g.h (first_within g.h xs inside) g.basis.legal) fine.of_plan

    -- ---- after it

    record Bodied : Type 0 where
      done : List ℕ
      are : (x : ℕ) → Contains done x → IsChild g x
      open_still : Open
      since : Since g w done open_still lanes_run.body.first bodied_run.state
      fewer : (context : ℕ) (key : KeyValue) (v : Given) → open_still context key ≡ Some v → opened.called.later context key ≡ Some v
      fills : Fills (IsFilledIn g.run g.h lanes_run.opened lanes_run.body.first) opened.called.later open_still opened_end.state (computed_of lanes_run.below) (computed_told lanes_run.below bodied_run.results)
      orders : Orders g.run (away g.plan (first_ones ++ later_ones) (unshared (g.touched g.node) opened.called.later)) (first_seen lanes_run.opened) (first_seen lanes_run.body.first) opened_end.state bodied_run.state
      told : AllResultsNear (SharesAbove g.plan g.shares) lanes_run.below r.results bodied_run.results
      under : (k : ℕ) → HasRun lanes_run.below k → (c : ℕ) × IsChild g c × Under (ids g) c k

    -- its body is run,
    body_run_on : all_successful (endings_of lanes_run.befores) ≡ true → Bodied
    body_run_on on =
        let begun : Lanes StoredValue = record { first = lanes_run.opened; second = before.second } in
        let body = lanes_run.body_made.made on in
        let is = bodied_on (went_on ∙ on) in
        let last : (after_all g (after_all g opened_run first_ones) later_ones).state.store.drawn < enough_numbers g.plan.size = subst (λ (q : RunState). q.state.store.drawn < enough_numbers g.plan.size) is bodied_drawn in
        let turned = body_turned g w each begun lanes_run.below lanes_run.body body bodied_in bodied_within opening from_bodied opened.called.later opened_run opened_fine since_opened (closed_opened (went_on ∙ on)) last fresh_opened in
        record {
          done = turned.done;
          are = turned.are;
          open_still = turned.open_still;
          fewer = turned.fewer;
          fills = subst (λ (q : RunState). Fills (IsFilledIn g.run g.h lanes_run.opened lanes_run.body.first) opened.called.later turned.open_still opened_end.state (computed_of lanes_run.below) (computed_told lanes_run.below q.results))
              (sym is) turned.fills;
          orders = subst (λ (q : RunState). Orders g.run (away g.plan (first_ones ++ later_ones) (unshared (g.touched g.node) opened.called.later)) (first_seen lanes_run.opened) (first_seen lanes_run.body.first) opened_end.state q.state)
              (sym is) turned.orders;
          since = subst (λ (q : RunState). Since g w turned.done turned.open_still lanes_run.body.first q.state) (sym is) turned.since;
          told = subst (λ (q : RunState). AllResultsNear (SharesAbove g.plan g.shares) lanes_run.below r.results q.results) (sym is) turned.below.told;
          under = λ k has.
              let u = turned.below.under k has in
              (u.0, All-contains (IsChild g) (first_ones ++ later_ones) u.0 (All-append (IsChild g) first_ones later_ones first_children later_children) u.1, u.2);
        }

    -- or it is not
    body_run_off : all_successful (endings_of lanes_run.befores) ≡ false → Bodied
    body_run_off off =
        let skipped = lanes_run.body_made.skipped off in
        let is = bodied_off (went_on ∙ off) in
        let same : lanes_run.opened ≡ lanes_run.body.first = ap (λ (l : Lanes StoredValue). l.first) (sym skipped.1) in
        record {
          done = [];
          are = no_child;
          open_still = opened.called.later;
          fewer = λ context key v opens. opens;
          fills = subst (λ (l : List Ran). Fills (IsFilledIn g.run g.h lanes_run.opened lanes_run.body.first) opened.called.later opened.called.later opened_end.state (computed_of l) (computed_told l bodied_run.results)) (sym skipped.0)
              (subst (λ (l : List PlanLane). Fills (IsFilledIn g.run g.h lanes_run.opened l) opened.called.later opened.called.later opened_end.state 0 0) same
              (fills_none (IsFilledIn g.run g.h lanes_run.opened lanes_run.opened) opened.called.later opened_end.state 0 (λ spot v opens filled. none_filled g.run g.h lanes_run.opened spot filled)));
          orders = subst (λ (q : RunState). Orders g.run (away g.plan (first_ones ++ later_ones) (unshared (g.touched g.node) opened.called.later)) (first_seen lanes_run.opened) (first_seen lanes_run.body.first) opened_end.state q.state) (sym is)
              (subst (λ (l : List PlanLane). Orders g.run (away g.plan (first_ones ++ later_ones) (unshared (g.touched g.node) opened.called.later)) (first_seen lanes_run.opened) (first_seen l) opened_end.state opened_end.state) same
              (orders_same g.run (away g.plan (first_ones ++ later_ones) (unshared (g.touched g.node) opened.called.later)) (first_seen lanes_run.opened) (first_seen lanes_run.opened) opened_end.state opened_end.state
              (drew_when lanes_run.opened opened_run opened_within opened_fine (away g.plan (first_ones ++ later_ones) (unshared (g.touched g.node) opened.called.later))) (λ context key number here has. refl) (λ context key here. refl)));
          since = subst (λ (q : RunState). Since g w [] opened.called.later lanes_run.body.first q.state) (sym is) (subst (λ (l : List PlanLane). Since g w [] opened.called.later l opened_run.state) same since_opened);
          told = subst (λ (q : RunState). AllResultsNear (SharesAbove g.plan g.shares) lanes_run.below r.results q.results) (sym is) (subst (λ (l : List Ran). AllResultsNear (SharesAbove g.plan g.shares) l r.results r.results) (sym skipped.0) (near_none (SharesAbove g.plan g.shares) r.results));
          under = λ k has. absurd (contains_none k (subst (λ (l : List Ran). HasRun l k) skipped.0 has));
        }

    bodied : Bodied
    bodied = elim (bools (all_successful (endings_of lanes_run.befores))) [ inl on ↦ body_run_on on | inr off ↦ body_run_off off ]

    -- ---- its after-callbacks

    called : Called g w bodied.done bodied.are bodied.open_still lanes_run.body.first lanes_run.ends.called lanes_run.ends.afters_made.lane lanes_run.ends.afters_made.left lanes_run.ends.afters_made.rest
        lanes_run.ends.afters_made.first_was lanes_run.ends.afters_made.first_is to_bodied calling closing called_in called_within
        (all_go (over g) going g.node None afters lanes_run.ends.afters_made.lane lanes_run.ends.afters lanes_run.ends.afters_made.left lanes_run.ends.afters_made.change)
        bodied_run.state bodied.since (lanes_run.befores ++ lanes_run.ends.afters) lanes_run.ends.afters opened_end.computed called_end
    called =
        let on = lanes_run.ends.afters_made in
        let e : CallsEnd = record opened_end { state = bodied_run.state } in
        all_called g w bodied.done bodied.are bodied.open_still lanes_run.body.first lanes_run.ends.called on.lane on.left on.rest on.first_was on.first_is to_bodied calling closing called_in called_within
        (all_go (over g) going g.node None afters on.lane lanes_run.ends.afters on.left on.change) bodied_run.state bodied.since afters lanes_run.befores lanes_run.ends.afters e refl
        (record { says = opened.called.near.says; counts = opened.called.near.counts }) (λ nothing. let are = opened.called.counted nothing in record { computed = are.computed; found = are.found }) afters_its afters_are on.change called_drawn

    -- what is open in the end
    abbrev last : Open
    last = called.later

    since_called : Since g w bodied.done last lanes_run.ends.called called_end.state
    since_called = since_then g w bodied.done bodied.done bodied.open_still last lanes_run.body.first lanes_run.ends.called bodied_run.state called_end.state bodied.are bodied.are to_bodied calling closing bodied.since called.step

    among_last : (context : ℕ) (key : KeyValue) (v : Given) → last context key ≡ Some v → g.shares g.node context key ≡ Some v
    among_last context key v is = begins.open_is context key v (since_called.fewer context key v is)

    -- ---- the close

    abbrev around : Places
    around = away g.plan bodied.done (unshared (g.touched g.node) last)

    -- open places are in other contexts
    elsewhere : (context : ℕ) (key : KeyValue) (v : Given) → o context key ≡ Some v → context ≢ g.node
    elsewhere = open_elsewhere g.plan g.run g.locks g.h g.touched g.changes g.changed g.shares g.basis g.node g.path (path_in g) o begins.open_is

    own_context : Contains g.path g.node
    own_context = elim_path g.path (path_in g)
      where
        elim_path : (p : List ℕ) → IsPathOf (ids g) g.node p → Contains p g.node
        elim_path [] is = absurd is
        elim_path (first ∷ walk) is = subst (λ k. Contains (first ∷ walk) k) is.0 (contains_here first walk)

    around_own : (key : KeyValue) → around g.node key ≡ true
    around_own key =
        away_is g.plan bodied.done (unshared (g.touched g.node) last) g.node key
        (unshared_is (g.touched g.node) last g.node key (g.basis.covered.touches g.node g.node key (g.basis.covered.own g.node key less)) (elim (some_or_none (last g.node key)) [
          | inl none ↦ none
          | inr some ↦ absurd (elsewhere g.node key some.0 (since_called.fewer g.node key some.0 some.1) refl)
        ])) (λ x among inside. path_apart g.plan tree g.node g.path x g.node (path_in g) (bodied.are x among) own_context inside)

    -- ---- numbers

    -- the places that it touches in contexts that are not below it
    abbrev mine : Places
    mine context key = unshared (g.touched g.node) o context key && ((context == g.node) || not (is_within g.plan g.node context))

    mine_parts : (context : ℕ) (key : KeyValue) → mine context key ≡ true → (unshared (g.touched g.node) o context key ≡ true) × ((context == g.node) || not (is_within g.plan g.node context) ≡ true)
    mine_parts context key is = and_both (unshared (g.touched g.node) o context key) ((context == g.node) || not (is_within g.plan g.node context)) is

    -- no child has them in its context
    mine_off : (context : ℕ) (key : KeyValue) → mine context key ≡ true → (x : ℕ) → IsChild g x → is_within g.plan x context ≡ true → ⊥
    mine_off context key is x parent inside =
        let parts = mine_parts context key is in
        let few = g.basis.covered.within g.node context key (unshared_parts (g.touched g.node) o context key parts.0).0 in
        elim (or_either (context == g.node) (not (is_within g.plan g.node context)) parts.1) [
          | inl own ↦ child_off_path x context parent inside (subst (Contains g.path) (sym (eqb-true context g.node own)) own_context)
          | inr out ↦ both_ways (is_within g.plan g.node context) (child_in_node x context parent few inside) (from_not (is_within g.plan g.node context) out)
        ]

    mine_away : (q : Open) (xs : List ℕ) → ((context : ℕ) (key : KeyValue) (v : Given) → q context key ≡ Some v → o context key ≡ Some v) → ((x : ℕ) → Contains xs x → IsChild g x) → (context : ℕ) (key : KeyValue)
        → mine context key ≡ true → away g.plan xs (unshared (g.touched g.node) q) context key ≡ true
    mine_away q xs fewer children context key is =
        let parts = unshared_parts (g.touched g.node) o context key (mine_parts context key is).0 in
        let none : q context key ≡ None = elim (some_or_none (q context key)) [
          | inl none ↦ none
          | inr some ↦ not_both (o context key) some.0 parts.1 (fewer context key some.0 some.1)
        ] in
        away_is g.plan xs (unshared (g.touched g.node) q) context key (unshared_is (g.touched g.node) q context key parts.0 none) (λ x among inside. mine_off context key is x (children x among) inside)

    all_children_are : (x : ℕ) → Contains (first_ones ++ later_ones) x → IsChild g x
    all_children_are x there = All-contains (IsChild g) (first_ones ++ later_ones) x (All-append (IsChild g) first_ones later_ones first_children later_children) there

    called_fine_of : IsOfPlan g.plan called_end.state
    called_fine_of = since_called.level.of_plan

    orders_called : Orders g.run mine (first_seen before.first) (first_seen lanes_run.ends.called) r.state called_end.state
    orders_called =
        let to_opened = orders_fewer g.run (away g.plan [] (unshared (g.touched g.node) o)) mine (first_seen before.first) (first_seen lanes_run.opened) r.state opened_end.state
        (mine_away o [] (λ context key v opens. opens) no_child) opened.called.orders in
        let in_body = orders_fewer g.run (away g.plan (first_ones ++ later_ones) (unshared (g.touched g.node) opened.called.later)) mine (first_seen lanes_run.opened) (first_seen lanes_run.body.first) opened_end.state bodied_run.state
        (mine_away opened.called.later (first_ones ++ later_ones) opened.called.step.fewer all_children_are) bodied.orders in
        let behind = orders_fewer g.run (away g.plan bodied.done (unshared (g.touched g.node) bodied.open_still)) mine (first_seen lanes_run.body.first) (first_seen lanes_run.ends.called) bodied_run.state called_end.state
        (mine_away bodied.open_still bodied.done (λ context key v opens. opened.called.step.fewer context key v (bodied.fewer context key v opens)) bodied.are) called.orders in
        let rises = kept.drawn in
        let first_rises = opened.called.rises in
        orders_then g.run mine (first_seen before.first) (first_seen lanes_run.body.first) (first_seen lanes_run.ends.called) r.state bodied_run.state called_end.state
        (prefix_rises (first_seen before.first) (first_seen lanes_run.body.first) (heads_go before.first lanes_run.body.first to_bodied.goes)) (omega (arith, rises, first_rises))
        (drew_when lanes_run.body.first bodied_run bodied_within kept.fine mine)
        (orders_then g.run mine (first_seen before.first) (first_seen lanes_run.opened) (first_seen lanes_run.body.first) r.state opened_end.state bodied_run.state
        (prefix_rises (first_seen before.first) (first_seen lanes_run.opened) (heads_go before.first lanes_run.opened opening.goes)) opened.called.rises
        (drew_when lanes_run.opened opened_run opened_within opened_fine mine) to_opened in_body) behind

    abbrev lane : PlanLane
    lane = lanes_run.ends.afters_made.left

    abbrev rest : List PlanLane
    rest = lanes_run.ends.afters_made.rest

    closes : ClosesNode (over g) g.node (lane ∷ rest) lanes_run.ends.faults after.first
    closes = subst (λ (l : List PlanLane). ClosesNode (over g) g.node l lanes_run.ends.faults after.first) lanes_run.ends.afters_made.first_is lanes_run.ends.closes

    own_close : AreOwn g.run g.h around (lane ∷ rest) after.first
    own_close =
        subst (λ (l : List PlanLane). AreOwn g.run g.h around l after.first) lanes_run.ends.afters_made.first_is
        (own_fewer g.run g.h (unshared (g.touched g.node) last) around lanes_run.ends.called after.first (λ context key is. away_first g.plan bodied.done (unshared (g.touched g.node) last) context key is)
        (own_then g w bodied.done last lanes_run.ends.called after.first called_end.state to_called closing (no_acts g.h after.first) since_called))

    -- where the counts are those of the lanes, the calls end alike
    abbrev said : CallsEnd
    said = record called_end { computed = computed_in (lanes_run.befores ++ lanes_run.ends.afters); found = found_in (lanes_run.befores ++ lanes_run.ends.afters) }

    level_called : AreLevel g.plan g.run around (seen_by lane.cells.view) called_end.state
    level_called = subst (λ (l : List PlanLane). AreLevel g.plan g.run around (first_seen l) called_end.state) lanes_run.ends.afters_made.first_is since_called.level

    -- so what is closed is in one order: nothing stood in its context before
    mine_own : (key : KeyValue) → mine g.node key ≡ true
    mine_own key =
        let touched = g.basis.covered.touches g.node g.node key (g.basis.covered.own g.node key less) in
        let none : o g.node key ≡ None = elim (some_or_none (o g.node key)) [
          | inl none ↦ none
          | inr some ↦ absurd (elsewhere g.node key some.0 some.1 refl)
        ] in
        and_of (unshared (g.touched g.node) o g.node key) ((g.node == g.node) || not (is_within g.plan g.node g.node)) (unshared_is (g.touched g.node) o g.node key touched none)
        (or_first (g.node == g.node) (not (is_within g.plan g.node g.node)) (eq-eqb g.node g.node refl))

    in_order : AreInOrder g.run g.node (seen_by lane.cells.view) called_end.state
    in_order = subst (λ (l : List PlanLane). AreInOrder g.run g.node (first_seen l) called_end.state) lanes_run.ends.afters_made.first_is
        (orders_fresh g.run mine (first_seen before.first) (first_seen lanes_run.ends.called) r.state called_end.state g.node
        (λ key. (begins.fresh g.node less (within_itself g.plan tree g.node g.path (path_in g))).none key) mine_own orders_called)

    alone : IsClosedAlone g.plan g.run g.locks g.h g.touched g.changes g.changed g.shares g.node around lane rest lanes_run.ends.faults after.first
    alone = record { basis = g.basis; inside = less; closes = closes; within = begins.within; lanes = begins.lanes; own = own_close; all = around_own }

    closed : ClosesLevel g.plan g.run g.node around false (lanes_run.befores ++ lanes_run.ends.afters) lanes_run.ends.faults (first_seen after.first) said
    closed =
        closes_end_level g.plan g.run g.locks g.h g.touched g.changes g.changed g.shares g.node false around lane rest (lanes_run.befores ++ lanes_run.ends.afters) lanes_run.ends.faults after.first said
        alone level_called in_order (record { says = called.near.says; computed = refl; found = refl; matches = level_called.matches; numbered = level_called.numbered })

    -- ---- what is told

    abbrev outcome : NodeOutcome
    outcome = outcome_of g.node false called_end (faults_of_closes called_end.state.places g.node sealed)

    own_node : lanes_run.own.result.node ≡ g.node
    own_node = ap (λ (x : Ran). x.result.node) lanes_run.ends.own_is

    own_told : AreNearWhere (SharesAbove g.plan g.shares lanes_run.own.result.node) (map_fault fault_text lanes_run.own.result) outcome
    own_told =
        subst (λ (x : Ran). AreNearWhere (SharesAbove g.plan g.shares x.result.node) (map_fault fault_text x.result) outcome) (sym lanes_run.ends.own_is)
        (told_as (SharesAbove g.plan g.shares g.node) g.node false (lanes_run.befores ++ lanes_run.ends.afters) lanes_run.ends.faults called_end (faults_of_closes called_end.state.places g.node sealed) closed.told called.near.counts called.counted)

    own_apart : HasRun lanes_run.below lanes_run.own.result.node → ⊥
    own_apart has =
        let u = bodied.under lanes_run.own.result.node has in
        let first = parent_first (ids g) tree g.node u.0 u.1 in
        let low = under_order (ids g) tree u.0 lanes_run.own.result.node u.2 in
        let same = own_node in
        absurd (omega (arith, first, low, same))

    under_it : (k : ℕ) → HasRun (lanes_run.own ∷ lanes_run.below) k → Under (ids g) g.node k
    under_it k has = elim (contains_cons lanes_run.own.result.node (nodes_of lanes_run.below) k has) [
      | inl same ↦ subst (λ n. Under (ids g) g.node n) (sym own_node ∙ same) (under_itself (ids g) g.node g.path (path_in g))
      | inr later ↦ let u = bodied.under k later in under_child (ids g) tree g.node u.0 k u.1 u.2
    ]

    -- ---- open places

    abbrev settled : Places
    settled context key = is_open o context key && not (is_open last context key)

    settled_was : (context : ℕ) (key : KeyValue) → settled context key ≡ true → (v : Given) × (o context key ≡ Some v)
    settled_was context key on = open_value o context key (and_both (is_open o context key) (not (is_open last context key)) on).0

    settled_closed : (context : ℕ) (key : KeyValue) → settled context key ≡ true → last context key ≡ None
    settled_closed context key on = elim (some_or_none (last context key)) [
      | inl none ↦ none
      | inr some ↦ both_ways (is_open last context key) (value_is_open last context key some.0 some.1) (from_not (is_open last context key) (and_both (is_open o context key) (not (is_open last context key)) on).1)
    ]

    open_last : (context : ℕ) (key : KeyValue) (v : Given) → settled context key ≡ false → o context key ≡ Some v → last context key ≡ Some v
    open_last context key v off is = elim (some_or_none (last context key)) [
      | inl none ↦
          both_ways (settled context key) (and_of (is_open o context key) (not (is_open last context key)) (value_is_open o context key v is)
          (ap not (never (is_open last context key) (λ opens. let some = open_value last context key opens in not_both (last context key) some.0 none some.1)))) off
      | inr some ↦ some.1 ∙ ap (λ x. Some x) (one_value (o context key) some.0 v (since_called.fewer context key some.0 some.1) is)
    ]

    near_last : AreNear g.run last (first_seen after.first) sealed
    near_last =
        near_after g.plan g.run g.locks g.h g.basis.view g.basis.legal g.node lane rest after.first lanes_run.ends.faults closes begins.within last
        (subst (λ (l : List PlanLane). AreComputed g.run g.h last l after.first) lanes_run.ends.afters_made.first_is (computed_then g w last lanes_run.ends.called after.first to_called closing (no_acts g.h after.first) since_called.fewer))
        called_end.state (λ context key v is. elsewhere context key v (since_called.fewer context key v is))
        (λ context key v above is its. open_not_below g.plan g.run g.locks g.h g.touched g.changes g.changed g.shares g.basis g.node g.path (path_in g) last among_last context key v above is its)
        (subst (λ (l : List PlanLane). AreNear g.run last (first_seen l) called_end.state) lanes_run.ends.afters_made.first_is since_called.near)

    near_still : AreNear g.run (still_open settled o) (first_seen after.first) sealed
    near_still =
        let to_last : (context : ℕ) (key : KeyValue) (v : Given) → still_open settled o context key ≡ Some v → last context key ≡ Some v =
        λ context key v is. let parts = still_parts settled o context key v is in open_last context key v parts.0 parts.1 in
        record {
          lanes = λ context key number v is has. near_last.lanes context key number v (to_last context key v is) has;
          plain = λ context key v is. near_last.plain context key v (to_last context key v is);
          above = λ context key v path is its. near_last.above context key v path (to_last context key v is) its;
          numbered = record {
            beyond = λ context key number is past.
                let some = open_value (still_open settled o) context key is in
                near_last.numbered.beyond context key number (value_is_open last context key some.0 (to_last context key some.0 some.1)) past;
            drawn = near_last.numbered.drawn;
          };
        }

    -- what is outside, and not open still, is around, and in another context
    outside_around : (context : ℕ) (key : KeyValue) → outside g.plan g.node (also settled (unshared (g.touched g.node) o)) context key ≡ true → besides g.node around context key ≡ true
    outside_around context key is =
        let parts = and_both (also settled (unshared (g.touched g.node) o) context key) (not (is_within g.plan g.node context)) is in
        let out = from_not (is_within g.plan g.node context) parts.1 in
        let place : unshared (g.touched g.node) last context key ≡ true = elim (or_either (unshared (g.touched g.node) o context key) (settled context key) parts.0) [
          | inl was ↦
              let both = unshared_parts (g.touched g.node) o context key was in
              unshared_is (g.touched g.node) last context key both.0 (elim (some_or_none (last context key)) [
                | inl none ↦ none
                | inr some ↦ not_both (o context key) some.0 both.1 (since_called.fewer context key some.0 some.1)
              ])
          | inr on ↦
              let was = settled_was context key on in
              unshared_is (g.touched g.node) last context key (g.basis.shared.touched_there g.node context key was.0 (begins.open_is context key was.0 was.1)) (settled_closed context key on)
        ] in
        let few = g.basis.covered.within g.node context key (unshared_parts (g.touched g.node) last context key place).0 in
        let size = long g.plan tree in
        let left : around context key ≡ true = away_is g.plan bodied.done (unshared (g.touched g.node) last) context key place
        (λ x among inside. both_ways (is_within g.plan g.node context) (within_parent g.plan tree g.node x context (bodied.are x among) (omega (arith, few, size)) inside) out) in
        let other : (context == g.node) ≡ false = never (context == g.node)
        (λ same. both_ways (is_within g.plan g.node context) (subst (λ c. is_within g.plan g.node c ≡ true) (sym (eqb-true context g.node same)) (within_itself g.plan tree g.node g.path (path_in g))) out) in
        and_of (around context key) (not (context == g.node)) left (ap not other)

    untouched : AreUntouched g.run g.h o settled before.first after.first
    untouched = record {
      none = λ context number place key v event is off left has there on made. elim (all_made_then g.h before.first lanes_run.ends.called after.first place to_called.goes made) [
        | inl early ↦ since_called.untouched context number place key v event (open_last context key v off is) left has there on early
        | inr late ↦
            none_elsewhere g.plan g.run g.locks g.h g.basis.view g.basis.legal g.node lane rest after.first lanes_run.ends.faults closes begins.within context number place key event (elsewhere context key v is) has there on
            (subst (λ (l : List PlanLane). IsMadeIn g.h place l after.first) lanes_run.ends.afters_made.first_is late)
      ];
    }

    -- ---- values that were filled

    -- up to the body's end,
    fills_bodied : Fills (IsFilledIn g.run g.h before.first lanes_run.body.first) o bodied.open_still r.state (computed_in lanes_run.befores + computed_of lanes_run.below) (opened.called.plain + computed_told lanes_run.below bodied_run.results)
    fills_bodied =
        fills_next g w [] o opened.called.later bodied.open_still before.first lanes_run.opened lanes_run.body.first r.state opened_end.state
        (computed_in lanes_run.befores) opened.called.plain (computed_of lanes_run.below) (computed_told lanes_run.below bodied_run.results) (no_acts g.h before.first) opening bodying from_bodied
        (λ context key v is. is) bodied.fewer opened.called.step opened.called.fills bodied.fills

    -- up to the close,
    fills_called : Fills (IsFilledIn g.run g.h before.first lanes_run.ends.called) o last r.state (computed_in lanes_run.befores + computed_of lanes_run.below + computed_in lanes_run.ends.afters)
        (opened.called.plain + computed_told lanes_run.below bodied_run.results + called.plain)
    fills_called =
        fills_next g w bodied.done o bodied.open_still last before.first lanes_run.body.first lanes_run.ends.called r.state bodied_run.state
        (computed_in lanes_run.befores + computed_of lanes_run.below) (opened.called.plain + computed_told lanes_run.below bodied_run.results) (computed_in lanes_run.ends.afters) called.plain
        (no_acts g.h before.first) to_bodied calling closing (λ context key v is. is) called.step.fewer bodied.since fills_bodied called.fills

    -- which fills none
    closed_fill : (spot : Spot) (v : ValueText) → o spot.0 spot.1 ≡ Some (of_value v) → IsFilledIn g.run g.h lanes_run.ends.called after.first spot → ⊥
    closed_fill spot v is filled =
        none_elsewhere g.plan g.run g.locks g.h g.basis.view g.basis.legal g.node lane rest after.first lanes_run.ends.faults closes begins.within spot.0 filled.number filled.place spot.1 filled.event (elsewhere spot.0 spot.1 (of_value v) is)
        filled.has filled.there (ap place_of filled.act) (subst (λ (l : List PlanLane). IsMadeIn g.h filled.place l after.first) lanes_run.ends.afters_made.first_is filled.made)

    -- what is open in the end is what is not settled
    last_is : (context : ℕ) (key : KeyValue) → last context key ≡ still_open settled o context key
    last_is context key = elim (bools (settled context key)) [
      | inl on ↦ settled_closed context key on ∙ sym (still_none settled o context key on)
      | inr off ↦ elim (some_or_none (o context key)) [
        | inr some ↦ open_last context key some.0 off some.1 ∙ sym (still_is settled o context key some.0 off some.1)
        | inl none ↦ elim (some_or_none (last context key)) [
          | inr opens ↦ not_both (o context key) opens.0 none (since_called.fewer context key opens.0 opens.1)
          | inl closed ↦ elim (some_or_none (still_open settled o context key)) [
            | inl also_none ↦ closed ∙ sym also_none
            | inr opens ↦ not_both (o context key) opens.0 none (still_parts settled o context key opens.0 opens.1).1
          ]
        ]
      ]
    ]

    lanes_computed : computed_in lanes_run.befores + computed_of lanes_run.below + computed_in lanes_run.ends.afters ≡ computed_of ran
    lanes_computed =
        let own_is : lanes_run.own.result.computed ≡ computed_in (lanes_run.befores ++ lanes_run.ends.afters) = ap (λ (x : Ran). x.result.computed) lanes_run.ends.own_is in
        let calls = sum_by-append (λ (x : Outcome). x.computed) lanes_run.befores lanes_run.ends.afters in
        let all = of_first lanes_run.own lanes_run.below in
        let ran_is = ap computed_of lanes_run.ran_are in
        omega (arith, own_is, calls, all, ran_is)

    own_less : lanes_run.own.result.node < length r.results
    own_less = let same = own_node in let few = less in let long = begins.results in omega (arith, same, few, long)

    plain_computed : opened.called.plain + computed_told lanes_run.below bodied_run.results + called.plain ≡ computed_told ran (with_result outcome bodied_run.results)
    plain_computed =
        let last_results = with_result outcome bodied_run.results in
        let long = bodied.told.count in
        let in_results = own_less in
        let at_own = own_node in
        let own_at : computed_at last_results lanes_run.own.result.node ≡ called_end.computed =
        ap (computed_at last_results) own_node ∙ computed_is last_results g.node outcome (set-there bodied_run.results g.node outcome (omega (arith, long, in_results, at_own))) in
        let same = told_later lanes_run.below bodied_run.results last_results (λ node has.
        set-elsewhere bodied_run.results g.node node outcome (λ is. own_apart (subst (HasRun lanes_run.below) (is ∙ sym own_node) has))) in
        let all = told_first lanes_run.own lanes_run.below last_results in
        let ran_is = ap (λ (l : List Ran). computed_told l last_results) lanes_run.ran_are in
        let early = opened.called.plain_is in
        let late = called.plain_is in
        omega (arith, own_at, same, all, ran_is, early, late)

    fills : Fills (IsFilledIn g.run g.h before.first after.first) o (still_open settled o) r.state (computed_of ran) (computed_told ran (with_result outcome bodied_run.results))
    fills =
        subst (λ (later : Open). Fills (IsFilledIn g.run g.h before.first after.first) o later r.state (computed_of ran) (computed_told ran (with_result outcome bodied_run.results))) (λ i context key. last_is context key i)
        (fills_as (IsFilledIn g.run g.h before.first lanes_run.ends.called) (IsFilledIn g.run g.h before.first after.first) o last r.state
        (computed_in lanes_run.befores + computed_of lanes_run.below + computed_in lanes_run.ends.afters) (opened.called.plain + computed_told lanes_run.below bodied_run.results + called.plain)
        (computed_of ran) (computed_told ran (with_result outcome bodied_run.results))
        (λ spot v is filled. filled_first g.run g.h before.first lanes_run.ends.called after.first closing.goes spot filled)
        (λ spot v is filled. elim (filled_then g.run g.h before.first lanes_run.ends.called after.first to_called.goes spot filled) [
          | inl early ↦ early
          | inr late ↦ absurd (closed_fill spot v is late)
        ]) lanes_computed plain_computed fills_called)

    -- ---- all of it

    -- what is outside and was not open when it began is its own, and around it in another context
    abbrev out : Places
    out = outside g.plan g.node (unshared (g.touched g.node) o)

    out_mine : (context : ℕ) (key : KeyValue) → out context key ≡ true → mine context key ≡ true
    out_mine context key is =
        let parts = and_both (unshared (g.touched g.node) o context key) (not (is_within g.plan g.node context)) is in
        and_of (unshared (g.touched g.node) o context key) ((context == g.node) || not (is_within g.plan g.node context)) parts.0 (or_second (context == g.node) (not (is_within g.plan g.node context)) parts.1)

    out_around : (context : ℕ) (key : KeyValue) → out context key ≡ true → besides g.node around context key ≡ true
    out_around context key is =
        let parts = and_both (unshared (g.touched g.node) o context key) (not (is_within g.plan g.node context)) is in
        let other : (context == g.node) ≡ false = never (context == g.node) (λ own.
        both_ways (is_within g.plan g.node context) (subst (λ k. is_within g.plan g.node k ≡ true) (sym (eqb-true context g.node own)) (within_itself g.plan tree g.node g.path (path_in g))) (from_not (is_within g.plan g.node context) parts.1)) in
        and_of (around context key) (not (context == g.node)) (mine_away last bodied.done since_called.fewer bodied.are context key (out_mine context key is)) (ap not other)

    orders_ended : Orders g.run out (first_seen before.first) (first_seen after.first) r.state sealed
    orders_ended =
        let called_rises = called.rises in
        let rises = kept.drawn in
        let first_rises = opened.called.rises in
        let close : Orders g.run (besides g.node around) (first_seen lanes_run.ends.called) (first_seen after.first) called_end.state sealed =
        subst (λ (l : List PlanLane). Orders g.run (besides g.node around) (first_seen l) (first_seen after.first) called_end.state sealed) (sym lanes_run.ends.afters_made.first_is)
        (close_orders g.plan g.run g.locks g.h g.touched g.changes g.changed g.shares g.node around lane rest lanes_run.ends.faults after.first alone called_end.state level_called) in
        orders_then g.run out (first_seen before.first) (first_seen lanes_run.ends.called) (first_seen after.first) r.state called_end.state sealed
        (prefix_rises (first_seen before.first) (first_seen lanes_run.ends.called) (heads_go before.first lanes_run.ends.called to_called.goes)) (omega (arith, called_rises, rises, first_rises))
        (have_drawn g.plan g.run out g.run.store.id.cells.limits (first_seen lanes_run.ends.called) called_end.state
        (legal_begun (first_seen lanes_run.ends.called) g.h (first_within g.h lanes_run.ends.called called_within) g.basis.legal) called_fine_of)
        (orders_fewer g.run mine out (first_seen before.first) (first_seen lanes_run.ends.called) r.state called_end.state out_mine orders_called)
        (orders_fewer g.run (besides g.node around) out (first_seen lanes_run.ends.called) (first_seen after.first) called_end.state sealed out_around close)

    pub container_near : Ends g.plan g.run g.locks g.h g.touched g.changes g.changed g.shares g.node o before ran after r (container_run g.plan (node_run g.plan g.levels) g.node g.path r)
    container_near =
        let told = near_own (SharesAbove g.plan g.shares) lanes_run.own lanes_run.below r.results bodied_run.results outcome own_told own_less own_apart bodied.told in
        record {
          ends = record {
            settled = settled;
            were_open = settled_was;
            level = level_fewer g.plan g.run (besides g.node around) (outside g.plan g.node (also settled (unshared (g.touched g.node) o))) (first_seen after.first) sealed outside_around closed.level;
            near = near_still;
            stand = λ context key v on is.
                stand_after g.plan g.run g.locks g.h g.basis.view g.basis.legal g.node lane rest after.first lanes_run.ends.faults closes begins.within o
                (subst (λ (l : List PlanLane). AreComputed g.run g.h o l after.first) lanes_run.ends.afters_made.first_is (computed_then g w o lanes_run.ends.called after.first to_called closing (no_acts g.h after.first) (λ c k v is. is)))
                context key v called_end.state is (elsewhere context key v is)
                (subst (λ (l : List PlanLane). StandsInBoth g.run v context key (first_seen l) called_end.state) lanes_run.ends.afters_made.first_is (since_called.stand context key v is (settled_closed context key on)));
            unchanged = λ context key v off is.
                sealed_slot g.node called_end.state sealed (plain_seals_places g.node called_end.state) context key (elsewhere context key v is) ∙ since_called.unchanged context key v (open_last context key v off is);
            untouched = untouched;
            told = subst (λ (l : List Ran). AllResultsNear (SharesAbove g.plan g.shares) l r.results (with_result outcome bodied_run.results)) (sym lanes_run.ran_are) told;
            fills = fills;
            orders = orders_ended;
          };
          under = subst (λ (l : List Ran). (k : ℕ) → HasRun l k → Under (ids g) g.node k) (sym lanes_run.ran_are) under_it;
        }

-- ---- nodes

module _ (plan : PlanText) (run : RunView) (locks : LocksView) (h : History) (touched changes : ℕ → Places) (changed : ℕ → List ℕ) (shares : ℕ → Open)
    (basis : IsSharedBasis plan run locks h touched changes changed shares) where
  abbrev setting : TreeSetting StoredValue ℕ
  setting = setting_in plan run locks

  pub node_ends : (depth levels node : ℕ) (path : List ℕ) (o : Open) (before : Lanes StoredValue) (ran : List Ran) (after : Lanes StoredValue) (r : RunState) → IsPathOf run.store.tree node path
      → length plan.nodes < levels + length path → ChildRun setting depth node before ran after → BeginsNear plan run locks h touched changes changed shares node o before after r
      → (node_run plan levels path r).state.store.drawn < enough_numbers plan.size → Ends plan run locks h touched changes changed shares node o before ran after r (node_run plan levels path r)
  node_ends zero levels node path o before ran after r path_is deep tree_run begins drawn = absurd tree_run
  node_ends (suc depth) levels node path o before ran after r path_is deep tree_run begins drawn =
      let tree = plan_tree plan run locks h touched changes changed shares basis in
      let in_ids = in_plan plan run locks h touched changes changed shares basis node path path_is in
      let same : tree_run.0 ≡ path = paths_are_unique.one_path run.store.tree node tree_run.0 path (run_tree plan run locks h touched changes changed shares basis) tree_run.1 path_is in
      let short = path_short (ids_of_nodes plan.nodes) tree path node in_ids in
      let inside = within_nodes plan node path tree in_ids in
      let some : levels ≢ 0 = λ none. omega (arith, none, deep, short, inside) in
      let E : RunState → Type 0 = λ q. Ends plan run locks h touched changes changed shares node o before ran after r q in
      let D : RunState → Type 0 = λ q. q.state.store.drawn < enough_numbers plan.size in
      elim (bools (is_some (test_of plan node))) [
        | inl test ↦
            let is : node_run plan levels path r ≡ test_node_run plan node path r = node_run-more plan levels path r node true some (start_is (ids_of_nodes plan.nodes) node path in_ids) test in
            let test_run : TestRun setting node path before ran after = subst (λ p. TestRun setting node p before ran after) same (elim tree_run.2 [ inl left ↦ absurd (true≢false (sym left.allowed)) | inr on ↦ on.0 test ]) in
            let ended = tests_end_near plan run locks h touched changes changed shares node path o before ran after r basis path_is test test_run begins (subst D is drawn) in
            subst E (sym is) (record { ends = ended; under = test_under node path before ran after in_ids test_run })
        | inr container ↦
            let is : node_run plan levels path r ≡ container_run plan (node_run plan (levels - 1)) node path r = node_run-more plan levels path r node false some (start_is (ids_of_nodes plan.nodes) node path in_ids) container in
            let lanes_run : ContainerRun setting (ChildRun setting depth) node path before ran after = subst (λ p. ContainerRun setting (ChildRun setting depth) node p before ran after) same (elim tree_run.2 [ inl left ↦ absurd (true≢false (sym left.allowed)) | inr on ↦ on.1 container ]) in
            let g : Ground = record {
              plan = plan;
              run = run;
              locks = locks;
              h = h;
              touched = touched;
              changes = changes;
              changed = changed;
              shares = shares;
              basis = basis;
              depth = depth;
              levels = levels - 1;
              node = node;
              path = path;
              path_is = path_is;
            } in
            let each : ChildrenEnd g =
            λ child oc s below u q parent runs child_begins child_drawn.
            node_ends depth (levels - 1) child (child ∷ path) oc s below u q (child_path run.store.tree node child path path_is (subst (λ (l : List Id). IsParentOf l node child) (sym basis.tree) parent)) (omega (arith, deep, some))
            runs child_begins child_drawn in
            subst E (sym is) (container_near g container each o before ran after lanes_run r begins (subst D is drawn))
      ]
    where
      test_under : (node : ℕ) (path : List ℕ) (before : Lanes StoredValue) (ran : List Ran) (after : Lanes StoredValue) → IsPathOf (ids_of_nodes plan.nodes) node path → TestRun setting node path before ran after → (k : ℕ) → HasRun ran k
          → Under (ids_of_nodes plan.nodes) node k
      test_under node path before ran after path_in test k has = elim (contains_cons node [] k (subst (λ (l : List Ran). HasRun l k) test.ran_is has)) [
        | inl same ↦ subst (λ n. Under (ids_of_nodes plan.nodes) node n) same (under_itself (ids_of_nodes plan.nodes) node path path_in)
        | inr none ↦ absurd (contains_none k none)
      ]

pub nodes_end_near : (plan : PlanText) (run : RunView) (locks : LocksView) (h : History) (touched changes : ℕ → Places) (changed : ℕ → List ℕ) (shares : ℕ → Open)
    → NodesEndNear plan run locks h touched changes changed shares
nodes_end_near plan run locks h touched changes changed shares depth levels node path o before ran after r basis path_is deep tree_run begins drawn =
    (node_ends plan run locks h touched changes changed shares basis depth levels node path o before ran after r path_is deep tree_run begins drawn).ends
