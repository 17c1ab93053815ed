-- A test ends near: where some of its steps compute at open places, which nodes beside it may compute too, all else is as in the plain run.
use Rattle.std.proofs.Common.{◌≡◌, ◌≢◌, ℕ, ◌+◌, ◌<◌, inl, inr, true, false, not, drop, List, [], ◌∷◌, length, Some, refl, ap, sym, subst, ◌∙◌, arith}
use Rattle.std.specs.Prelude.{All, is_some, slice_get}
use mathlib.Core.List.{IsPrefix}
use Rattle.std.proofs.lemmas.List.Elements.{All-head}
use Rattle.ext_history.specs.Histories.{seen_by}
use Rattle.ext_history.proofs.Legal.{legal_begun}
use Rattle.ext_history.proofs.Lists.{contains_none}
use Rattle.ext_model.specs.declared.event.Event.{Event}
use Rattle.ext_model.specs.Events.{place_of}
use Rattle.ext_model.specs.History.{History}
use Rattle.ext_one_report.proofs.Numbers.{enough_numbers}
use Rattle.ext_tree.specs.Keys.{KeyValue}
use Rattle.ext_tree.specs.Trees.{IsPathOf}
use Rattle.ext_lifecycle.specs.declared.call.Call.{Call}
use Rattle.ext_lifecycle.specs.Callbacks.{test_call}
use Rattle.ext_lifecycle.specs.FaultTexts.{NodeOutcome, fault_text}
use Rattle.ext_lifecycle.specs.Lifecycle.{computed_in, endings_of, found_in}
use Rattle.ext_lifecycle.specs.Results.{result_of, map_fault}
use Rattle.ext_locks.specs.Opening.{LocksView}
use Rattle.ext_plan.specs.Plans.{PlanText}
use Rattle.ext_plan.specs.PlanCalls.{test_of}
use Rattle.ext_plan.specs.ReadPlans.{ids_of_nodes}
use Rattle.ext_engine.specs.Meeting.{HasSeenWithin, first_seen}
use Rattle.ext_engine.specs.Order.{IsMadeIn, LaneGoesOn}
use Rattle.ext_engine.specs.TreeRun.{ClosesNode, Lanes, Ran, TestRun, TreeSetting}
use Rattle.ext_engine.proofs.Acts.{Acts, all_made_then, heads_go, same_made}
use Rattle.ext_engine.proofs.Going.{calls_go, close_goes}
use Rattle.ext_engine.proofs.Order.{came_from}
use Rattle.ext_engine.proofs.Seen.{acts_close, acts_first}
use Rattle.ext_one_report.proofs.Parts.{no_acts}
use Rattle.ext_plan_parallel.specs.declared.steps.stored_value.StoredValue.{StoredValue}
use Rattle.ext_plan_parallel.specs.StoreCalls.{PlanLane}
use Rattle.ext_plan_plain.specs.ValueStates.{ValueState}
use Rattle.ext_plan_plain.specs.ContextEnds.{faults_of_closes, seal_keys}
use Rattle.ext_plan_plain.specs.NodeCalls.{CallsEnd}
use Rattle.ext_plan_plain.specs.PlainRun.{RunState, outcome_of, test_node_run, with_result}
use Rattle.ext_plan_plain.proofs.Nodes.{start_is}
use Rattle.ext_one_report.proofs.CallListsWords.{CallsAlike}
use Rattle.ext_one_report.proofs.ComputedAbove.{NoneOpenAbove}
use Rattle.ext_one_report.proofs.MatchingWords.{HasNumberIn, Matches, Places, RunView, cell_of}
use Rattle.ext_one_report.proofs.StepsWords.{IsLaneIn}
use Rattle.ext_one_report.proofs.TestCallsWords.{TestHasRoom, afters_round, befores_round, plain_test}
use Rattle.ext_one_report.proofs.FrameNodes.{within_nodes}
use Rattle.ext_one_report.proofs.FrameSteps.{seals_leave}
use Rattle.ext_one_report.proofs.Orders.{AreInOrder, Orders}
use Rattle.ext_one_report.proofs.OrdersBounds.{have_drawn}
use Rattle.ext_one_report.proofs.OrdersHistory.{prefix_rises}
use Rattle.ext_one_report.proofs.OrdersLaws.{orders_fewer, orders_fresh, orders_then}
use Rattle.ext_one_report.proofs.Fills.{Fills, IsFilledBy, IsFilledIn, Spot, computed_at, computed_of, computed_told}
use Rattle.ext_one_report.proofs.FillsCounts.{computed_is, of_first, told_first}
use Rattle.ext_one_report.proofs.FillsLanes.{filled_by, filled_first, filled_in, filled_then}
use Rattle.ext_one_report.proofs.FillsLaws.{fills_as}
use Rattle.ext_one_report.proofs.ResultLists.{set-there}
use Rattle.ext_one_report.proofs.Open.{AreNear, Given, Open, also, is_left, of_value, some_or_none, still_open}
use Rattle.ext_one_report.proofs.OpenCalls.{BeforesFit, CallFitsOpen, CallsNear, FitsBehind, LeavesNear}
use Rattle.ext_one_report.proofs.OpenSteps.{AreBesideOpen}
use Rattle.ext_one_report.proofs.Shared.{unshared, SharesAbove}
use Rattle.ext_one_report.proofs.Closes.{ClosesLevel, IsClosedAlone}
use Rattle.ext_one_report.proofs.FullRuns.{setting_in}
use Rattle.ext_one_report.specs.Within.{is_within}
use Rattle.ext_one_report.proofs.Levels.{AreLevel, besides, outside}
use Rattle.ext_one_report.proofs.SharedNodesWords.{AllResultsNear, AreComputed, AreOwn, AreUntouched, BeginsNear, EndsNear, IsSharedBasis, TestsEndNear, AreNearWhere}
use Rattle.ext_one_report.proofs.Beside.{first_of_calls, test_made}
use Rattle.ext_one_report.proofs.CloseEnds.{close_orders, sealed_slot, closes_end_level}
use Rattle.ext_one_report.proofs.ClosePlain.{plain_seals_places}
use Rattle.ext_one_report.proofs.LanesAlone.{computed_part, first_is_alone, first_is_shown, is_more, is_on_place, lanes_in, own_part, view_moves}
use Rattle.ext_one_report.proofs.NodePlaces.{and_both, and_of, beyond_own, level_fewer, or_either, or_first}
use Rattle.ext_one_report.proofs.NodeTrees.{its_path, within_itself}
use Rattle.ext_one_report.proofs.SharedClosesOpen.{computed_fewer, near_after, none_elsewhere, own_standing, stand_after}
use Rattle.ext_one_report.proofs.SharedNodesBasis.{in_plan, run_tree}
use Rattle.ext_one_report.proofs.SharedNodesPlaces.{still_parts, unshared_is}
use Rattle.ext_one_report.proofs.SharedNodesResults.{near_none, near_own, told_as}
use Rattle.ext_one_report.proofs.SharedTestsOpen.{after_fits, befores_fit, body_fits, open_elsewhere, open_not_below, same_filled, shared_beside}
use Rattle.ext_one_report.proofs.TestRooms as rooms
use Rattle.ext_one_report.proofs.OpenTests.{test_ends_near}

module _ (plan : PlanText) (run : RunView) (locks : LocksView) (h : History) (touched changes : ℕ → Places) (changed : ℕ → List ℕ) (shares : ℕ → Open) where
  abbrev setting : TreeSetting StoredValue ℕ
  setting = setting_in plan run locks

  module _ (node : ℕ) (path : List ℕ) (open_at : Open) (before : Lanes StoredValue) (ran : List Ran) (after : Lanes StoredValue) (r : RunState)
      (basis : IsSharedBasis plan run locks h touched changes changed shares) (path_is : IsPathOf run.store.tree node path) (is_test : is_some (test_of plan node) ≡ true)
      (its_run : TestRun setting node path before ran after) (begins : BeginsNear plan run locks h touched changes changed shares node open_at before after r)
      (drawn : (test_node_run plan node path r).state.store.drawn < enough_numbers plan.size) where
    abbrev end : CallsEnd
    end = plain_test plan node path r.state

    abbrev sealed : ValueState
    sealed = seal_keys end.state.places node end.state

    abbrev places : Places
    places = unshared (touched node) open_at

    its : IsPathOf (ids_of_nodes plan.nodes) node path
    its = in_plan plan run locks h touched changes changed shares basis node path path_is

    in_nodes : node < length plan.nodes
    in_nodes = within_nodes plan node path basis.read.runnable.tree its

    -- what was computed above it is not open
    apart : NoneOpenAbove plan (drop 1 path) open_at
    apart = subst (λ l. NoneOpenAbove plan (drop 1 l) open_at) (sym (its_path plan basis.read.runnable.tree node path its)) begins.closed.none

    -- ---- its two parts

    called_acts : Acts h before.first its_run.called
    called_acts =
        acts_first h _ before.first its_run.called (λ a b made. calls_go setting (view_moves plan run) node (Some its_run.held) _ _ _ a its_run.outcomes b made) its_run.calls

    closed_acts : Acts h its_run.called after.first
    closed_acts =
        let it = its_run.closes.closes in
        acts_close h its_run.called after.first it.lanes (close_goes setting (view_moves plan run) _ its_run.called after.first it.lanes it.own_events)

    own_calls : AreOwn run h places (its_run.calls.lane ∷ its_run.calls.rest) (its_run.calls.left ∷ its_run.calls.rest)
    own_calls =
        let on = its_run.calls in
        let one = own_part h before.first before.first its_run.called after.first (no_acts h before.first) called_acts.goes closed_acts run places begins.own in
        subst (λ (l : List PlanLane). AreOwn run h places (on.lane ∷ on.rest) l) on.first_is (subst (λ (l : List PlanLane). AreOwn run h places l its_run.called) on.first_was one)

    computed_calls : AreComputed run h open_at (its_run.calls.lane ∷ its_run.calls.rest) (its_run.calls.left ∷ its_run.calls.rest)
    computed_calls =
        let on = its_run.calls in
        let one = computed_part h before.first before.first its_run.called after.first (no_acts h before.first) called_acts.goes closed_acts run open_at begins.computed in
        subst (λ (l : List PlanLane). AreComputed run h open_at (on.lane ∷ on.rest) l) on.first_is (subst (λ (l : List PlanLane). AreComputed run h open_at l its_run.called) on.first_was one)

    own_close : AreOwn run h places (its_run.calls.left ∷ its_run.calls.rest) after.first
    own_close =
        subst (λ (l : List PlanLane). AreOwn run h places l after.first) its_run.calls.first_is
        (own_part h before.first its_run.called after.first after.first called_acts closed_acts.goes (no_acts h after.first) run places begins.own)

    computed_close : AreComputed run h open_at (its_run.calls.left ∷ its_run.calls.rest) after.first
    computed_close =
        subst (λ (l : List PlanLane). AreComputed run h open_at l after.first) its_run.calls.first_is
        (computed_part h before.first its_run.called after.first after.first called_acts closed_acts.goes (no_acts h after.first) run open_at begins.computed)

    closes : ClosesNode setting node (its_run.calls.left ∷ its_run.calls.rest) its_run.faults after.first
    closes = subst (λ (l : List PlanLane). ClosesNode setting node l its_run.faults after.first) its_run.calls.first_is its_run.closes

    -- ---- the calls

    seen_left : HasSeenWithin h its_run.calls.left
    seen_left =
        let on = its_run.calls in
        All-head (HasSeenWithin h) on.left on.rest (subst (All (HasSeenWithin h)) on.first_is (came_from h its_run.called after.first closed_acts.goes begins.within))

    known_left : IsLaneIn run its_run.calls.left
    known_left =
        let on = its_run.calls in
        All-head (IsLaneIn run) on.left on.rest (subst (All (IsLaneIn run)) on.first_is (lanes_in run its_run.called after.first closed_acts.goes begins.lanes))

    beside : AreBesideOpen run path places open_at its_run.calls.lane its_run.calls.left r.state
    beside =
        let on = its_run.calls in
        record {
          view = basis.view;
          of = first_of_calls plan run locks node (Some its_run.held) (befores_round plan node path) (test_call node) (afters_round plan node path) on.lane its_run.outcomes on.left on.change;
          lane = known_left;
          legal = legal_begun (seen_by on.left.cells.view) h seen_left basis.legal;
          tree = run_tree plan run locks h touched changes changed shares basis;
          path_is = subst (λ n. IsPathOf run.store.tree n path) (sym (start_is run.store.tree node path path_is)) path_is;
          beside = shared_beside plan run locks h touched changes changed shares basis node open_at begins.open_is;
          alone = first_is_alone run h on.lane on.left on.rest seen_left places own_calls;
          computed = first_is_shown run h on.lane on.left on.rest seen_left open_at computed_calls;
          memory = begins.level.memory;
          keeps = begins.level.keeps;
          matches = subst (λ (l : List PlanLane). Matches run places (first_seen l) r.state) on.first_was begins.level.matches;
          numbered = begins.level.numbered;
          near = subst (λ (l : List PlanLane). AreNear run open_at (first_seen l) r.state) on.first_was begins.near;
        }

    holds : rooms.Holds plan run basis.read node path its is_test r.state
    holds = record { memory = begins.level.memory; keeps = begins.level.keeps; gave = begins.level.gave; of_plan = begins.level.of_plan }

    room : TestHasRoom plan node path r.state
    room =
        let seals = (seals_leave node end.state).drawn in
        rooms.room plan run basis.read node path its is_test r.state holds (omega (arith, seals, drawn))

    near : CallsNear its_run.outcomes end × (left : LeavesNear run places open_at its_run.calls.lane r.state its_run.calls.left end.state)
        × Fills (IsFilledBy run its_run.calls.lane its_run.calls.left) open_at (still_open left.settled open_at) r.state (computed_in its_run.outcomes) end.computed
    near =
        let on = its_run.calls in
        let makes = test_made plan run locks node (Some its_run.held) path on.lane its_run.outcomes on.left on.change in
        let befores_are = rooms.befores_are plan run basis.read node path its is_test in
        test_ends_near run plan node path places open_at on.lane its_run.outcomes on.left r.state path_is beside
        (subst (λ (calls : List Call). BeforesFit run plan path places open_at calls) befores_are (befores_fit plan run locks h touched changes changed shares basis node path its open_at begins.open_is apart))
        (subst (λ (calls : List Call). FitsBehind run plan path places open_at calls (test_call node)) befores_are
        (body_fits plan run locks h touched changes changed shares basis node path its open_at begins.open_is apart))
        (rooms.all_after plan run basis.read node path its is_test (CallFitsOpen run plan path places open_at)
        (after_fits plan run locks h touched changes changed shares basis node path its open_at begins.open_is apart)) room makes.0 makes.1

    abbrev settled : Places
    settled = near.1.settled

    -- ---- the close

    abbrev around : Places
    around = also settled places

    elsewhere : (context : ℕ) (key : KeyValue) (v : Given) → open_at context key ≡ Some v → context ≢ node
    elsewhere = open_elsewhere plan run locks h touched changes changed shares basis node path its open_at begins.open_is

    own_around : AreOwn run h around (its_run.calls.left ∷ its_run.calls.rest) after.first
    own_around =
        let standing = own_standing plan run locks h basis.view basis.legal node its_run.calls.left its_run.calls.rest after.first its_run.faults closes begins.within open_at computed_close settled
        (λ context key number on has. let was = near.1.were_open context key on in (was.0, was.1, (near.1.stand context key was.0 on was.1).lanes number has)) in
        record {
          own = λ context number place key event is has seen there at. elim (or_either (places context key) (settled context key) is) [
            | inl place_is ↦ own_close.own context number place key event place_is has seen there at
            | inr on ↦ standing.own context number place key event on has seen there at
          ];
        }

    around_own : (key : KeyValue) → around node key ≡ true
    around_own key =
        or_first (places node key) (settled node key) (elim (some_or_none (open_at node key)) [
          | inl none ↦ unshared_is (touched node) open_at node key (basis.covered.touches node node key (basis.covered.own node key in_nodes)) none
          | inr some ↦ absurd (elsewhere node key some.0 some.1 refl)
        ])

    -- where the counts are those of the lanes, the calls end alike
    abbrev said : CallsEnd
    said = record end { computed = computed_in its_run.outcomes; found = found_in its_run.outcomes }

    alike : CallsAlike run around its_run.outcomes its_run.calls.left said
    alike = record { says = near.0.says; computed = refl; found = refl; matches = near.1.matches; numbered = near.1.numbered }

    level : AreLevel plan run around (seen_by its_run.calls.left.cells.view) end.state
    level =
        let kept = rooms.last_holds plan run basis.read node path its is_test r.state holds in
        record { matches = near.1.matches; numbered = near.1.numbered; memory = kept.memory; keeps = kept.keeps; gave = kept.gave; of_plan = kept.of_plan }

    alone_close : IsClosedAlone plan run locks h touched changes changed shares node around its_run.calls.left its_run.calls.rest its_run.faults after.first
    alone_close = record { basis = basis; inside = in_nodes; closes = closes; within = begins.within; lanes = begins.lanes; own = own_around; all = around_own }

    -- nothing stood in its context before, so what is closed is in one order
    itself : is_within plan node node ≡ true
    itself = within_itself plan basis.read.runnable.tree node path its

    own_places : (key : KeyValue) → places node key ≡ true
    own_places key = elim (some_or_none (open_at node key)) [
      | inl none ↦ unshared_is (touched node) open_at node key (basis.covered.touches node node key (basis.covered.own node key in_nodes)) none
      | inr some ↦ absurd (elsewhere node key some.0 some.1 refl)
    ]

    orders_called : Orders run places (first_seen before.first) (seen_by its_run.calls.left.cells.view) r.state end.state
    orders_called = subst (λ (l : List PlanLane). Orders run places (first_seen l) (seen_by its_run.calls.left.cells.view) r.state end.state) (sym its_run.calls.first_was) near.1.orders

    in_order : AreInOrder run node (seen_by its_run.calls.left.cells.view) end.state
    in_order = orders_fresh run places (first_seen before.first) (seen_by its_run.calls.left.cells.view) r.state end.state node (λ key. (begins.fresh node in_nodes itself).none key) own_places orders_called

    closed : ClosesLevel plan run node around true its_run.outcomes its_run.faults (first_seen after.first) said
    closed =
        closes_end_level plan run locks h touched changes changed shares node true around its_run.calls.left its_run.calls.rest its_run.outcomes its_run.faults after.first said alone_close level in_order alike

    -- and in other contexts numbers stay in their order
    abbrev out : Places
    out = outside plan node places

    out_around : (context : ℕ) (key : KeyValue) → out context key ≡ true → besides node around context key ≡ true
    out_around context key is =
        let parts = and_both (places context key) (not (is_within plan node context)) is in
        beyond_own plan node around itself context key (and_of (around context key) (not (is_within plan node context)) (or_first (places context key) (settled context key) parts.0) parts.1)

    orders_ended : Orders run out (first_seen before.first) (first_seen after.first) r.state sealed
    orders_ended =
        let goes = subst (λ (l : List PlanLane). IsPrefix (first_seen before.first) (first_seen l)) its_run.calls.first_is (heads_go before.first its_run.called called_acts.goes) in
        orders_then run out (first_seen before.first) (seen_by its_run.calls.left.cells.view) (first_seen after.first) r.state end.state sealed (prefix_rises (first_seen before.first) (seen_by its_run.calls.left.cells.view) goes) near.1.rises
        (have_drawn plan run out run.store.id.cells.limits (seen_by its_run.calls.left.cells.view) end.state (legal_begun (seen_by its_run.calls.left.cells.view) h seen_left basis.legal) level.of_plan)
        (orders_fewer run places out (first_seen before.first) (seen_by its_run.calls.left.cells.view) r.state end.state (λ context key is. (and_both (places context key) (not (is_within plan node context)) is).0) orders_called)
        (orders_fewer run (besides node around) out (seen_by its_run.calls.left.cells.view) (first_seen after.first) end.state sealed out_around
        (close_orders plan run locks h touched changes changed shares node around its_run.calls.left its_run.calls.rest its_run.faults after.first alone_close end.state level))

    -- ---- what is told

    abbrev own : Ran
    own = record { result = result_of node true (endings_of its_run.outcomes) (computed_in its_run.outcomes) (found_in its_run.outcomes) its_run.faults; went_on = true }

    abbrev outcome : NodeOutcome
    outcome = outcome_of node true end (faults_of_closes end.state.places node sealed)

    told : AreNearWhere (SharesAbove plan shares node) (map_fault fault_text own.result) outcome
    told =
        told_as (SharesAbove plan shares node) node true its_run.outcomes its_run.faults end (faults_of_closes end.state.places node sealed) closed.told near.0.counts
        (λ nothing.
        let same = same_filled plan shares node open_at (still_open settled open_at) (IsFilledBy run its_run.calls.lane its_run.calls.left) r.state (computed_in its_run.outcomes) end.computed begins.open_is begins.closed.none nothing near.2 in
        record { computed = same; found = omega (arith, same, near.0.counts) })

    all_told : AllResultsNear (SharesAbove plan shares) ran r.results (test_node_run plan node path r).results
    all_told =
        let long = begins.results in
        subst (λ rs. AllResultsNear (SharesAbove plan shares) rs r.results (test_node_run plan node path r).results) (sym its_run.ran_is)
        (near_own (SharesAbove plan shares) own [] r.results r.results outcome told (let n = in_nodes in omega (arith, n, long)) (λ has. contains_none node has) (near_none (SharesAbove plan shares) r.results))

    -- ---- open places

    near_still : AreNear run (still_open settled open_at) (first_seen after.first) sealed
    near_still =
        let still : (context : ℕ) (key : KeyValue) (v : Given) → still_open settled open_at context key ≡ Some v → open_at context key ≡ Some v =
        λ context key v is. (still_parts settled open_at context key v is).1 in
        near_after plan run locks h basis.view basis.legal node its_run.calls.left its_run.calls.rest after.first its_run.faults closes begins.within (still_open settled open_at)
        (computed_fewer run h open_at (still_open settled open_at) (its_run.calls.left ∷ its_run.calls.rest) after.first still computed_close) end.state
        (λ context key v is. elsewhere context key v (still context key v is))
        (λ context key v above is its_path.
        open_not_below plan run locks h touched changes changed shares basis node path its open_at begins.open_is context key v above (still context key v is) its_path)
        near.1.near

    -- neither its calls nor its close make an event where a place is open still
    untouched : AreUntouched run h open_at settled before.first after.first
    untouched = record {
      none = λ context number place key v event is off leaves has there at made. elim (all_made_then h before.first its_run.called after.first place called_acts.goes made) [
        | inl early ↦ by_calls context number place key v event is off leaves has there at early
        | inr late ↦
            none_elsewhere plan run locks h basis.view basis.legal node its_run.calls.left its_run.calls.rest after.first its_run.faults closes begins.within
            context number place key event (elsewhere context key v is) has there at (subst (λ (l : List PlanLane). IsMadeIn h place l after.first) its_run.calls.first_is late)
      ];
    }
      where
        by_calls : (context number place : ℕ) (key : KeyValue) (v : Given) (event : Event ℕ) → open_at context key ≡ Some v → settled context key ≡ false → is_left v ≡ true → HasNumberIn run key number
            → slice_get h place ≡ Some event → place_of event.act ≡ Some (cell_of run number context) → IsMadeIn h place before.first its_run.called → ⊥
        by_calls context number place key v event is off leaves has there at early =
            let on = its_run.calls in
            let made : IsMadeIn h place (on.lane ∷ on.rest) (on.left ∷ on.rest) =
            subst (λ (l : List PlanLane). IsMadeIn h place (on.lane ∷ on.rest) l) on.first_is (subst (λ (l : List PlanLane). IsMadeIn h place l its_run.called) on.first_was early) in
            elim made [
              | inr none ↦ absurd (same_made h on.rest place none)
              | inl one ↦
                  let goes : LaneGoesOn on.lane on.left = calls_go setting (view_moves plan run) node (Some its_run.held) _ _ _ on.lane its_run.outcomes on.left on.change in
                  let both : Some one.event ≡ Some event = sym one.there ∙ there in
                  let same : one.event ≡ event = cc both in
                  near.1.untouched context key number v off is leaves has goes.seen.0 (sym goes.seen.1) event
                  (is_more h (seen_by on.lane.cells.view) (seen_by on.left.cells.view) goes.seen seen_left place event there one.since one.until)
                  (is_on_place (cell_of run number context) event.act at) (sym (ap (λ (x : Event ℕ). x.lane) same) ∙ one.own_event)
            ]

    -- ---- values that were filled

    -- what its lanes fill at open places its calls do, and not the close
    called_fill : (spot : Spot) → IsFilledIn run h before.first its_run.called spot → IsFilledBy run its_run.calls.lane its_run.calls.left spot
    called_fill spot filled =
        let on = its_run.calls in
        let goes : LaneGoesOn on.lane on.left = calls_go setting (view_moves plan run) node (Some its_run.held) _ _ _ on.lane its_run.outcomes on.left on.change in
        filled_by run h on.lane on.left on.rest seen_left spot goes.seen
        (subst (λ (l : List PlanLane). IsFilledIn run h (on.lane ∷ on.rest) l spot) on.first_is (subst (λ (l : List PlanLane). IsFilledIn run h l its_run.called spot) on.first_was filled))

    fill_called : (spot : Spot) → IsFilledBy run its_run.calls.lane its_run.calls.left spot → IsFilledIn run h before.first its_run.called spot
    fill_called spot filled =
        let on = its_run.calls in
        subst (λ (l : List PlanLane). IsFilledIn run h l its_run.called spot) (sym on.first_was)
        (subst (λ (l : List PlanLane). IsFilledIn run h (on.lane ∷ on.rest) l spot) (sym on.first_is) (filled_in run h on.lane on.left on.rest seen_left spot filled))

    closed_fill : (spot : Spot) (v : Given) → open_at spot.0 spot.1 ≡ Some v → IsFilledIn run h its_run.called after.first spot → ⊥
    closed_fill spot v is filled =
        none_elsewhere plan run locks h basis.view basis.legal node its_run.calls.left its_run.calls.rest after.first its_run.faults closes begins.within
        spot.0 filled.number filled.place spot.1 filled.event (elsewhere spot.0 spot.1 v is) filled.has filled.there (ap place_of filled.act)
        (subst (λ (l : List PlanLane). IsMadeIn h filled.place l after.first) its_run.calls.first_is filled.made)

    lanes_computed : computed_in its_run.outcomes ≡ computed_of ran
    lanes_computed =
        let one : computed_of (own ∷ []) ≡ computed_in its_run.outcomes + 0 = of_first own [] in
        let is : computed_of (own ∷ []) ≡ computed_of ran = ap computed_of (sym its_run.ran_is) in
        omega (arith, one, is)

    plain_computed : end.computed ≡ computed_told ran (test_node_run plan node path r).results
    plain_computed =
        let results = with_result outcome r.results in
        let n = in_nodes in
        let long = begins.results in
        let at : computed_at results node ≡ end.computed = computed_is results node outcome (set-there r.results node outcome (omega (arith, n, long))) in
        let one : computed_told (own ∷ []) results ≡ computed_at results node + 0 = told_first own [] results in
        let is : computed_told (own ∷ []) results ≡ computed_told ran results = ap (λ (l : List Ran). computed_told l results) (sym its_run.ran_is) in
        omega (arith, at, one, is)

    fills : Fills (IsFilledIn run h before.first after.first) open_at (still_open settled open_at) r.state (computed_of ran) (computed_told ran (test_node_run plan node path r).results)
    fills =
        fills_as (IsFilledBy run its_run.calls.lane its_run.calls.left) (IsFilledIn run h before.first after.first) open_at (still_open settled open_at) r.state
        (computed_in its_run.outcomes) end.computed (computed_of ran) (computed_told ran (test_node_run plan node path r).results)
        (λ spot v is filled. filled_first run h before.first its_run.called after.first closed_acts.goes spot (fill_called spot filled))
        (λ spot v is filled. elim (filled_then run h before.first its_run.called after.first called_acts.goes spot filled) [
          | inl early ↦ called_fill spot early
          | inr late ↦ absurd (closed_fill spot (of_value v) is late)
        ]) lanes_computed plain_computed near.2

    test_near : EndsNear plan run locks h touched changes changed shares node open_at before ran after r (test_node_run plan node path r)
    test_near = record {
      settled = settled;
      were_open = near.1.were_open;
      level = level_fewer plan run (besides node around) (outside plan node around) (first_seen after.first) sealed
          (beyond_own plan node around (within_itself plan basis.read.runnable.tree node path its)) closed.level;
      near = near_still;
      stand = λ context key v on is.
          stand_after plan run locks h basis.view basis.legal node its_run.calls.left its_run.calls.rest after.first its_run.faults closes begins.within open_at computed_close
          context key v end.state is (elsewhere context key v is) (near.1.stand context key v on is);
      unchanged = λ context key v off is.
          sealed_slot node end.state sealed (plain_seals_places node end.state) context key (elsewhere context key v is) ∙ near.1.unchanged context key v off is;
      untouched = untouched;
      told = all_told;
      fills = fills;
      orders = orders_ended;
    }

  pub tests_end_near : TestsEndNear plan run locks h touched changes changed shares
  tests_end_near node path open_at before ran after r basis path_is is_test its_run begins drawn = test_near node path open_at before ran after r basis path_is is_test its_run begins drawn
